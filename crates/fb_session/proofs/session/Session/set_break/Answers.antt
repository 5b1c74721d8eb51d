use Rattle.fb_types.proofs.Common.{◌≡◌, ◌+◌, ◌<◌, ◌^◌, ◌++◌, ◌∷◌, ◌∙◌, [], List, ap, arith, length, refl, subst}
use Rattle.fb_session.specs.Pasts.{Talk}
use Rattle.fb_session.specs.declared.breaks.Break.{Break}
use Rattle.fb_session.specs.declared.breaks.TheConstants.{MOST_BREAKS}
use Rattle.fb_session.specs.declared.stage.Stage.TheVariants as going
use Rattle.fb_session.proofs.lemmas.BreakingIs.{next_counts, next_is, only_from, unset_for_memory}
use Rattle.fb_session.proofs.lemmas.Seen.{seen}
use Rattle.fb_session.proofs.session.Session.set_break.Goals as goal

pub returns-in_err-add-clause-only : goal.returns-in_err-add-clause-only
returns-in_err-add-clause-only c = only_from _ _ _ _ c.self.view_is refl refl

pub returns-in_err-add-clause-set : goal.returns-in_err-add-clause-set
returns-in_err-add-clause-set c =
    unset_for_memory _ _ _ c.from_residual-in_err-add.result c.from_residual-in_err-add.ensures.1 (subst (λ (t : Talk). t.stage ≡ going.Running) c.self.view_is c.in-Running.is)
    (subst (λ (t : Talk). length t.breaks < MOST_BREAKS) c.self.view_is (omega arith))
    (subst (λ (t : Talk). t.set + 1 < 2 ^ 64) c.self.view_is (next_counts _ c.checked_add.result (c.self.inside.breaks.count + 1) c.in-Some.number c.checked_add.ensures c.in-Some.is))
    (ap (λ (bs : List Break). record (seen c.self.inside) { breaks = bs }) c.in_err-add.ensures.err ∙ c.self.view_is)

pub returns-clause-only : goal.returns-clause-only
returns-clause-only c = only_from _ _ _ _ c.self.view_is refl refl

pub returns-clause-set : goal.returns-clause-set
returns-clause-set c =
    let one : Break = record { number = c.in-Some.number; pattern = c.in-Some-2.pattern } in (
      next_is _ c.checked_add.result (c.self.inside.breaks.count + 1) c.in-Some.number c.checked_add.ensures c.in-Some.is ∙ ap (λ (t : Talk). t.set + 1) c.self.view_is,
      refl,
      (c.in-Some-2.pattern, rw c.in-Some-2.is at c.in_ok-pattern.ensures, c.in_ok-add.ensures.ok ∙ ap (λ (t : Talk). t.breaks ++ one ∷ []) c.self.view_is),
      subst (λ (t : Talk). t.stage ≡ going.Running) c.self.view_is c.in-Running.is,
      subst (λ (t : Talk). length t.breaks < MOST_BREAKS) c.self.view_is (omega arith),
    )
