use Rattle.fb_types.proofs.Common.{List, ap, refl, sym, ◌∙◌}
use Rattle.std.specs.List.{remove}
use Rattle.fb_session.specs.declared.breaks.Break.{Break}
use Rattle.fb_session.specs.Pasts.{Talk}
use Rattle.fb_session.proofs.lemmas.BreakingIs.{is_removed, not_found, only_from}
use Rattle.fb_session.proofs.session.Session.clear_break.Goals as goal

pub returns-in-Some-clause-only : goal.returns-in-Some-clause-only
returns-in-Some-clause-only c = only_from _ _ _ _ c.self.view_is refl refl

pub returns-in-Some-clause-cleared : goal.returns-in-Some-clause-cleared
returns-in-Some-clause-cleared c = (
  ap (λ (t : Talk). t.set) c.self.view_is,
  is_removed c.args.number _ _ _ c.index_of.result c.in-Some.index c.index_of.ensures (c.as_slice.ensures.value ∙ ap (λ (t : Talk). t.breaks) c.self.view_is) c.in-Some.is
      (c.remove.ensures.items ∙ ap (λ (bs : List Break). remove bs c.in-Some.index) (sym c.as_slice.ensures.value)),
)

pub returns-in-None-clause-cleared : goal.returns-in-None-clause-cleared
returns-in-None-clause-cleared c = (
  not_found c.args.number _ _ c.index_of.result c.index_of.ensures (c.as_slice.ensures.value ∙ ap (λ (t : Talk). t.breaks) c.self.view_is) c.in-None.is,
  refl,
)
