use Rattle.fb_types.proofs.Common.{◌≡◌, ℕ, List, Some, inr, refl, subst, sym, system_of, path_at, path_text}
use Rattle.fb_types.specs.OfSystem.{IsInstance}
use Rattle.fb_session.specs.Pasts.{IsAlive, StandsBy, Talk, now}
use Rattle.fb_session.specs.Shown.{IsBlockShown, ShowsPath}
use Rattle.fb_session.specs.declared.fault.SessionFault.{SessionFault}
use Rattle.fb_session.specs.declared.stage.Stage.{Stage}
use Rattle.fb_session.specs.declared.stage.Stage.TheVariants as stage
use Rattle.fb_session.proofs.session.Session.show.Goals as goal

-- no failure is left
is_alive : (s : Stage) → ((fault : SessionFault) → s ≡ stage.Failed fault → ⊥) → IsAlive s
is_alive stage.Running unfailed = tt
is_alive (stage.Stopped m) unfailed = tt
is_alive (stage.Failed fault) unfailed = unfailed fault refl

pub returns-in_default-instance_at : goal.returns-in_default-instance_at
returns-in_default-instance_at c =
    inr
    (subst (λ (t : Talk). (k : ℕ) → IsInstance t.inputs k → path_text (path_at (system_of t.inputs) k) ≡ c.args.path.now → ⊥) c.self.view_is c.in_default-instance_at.ensures.none)

pub put_block-requires : goal.put_block-requires
put_block-requires c =
    let p = c.requires.0 in
    let was = subst (λ (t : Talk). StandsBy t p) (sym c.self.view_is) c.requires.1 in
    let alive = is_alive _ c.in_default.not-Failed in
    let goes = was.goes alive in
    record {
      instance = c.in-Some.ensures.some.0;
      ready = (c.self.inside.steps, goes.0, goes.2);
      represents = (now c.self.inside.system.now p, was.at alive);
    }

pub returns : goal.returns
returns c =
    let i = c.self.inside.system.now in
    let alive = is_alive _ c.in_default.not-Failed in
    let k = c.in-Some.instance in
    let text = c.put_block.new.text.items in
    subst (λ (t : Talk). ShowsPath t c.args.path.now (Some text)) c.self.view_is (
      alive,
      k,
      c.in-Some.ensures.some.0,
      c.in-Some.ensures.some.1,
      λ p was. subst (λ (old : List ℕ). IsBlockShown i (now i p) k old text) c.in_ok-text.ensures (c.in_ok-put_block.ensures (now i p) (was.at alive)),
    )
