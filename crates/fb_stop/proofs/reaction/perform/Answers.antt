use Rattle.fb_types.proofs.Common.{◌≡◌, ◌<◌, ◌∷◌, ◌∙◌, [], ℕ, List, length, Some, Err, refl, sym, ap, subst, arith, IfSome, slice_get, Values, Acts, Moving, Position, actions_of}
use Rattle.fb_types.specs.declared.library.Action.{Action}
use Rattle.fb_types.specs.declared.run.Halt.{Halt}
use Rattle.fb_types.specs.declared.value.Reason.{Reason}
use Rattle.fb_types.specs.declared.run.Halt.TheVariants as halt
use Rattle.fb_types.proofs.lemmas.lists.ByIndex.{element_at}
use Rattle.fb_ecc.specs.Indexes.{Ended, index, state_at}
use Rattle.fb_stop.specs.Sites.{IsActionOtherwise, StopsInBody}
use Rattle.fb_stop.specs.declared.site.Site.TheVariants as site
use Rattle.fb_st.specs.Frames.{values_of}
use Rattle.fb_stop.proofs.lemmas.copies.Stopping.{acts_more}
use Rattle.fb_stop.proofs.lemmas.numbers.NothingSaid.{if_none_map}
use Rattle.fb_stop.proofs.reaction.perform.Goals as goal

stop_of : (h : Halt) (r : Reason) (moves : Moving) (p q : Position) → h ≡ halt.Stop r → Ended (Err h) moves p q → moves p (Some r) q
stop_of h r moves p q is ended = subst (λ (z : Halt). Ended (Err z) moves p q) is ended

pub returns-in-Err-Stop-clause-performed : goal.returns-in-Err-Stop-clause-performed
returns-in-Err-Stop-clause-performed c =
    let block = c.args.block.now in
    let j : ℕ = c.loop-action.action in
    let inv = c.loop-action.invariant in
    let actions : List Action = actions_of block (state_at block c.args.state.now.state) in
    let count = c.action_count-action-end.ensures block c.requires.sound c.requires.block in
    let test = c.loop-action-test.true in
    let within : j < length actions = omega (arith, count, test) in
    let a = element_at actions j within in
    let at = subst (λ (n : ℕ). slice_get (actions_of block (state_at block n)) j ≡ Some a.0) (sym inv.state) a.1 in
    let m = index block c.loop-action.state.state c.loop-action.state.frame c.loop-action.meter.left c.loop-action.emits in
    let q = index block c.act.new.state.state c.act.new.state.frame c.act.new.meter.left c.act.new.emits in
    let there = subst (λ (n : ℕ). slice_get (actions_of block (state_at block n)) j ≡ Some a.0) (sym c.act.ensures.state) at in (
      j,
      c.inside_action-inside.result,
      ap (λ (n : ℕ). site.Action n j c.inside_action-inside.result) (c.act.ensures.state ∙ inv.state),
      record {
        between = m;
        before = inv.performed;
        action = a.0;
        at = a.1;
        stops = rw c.in-Err-Stop.field-0-is (stop_of _ c.in-Err-Stop.reason (Acts block (a.0 ∷ []) c.loop-action.meter.left) m q c.in-Err-Stop.field-0-is (c.in-Err-Stop.ensures.performed a.0 at));
        within = rw c.in-Err-Stop.field-0-is
            (subst (λ (vs : Values). IfSome c.inside_action-inside.result (StopsInBody block a.0 vs c.loop-action.meter.left c.in-Err-Stop.reason)) c.in_ok-before.ensures.values
            (rw c.in-Err-Stop.field-0-is at (c.inside_action-inside.ensures.found a.0 there)));
        alone = if_none_map c.inside_action-inside.result
            (λ (other : IsActionOtherwise block a.0 (values_of c.in_ok-before.before) c.loop-action.meter.left c.in-Err-Stop.reason).
            other m q (sym c.in_ok-before.ensures.values)
            (stop_of _ c.in-Err-Stop.reason (Acts block (a.0 ∷ []) c.loop-action.meter.left) m q c.in-Err-Stop.field-0-is (c.in-Err-Stop.ensures.performed a.0 at)))
            (rw c.in-Err-Stop.field-0-is at (c.inside_action-inside.ensures.none a.0 there));
      },
    )

pub loop-action-init : goal.loop-action-init
loop-action-init c = record { performed = (refl, refl); state = refl; block = c.requires.block; fewer = omega arith }

pub loop-action-preserved : goal.loop-action-preserved
loop-action-preserved c =
    let block = c.args.block.now in
    let j : ℕ = c.loop-action.action in
    let inv = c.loop-action.invariant in
    let actions : List Action = actions_of block (state_at block c.args.state.now.state) in
    let count = c.action_count-action-end.ensures block c.requires.sound c.requires.block in
    let test = c.loop-action-test.true in
    let within : j < length actions = omega (arith, count, test) in
    let a = element_at actions j within in
    let at = subst (λ (n : ℕ). slice_get (actions_of block (state_at block n)) j ≡ Some a.0) (sym inv.state) a.1 in
    let p = index block c.args.state.now.state c.args.state.now.frame c.args.meter.now.left c.args.emits.now in
    let m = index block c.loop-action.state.state c.loop-action.state.frame c.loop-action.meter.left c.loop-action.emits in
    let q = index block c.act.new.state.state c.act.new.state.frame c.act.new.meter.left c.act.new.emits in
    record {
      performed = acts_more block actions j a.0 p m q a.1 inv.performed (c.in-Ok.ensures.performed a.0 at);
      state = c.act.ensures.state ∙ inv.state;
      block = c.act.ensures.block;
      fewer = let one = c.act.ensures.fewer in let before = inv.fewer in omega (arith, one, before);
    }
