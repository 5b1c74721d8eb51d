use Rattle.fb_types.proofs.Common.{◌∙◌, ℕ, List, refl, sym, ap, subst, IfSome, option_map, leaving, event_at, Values}
use Rattle.fb_st.specs.Frames.{values_of}
use Rattle.fb_st.specs.declared.frame.Slot.{Slot}
use Rattle.fb_ecc.specs.Indexes.{index, state_at}
use Rattle.fb_stop.specs.Sites.{FailsAt, FailsInGuard, IsGuardOtherwise}
use Rattle.fb_stop.proofs.lemmas.copies.Failing.{fails_at}
use Rattle.fb_stop.proofs.lemmas.numbers.NothingSaid.{guard_alone, if_none_map}
use Rattle.fb_stop.proofs.reaction.link.Goals as goal

pub returns-in-Err-clause-link : goal.returns-in-Err-clause-link
returns-in-Err-clause-link c =
    let block = c.args.block.now in
    let event = option_map (event_at block.ports.event_inputs) c.args.present in
    let state = c.args.state.now in
    let new = c.clear.new.state in
    let left = c.clear.new.meter.left in
    let emits = c.args.emits.now in
    let ts = leaving block (state_at block state.state) in
    record {
      state = refl;
      here = subst (λ (j : ℕ). FailsAt ts event (values_of state.frame) c.args.meter.now.left c.in-Err.reason j) (sym c.failing-transition.ensures)
          (fails_at event (values_of state.frame) ts c.args.meter.now.left c.in-Err.reason left c.in-Err.ensures.trial);
      within = subst (λ (vs : Values). IfSome c.inside_guard-operation.result (FailsInGuard ts c.failing-transition.result vs c.in-Err.reason)) (ap values_of c.clear.ensures.frame) c.inside_guard-operation.ensures.found;
      alone = if_none_map c.inside_guard-operation.result
          (λ other.
          guard_alone ts event (values_of state.frame) c.args.meter.now.left c.in-Err.reason c.failing-transition.result
          (subst (λ (j : ℕ). FailsAt ts event (values_of state.frame) c.args.meter.now.left c.in-Err.reason j) (sym c.failing-transition.ensures)
          (fails_at event (values_of state.frame) ts c.args.meter.now.left c.in-Err.reason left c.in-Err.ensures.trial))
          (subst (λ (vs : Values). IsGuardOtherwise ts c.failing-transition.result vs c.in-Err.reason) (ap values_of c.clear.ensures.frame) other))
          c.inside_guard-operation.ensures.none;
      tried = c.in-Err.ensures.trial;
      stays = ap (λ (n : ℕ). index block n new.frame left emits) c.in-Err.ensures.stopped ∙ ap (λ (f : List Slot). index block state.state f left emits) c.clear.ensures.frame;
    }
