use Rattle.fb_types.proofs.Common.{◌<◌, length, IfSome, None, option_map, ChartReacts, Position, event_at}
use Rattle.fb_st.specs.Frames.{values_of}
use Rattle.fb_ecc.specs.Indexes.{IsBlockOf, index, sampled}
use Rattle.fb_ecc.specs.Links.{Chain}
use Rattle.fb_stop.specs.Sites.{ChainStops, ReactionStops}
use Rattle.fb_stop.specs.declared.site.ReactionStop.{ReactionStop}
use Rattle.fb_stop.proofs.reaction.locate.Given as goal

-- what a chain from here does, the reaction does from its start
abbrev pub invariant-loop-present : goal.invariant-loop-present
invariant-loop-present l =
    let begun = record (index l.block l.fn.state.state l.fn.state.frame l.fn.meter.left l.fn.emits) { vars = sampled l.block l.event l.values (values_of l.fn.state.frame) } in
    let here = index l.block l.state.state l.state.frame l.meter.left l.emits in
    let present = option_map (event_at l.block.ports.event_inputs) l.present in
    let event = event_at l.block.ports.event_inputs l.event in
    record {
      stops : (x : ReactionStop) (q : Position) → ChainStops l.block present here x q → ReactionStops l.block event begun x q;
      rests : (q : Position) → Chain l.block present here None q → ChartReacts l.block event begun None q;
      block : IsBlockOf l.block l.state;
      within : IfSome l.present (λ e. e < length l.block.ports.event_inputs);
    }

abbrev pub decreases-loop-present : goal.decreases-loop-present
decreases-loop-present l = l.meter.left
