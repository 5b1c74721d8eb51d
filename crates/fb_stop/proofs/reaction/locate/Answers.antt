use Rattle.fb_types.proofs.Common.{◌≡◌, ◌∙◌, zero, ℕ, None, ap, subst, option_map, ChartReacts, Position, event_at, Values}
use Rattle.fb_st.specs.Frames.{values_of}
use Rattle.fb_ecc.specs.Indexes.{index, sampled}
use Rattle.fb_stop.specs.Links.{GoesOn}
use Rattle.fb_stop.specs.Sites.{ReactionStops}
use Rattle.fb_stop.specs.declared.reaction.LinkEnd.{LinkEnd}
use Rattle.fb_stop.proofs.lemmas.copies.Stopping.{chain_on, stops_on}
use Rattle.fb_stop.proofs.reaction.locate.Goals as goal

pub loop-present-init : goal.loop-present-init
loop-present-init c =
    let block = c.args.block.now in
    let event = event_at block.ports.event_inputs c.args.event in
    let old = c.args.state.now in
    let new = c.begin.new.state in
    let start = index block old.state old.frame c.args.meter.now.left c.args.emits.now in
    let begun : Position = record start { vars = sampled block c.args.event c.args.values.now (values_of old.frame) } in
    let here = index block new.state new.frame c.args.meter.now.left c.args.emits.now in
    let same : here ≡ begun =
    ap (λ (n : ℕ). index block n new.frame c.args.meter.now.left c.args.emits.now) c.begin.ensures.state
    ∙ ap (λ (vs : Values). record start { vars = vs }) c.begin.ensures.sampled in
    record {
      stops = λ x q h. subst (λ (p : Position). ReactionStops block event p x q) same h;
      rests = λ q h. subst (λ (p : Position). ChartReacts block event p None q) same h;
      block = c.begin.ensures.block;
      within = c.requires.event;
    }

pub loop-present-preserved : goal.loop-present-preserved
loop-present-preserved c =
    let block = c.args.block.now in
    let present = option_map (event_at block.ports.event_inputs) c.loop-present.present in
    let inv = c.loop-present.invariant in
    let p = index block c.loop-present.state.state c.loop-present.state.frame c.loop-present.meter.left c.loop-present.emits in
    let m = index block c.link.new.state.state c.link.new.state.frame c.link.new.meter.left c.link.new.emits in
    let led = subst (λ (e : LinkEnd). GoesOn block present e p m) c.in-Went.is c.in_ok-link.ensures.link in
    record {
      stops = λ x q h. inv.stops x q (stops_on block present p m q x led h);
      rests = λ q h. inv.rests q (chain_on block present p m q None led h);
      block = c.link.ensures.block;
      within = tt;
    }

pub returns-in-Rested-clause-reacted : goal.returns-in-Rested-clause-reacted
returns-in-Rested-clause-reacted c =
    let block = c.args.block.now in
    let present = option_map (event_at block.ports.event_inputs) c.loop-present.present in
    let p = index block c.loop-present.state.state c.loop-present.state.frame c.loop-present.meter.left c.loop-present.emits in
    let m = index block c.link.new.state.state c.link.new.state.frame c.link.new.meter.left c.link.new.emits in
    c.loop-present.invariant.rests m (zero, subst (λ (e : LinkEnd). GoesOn block present e p m) c.in-Rested.is c.in_ok-link.ensures.link)

pub returns-in-Stopped-clause-reacted : goal.returns-in-Stopped-clause-reacted
returns-in-Stopped-clause-reacted c =
    let block = c.args.block.now in
    let present = option_map (event_at block.ports.event_inputs) c.loop-present.present in
    let p = index block c.loop-present.state.state c.loop-present.state.frame c.loop-present.meter.left c.loop-present.emits in
    let m = index block c.link.new.state.state c.link.new.state.frame c.link.new.meter.left c.link.new.emits in
    c.loop-present.invariant.stops c.in-Stopped.stop m (zero, subst (λ (e : LinkEnd). GoesOn block present e p m) c.in-Stopped.is c.in_ok-link.ensures.link)
