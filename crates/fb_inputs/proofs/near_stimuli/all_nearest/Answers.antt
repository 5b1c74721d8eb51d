use Rattle.fb_types.proofs.Common.{List, subst, arith, AllZip, take_all}
use Rattle.fb_inputs.specs.NearSpans.{IsNearInStimuli}
use Rattle.fb_inputs.specs.declared.position.StimuliPosition.{StimuliPosition}
use Rattle.fb_inputs.proofs.lemmas.positions.NearestSpans.{one_near}
use Rattle.fb_inputs.proofs.near_stimuli.all_nearest.Goals as goal

pub push_reserved-requires : goal.push_reserved-requires
push_reserved-requires c =
    let inv = c.loop-position.invariant in
    let within = c.loop-position-test.true in
    omega (arith, inv.len, inv.room, within)

pub loop-position-preserved : goal.loop-position-preserved
loop-position-preserved c =
    let l = c.loop-position in
    let inv = l.invariant in
    let one = c.push_reserved.ensures in
    record {
      near = one_near c.args.text.now c.args.positions.now l.position-index l.spans.items c.push_reserved.new.self.items _ _ c.loop-position-test.true one.items inv.near c.in_ok-nearest_at.ensures.found;
      search = c.in_ok-nearest_at.ensures.search;
      len = omega (arith, inv.len, one.len);
      room = omega (arith, inv.room, one.capacity);
    }

pub returns : goal.returns
returns c =
    subst (λ (ps : List StimuliPosition). AllZip (IsNearInStimuli c.args.text.now) ps c.loop-position.spans.items)
    (take_all c.loop-position.position-index c.args.positions.now c.loop-position-test.false) c.loop-position.invariant.near
