use Rattle.fb_types.proofs.Common.{◌<◌, below_more, length, sym, ◌∙◌, arith, both_ways, Decides-eqb, slice_eq-Decides}
use Rattle.fb_inspect.proofs.lemmas.words.NamesApart.{same_event}
use Rattle.fb_inspect.proofs.refused.fault_names.event_of.Goals as goal

pub returns-then-eq-clause-found : goal.returns-then-eq-clause-found
returns-then-eq-clause-found c =
    let es = c.args.events.now in
    let i = c.loop-event.event in
    let within : i < length es = omega arith in
    sym ((slice_eq-Decides Decides-eqb c.as_bytes.result.now c.args.name.now c.eq.result c.eq.ensures).0 c.if-eq.true)
    ∙ same_event es i c.index-events-event.result c.as_bytes.result.now within c.as_bytes.ensures

pub loop-event-preserved : goal.loop-event-preserved
loop-event-preserved c =
    let es = c.args.events.now in
    let i = c.loop-event.event in
    let within : i < length es = omega arith in
    below_more _ _ c.loop-event.invariant
    (λ same.
    both_ways _ c.if-eq.false
    ((slice_eq-Decides Decides-eqb c.as_bytes.result.now c.args.name.now c.eq.result c.eq.ensures).1
    (same_event es i c.index-events-event.result c.as_bytes.result.now within c.as_bytes.ensures ∙ sym same)))
