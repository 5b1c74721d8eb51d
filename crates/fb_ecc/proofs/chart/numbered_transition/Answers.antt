use Rattle.fb_types.proofs.Common.{refl}
use Rattle.fb_types.specs.declared.library.EventPort.{EventPort}
use Rattle.fb_types.specs.declared.library.State.{State}
use Rattle.fb_ecc.proofs.lemmas.Indexing.{numbered, numbered_if_named}
use Rattle.fb_ecc.proofs.chart.numbered_transition.Goals as goal

pub returns : goal.returns
returns c =
    let t = c.args.block.now in
    let event =
    numbered_if_named (λ (p : EventPort). p.name) t.ports.event_inputs c.args.numbers.now.event_inputs c.len-events.result c.args.transition.now.condition.event
    c.optional_number.result c.requires.event_inputs c.len-events.ensures c.optional_number.ensures in
    let target =
    numbered (λ (s : State). s.name) t.states c.args.numbers.now.states c.len.result c.args.transition.now.to c.number.result c.requires.states c.len.ensures
    c.number.ensures in
    rw (event, c.is_some.ensures, target) refl
