use Rattle.fb_types.proofs.Common.{refl}
use Rattle.fb_types.specs.declared.library.Algorithm.{Algorithm}
use Rattle.fb_types.specs.declared.library.EventPort.{EventPort}
use Rattle.fb_ecc.proofs.lemmas.Indexing.{numbered_if_named}
use Rattle.fb_ecc.proofs.chart.numbered_action.Goals as goal

pub returns : goal.returns
returns c =
    let t = c.args.block.now in
    let algorithm =
    numbered_if_named (λ (a : Algorithm). a.name) t.algorithms c.args.numbers.now.algorithms c.len-algorithms.result c.args.action.now.algorithm
    c.optional_number.result c.requires.algorithms c.len-algorithms.ensures c.optional_number.ensures in
    let output =
    numbered_if_named (λ (p : EventPort). p.name) t.ports.event_outputs c.args.numbers.now.event_outputs c.len-outputs.result c.args.action.now.output
    c.optional_number-2.result c.requires.event_outputs c.len-outputs.ensures c.optional_number-2.ensures in
    rw (algorithm, output) refl
