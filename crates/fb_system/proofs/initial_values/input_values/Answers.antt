use Rattle.std.proofs.Common.{take, get_or, refl, arith}
use Rattle.fb_system.proofs.lemmas.values.ParameterIndexes.{index_within, input_within, values_more}
use Rattle.fb_system.proofs.initial_values.input_values.Goals as goal

pub bounds-indexes-number : goal.bounds-indexes-number
bounds-indexes-number c = index_within c.args.ports.now c.args.parameters.now c.args.indexes.now c.loop-number.number c.requires.indexes c.loop-number-test.true

pub index_mut-requires : goal.index_mut-requires
index_mut-requires c =
    let within =
    input_within c.args.ports.now c.args.parameters.now (take c.loop-number.number c.args.parameters.now) c.args.indexes.now c.loop-number.values.items
    c.loop-number.number (get_or c.args.indexes.now c.loop-number.number 0) c.index-parameters-number.result c.requires.indexes c.loop-number-test.true
    c.index-parameters-number.is refl c.loop-number.invariant in
    omega (arith, within, c.loop-number.values.ok.0)

pub loop-number-preserved : goal.loop-number-preserved
loop-number-preserved c =
    values_more c.args.ports.now c.args.parameters.now c.args.indexes.now c.loop-number.values.items _ c.loop-number.number _ c.index-parameters-number.result
    c.requires.indexes c.requires.inputs c.requires.parameters c.loop-number-test.true c.index-parameters-number.is refl c.loop-number.invariant refl
