use Rattle.fb_types.proofs.Common.{[], ◌∙◌, length, ap, arith, system_of}
use Rattle.fb_net.proofs.lemmas.emitting.PortRows.{indexes_in, none_with, one_with, source_in}
use Rattle.fb_net.proofs.lemmas.values.Sampling.{none-sampled, one-sampled}
use Rattle.fb_net.proofs.taking.samples.sampled_values.Goals as goal

pub returns-in-Nothing-clause-sampled : goal.returns-in-Nothing-clause-sampled
returns-in-Nothing-clause-sampled c =
    let sys = system_of c.args.system.now in
    none-sampled c.args.system.now c.args.forest.now c.args.at c.new.result (indexes_in sys c.args.at [] c.requires.input (none_with sys c.args.at c.args.with.now c.in-Nothing.is c.requires.with)) c.new.ensures

pub returns-in-Nothing-clause-counted : goal.returns-in-Nothing-clause-counted
returns-in-Nothing-clause-counted c =
    let sys = system_of c.args.system.now in
    ap length c.new.ensures ∙ ap length (indexes_in sys c.args.at [] c.requires.input (none_with sys c.args.at c.args.with.now c.in-Nothing.is c.requires.with)).named

pub sampled-value-requires-clause-variable : goal.sampled-value-requires-clause-variable
sampled-value-requires-clause-variable c =
    let sys = system_of c.args.system.now in
    let one = indexes_in sys c.args.at _ c.requires.input (one_with sys c.args.at c.args.with.now _ _ c.in-One.is c.requires.with).indexes in
    record { instance = c.requires.port.instance; variable = one.within 0 0 (omega arith) }

pub sampled-value-requires-clause-source : goal.sampled-value-requires-clause-source
sampled-value-requires-clause-source c =
    let sys = system_of c.args.system.now in source_in sys c.args.at _ _ c.requires.input (one_with sys c.args.at c.args.with.now _ _ c.in-One.is c.requires.with)

pub returns-in-One-clause-sampled : goal.returns-in-One-clause-sampled
returns-in-One-clause-sampled c =
    let sys = system_of c.args.system.now in
    let one = indexes_in sys c.args.at _ c.requires.input (one_with sys c.args.at c.args.with.now _ _ c.in-One.is c.requires.with).indexes in
    one-sampled c.args.system.now c.args.forest.now c.args.at c.in-One.variable c.sampled-value.result.now c.one.result one c.sampled-value.ensures c.one.ensures

pub returns-in-One-clause-counted : goal.returns-in-One-clause-counted
returns-in-One-clause-counted c =
    let sys = system_of c.args.system.now in
    let one = indexes_in sys c.args.at _ c.requires.input (one_with sys c.args.at c.args.with.now _ _ c.in-One.is c.requires.with).indexes in
    ap length c.one.ensures ∙ ap length one.named

pub sampled_each-requires-clause-indexes : goal.sampled_each-requires-clause-indexes
sampled_each-requires-clause-indexes c = c.inputs_with-indexes.ensures
