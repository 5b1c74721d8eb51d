use Rattle.fb_types.proofs.Common.{[], ◌∙◌, length, ap, arith, system_of}
use Rattle.fb_net.proofs.lemmas.emitting.PortRows.{indexes_out, none_with, one_with, source_out}
use Rattle.fb_net.proofs.lemmas.values.ReadIndexes.{none-shown, one-shown}
use Rattle.fb_net.proofs.taking.samples.shown_values.Goals as goal

pub returns-in-Nothing-clause-shown : goal.returns-in-Nothing-clause-shown
returns-in-Nothing-clause-shown c =
    let sys = system_of c.args.system.now in
    none-shown c.args.system.now c.args.forest.now c.args.at c.new.result (indexes_out sys c.args.at [] c.requires.output (none_with sys c.args.at c.args.with.now c.in-Nothing.is c.requires.with)) c.new.ensures

pub returns-in-Nothing-clause-counted : goal.returns-in-Nothing-clause-counted
returns-in-Nothing-clause-counted c =
    let sys = system_of c.args.system.now in
    ap length c.new.ensures ∙ ap length (indexes_out sys c.args.at [] c.requires.output (none_with sys c.args.at c.args.with.now c.in-Nothing.is c.requires.with)).named

pub shown_inside-value-requires-clause-variable : goal.shown_inside-value-requires-clause-variable
shown_inside-value-requires-clause-variable c =
    let sys = system_of c.args.system.now in
    let one = indexes_out sys c.args.at _ c.requires.output (one_with sys c.args.at c.args.with.now _ _ c.in-One.is c.requires.with).indexes in
    record { instance = c.requires.port.instance; variable = one.within 0 0 (omega arith) }

pub shown_inside-value-requires-clause-source : goal.shown_inside-value-requires-clause-source
shown_inside-value-requires-clause-source c =
    let sys = system_of c.args.system.now in source_out sys c.args.at _ _ c.requires.output (one_with sys c.args.at c.args.with.now _ _ c.in-One.is c.requires.with)

pub returns-in-One-clause-shown : goal.returns-in-One-clause-shown
returns-in-One-clause-shown c =
    let sys = system_of c.args.system.now in
    let one = indexes_out sys c.args.at _ c.requires.output (one_with sys c.args.at c.args.with.now _ _ c.in-One.is c.requires.with).indexes in
    one-shown c.args.system.now c.args.forest.now c.args.at c.in-One.variable c.shown_inside-value.result.now c.one.result one c.shown_inside-value.ensures c.one.ensures

pub returns-in-One-clause-counted : goal.returns-in-One-clause-counted
returns-in-One-clause-counted c =
    let sys = system_of c.args.system.now in
    let one = indexes_out sys c.args.at _ c.requires.output (one_with sys c.args.at c.args.with.now _ _ c.in-One.is c.requires.with).indexes in
    ap length c.one.ensures ∙ ap length one.named

pub shown_each-requires-clause-indexes : goal.shown_each-requires-clause-indexes
shown_each-requires-clause-indexes c = c.outputs_with-indexes.ensures
