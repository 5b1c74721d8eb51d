use Rattle.fb_net.proofs.lemmas.Common.{ap, ◌∙◌, None, Some, system_of, value_in}
use Rattle.fb_net.proofs.lemmas.emitting.PortRows.{near, source_of}
use Rattle.fb_net.proofs.lemmas.values.Sampled.{slot_sampled, source_sampled}
use Rattle.fb_net.proofs.lemmas.values.ShownValues.{shell_there_reads, slot_stands}
use Rattle.fb_net.proofs.resource.Forest.sampled.Goals as goal

pub shown-requires-clause-variable : goal.shown-requires-clause-variable
shown-requires-clause-variable c = (source_of (system_of c.args.system.now) c.args.input c.args.source.now (Some c.in-Some.source) c.requires.source c.in-Some.is).comes.within.variable

pub shown-requires-clause-place : goal.shown-requires-clause-place
shown-requires-clause-place c =
    let sys = system_of c.args.system.now in
    let from = source_of sys c.args.input c.args.source.now (Some c.in-Some.source) c.requires.source c.in-Some.is in
    near sys c.args.self.now.resource c.in-Some.source.variable.instance c.args.input.instance c.in-Some.source.here from.here c.requires.stands.here

pub shown-requires-clause-whole : goal.shown-requires-clause-whole
shown-requires-clause-whole c = c.requires.stands.whole

pub returns-in-Some : goal.returns-in-Some
returns-in-Some c =
    let from = source_of (system_of c.args.system.now) c.args.input c.args.source.now (Some c.in-Some.source) c.requires.source c.in-Some.is in
    source_sampled c.args.system.now c.args.self.now c.args.input c.in-Some.source.variable _ c.requires.variable from.comes.within from.comes.comes c.shown.ensures

pub returns-in-None : goal.returns-in-None
returns-in-None c =
    slot_sampled c.args.system.now c.args.self.now c.args.input _ (source_of (system_of c.args.system.now) c.args.input c.args.source.now None c.requires.source c.in-None.is).comes.comes
    (shell_there_reads c.args.system.now c.args.self.now c.args.input (λ b. b.slots) c.shell-shell.result.now _ c.requires.variable.instance c.shell-shell.ensures
    (λ m s. c.value_of.ensures ∙ ap (λ vs. value_in vs c.args.input.variable) c.as_slice.ensures
    ∙ slot_stands _ _ _ m c.requires.variable s c.requires.input))
