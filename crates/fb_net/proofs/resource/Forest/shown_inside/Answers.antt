use Rattle.fb_types.proofs.Common.{None, Some, system_of}
use Rattle.fb_net.proofs.lemmas.emitting.PortRows.{near, source_of}
use Rattle.fb_net.proofs.lemmas.values.Sampled.{published_inside, source_inside}
use Rattle.fb_net.proofs.resource.Forest.shown_inside.Goals as goal

pub shown-requires-clause-variable : goal.shown-requires-clause-variable
shown-requires-clause-variable c = (source_of (system_of c.args.system.now) c.args.output c.args.source.now (Some c.in-Some.source) c.requires.source c.in-Some.is).comes.within.variable

pub shown-requires-clause-place : goal.shown-requires-clause-place
shown-requires-clause-place c =
    let sys = system_of c.args.system.now in
    let from = source_of sys c.args.output c.args.source.now (Some c.in-Some.source) c.requires.source c.in-Some.is in
    near sys c.args.self.now.resource c.in-Some.source.variable.instance c.args.output.instance c.in-Some.source.here from.here c.requires.stands.here

pub shown-requires-clause-whole : goal.shown-requires-clause-whole
shown-requires-clause-whole c = c.requires.stands.whole

pub returns-in-Some : goal.returns-in-Some
returns-in-Some c =
    let from = source_of (system_of c.args.system.now) c.args.output c.args.source.now (Some c.in-Some.source) c.requires.source c.in-Some.is in
    source_inside c.args.system.now c.args.self.now c.args.output c.in-Some.source.variable _ c.requires.variable from.comes.within from.comes.comes c.shown.ensures

pub returns-in-None : goal.returns-in-None
returns-in-None c =
    published_inside c.args.system.now c.args.self.now c.args.output _ (source_of (system_of c.args.system.now) c.args.output c.args.source.now None c.requires.source c.in-None.is).comes.comes
    c.published.ensures
