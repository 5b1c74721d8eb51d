use Rattle.fb_types.specs.Headline.{system_of}
use Rattle.fb_system.proofs.lemmas.networks.SameResource.{comes_from, comes_from_nothing, source_there, together}
use Rattle.fb_system.proofs.system.System.placed_source.Goals as goal

pub resource-requires : goal.resource-requires
resource-requires c = source_there (system_of c.args.self.now) _ _ c.in_ok-variable.was c.source.ensures.within

pub resource-requires-2 : goal.resource-requires-2
resource-requires-2 c = c.requires.instance

pub returns-in_err-variable : goal.returns-in_err-variable
returns-in_err-variable c =
    comes_from_nothing (system_of c.args.self.now) c.args.to _ _ c.in_err-variable.was c.from_residual.ensures
    (record { comes = c.source.ensures.comes; within = c.source.ensures.within })

pub returns : goal.returns
returns c =
    let sys = system_of c.args.self.now in
    comes_from sys c.args.to _ c.in_ok-variable.variable _ c.in_ok-variable.was (record { comes = c.source.ensures.comes; within = c.source.ensures.within })
    (together sys c.in_ok-variable.variable.instance c.args.to.instance _ _ c.resource.ensures c.resource-2.ensures)
