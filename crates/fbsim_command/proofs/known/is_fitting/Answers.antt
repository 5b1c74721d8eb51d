use Rattle.fb_types.proofs.Common.{◌≡◌, ◌<◌, ◌∙◌, ℕ, ap, length, rules, sym, subst, system_of, path_at}
use Rattle.fb_types.specs.declared.library.Ports.{Ports}
use Rattle.fb_expect.specs.Patterns.{is_at}
use Rattle.fb_wave.proofs.lemmas.Bounds.{resource_named}
use Rattle.fbsim_command.specs.Known.{events_of, variables_of}
use Rattle.fbsim_command.specs.OfSystem.{event_there}
use Rattle.fbsim_command.proofs.lemmas.rules.SomeNumber.{of-there}
use Rattle.fbsim_command.proofs.known.is_fitting.Goals as goal

pub event_name-requires : goal.event_name-requires
event_name-requires c = subst (λ (its : Ports). c.args.event < length (events_of its c.args.taken)) (sym c.ports-ports.ensures) c.requires.event

pub resource_name-resource-requires : goal.resource_name-resource-requires
resource_name-resource-requires c =
    let sys = system_of c.args.system.now in
    subst (λ (r : ℕ). r < length sys.resource_names) (sym c.resource.ensures) (resource_named c.args.system.now (path_at sys c.args.instance) c.facts.ensures.limits)

pub returns-then-is_there : goal.returns-then-is_there
returns-then-is_there c =
    let a = c.args in
    let at : c.is_at-is_there.result ≡ is_at a.pattern.now (event_there a.system.now a.instance a.taken a.event) = search rules in
    of-there (system_of a.system.now) a.pattern.now a.instance a.taken a.event c.variables_of-variables.result.now c.indexes_with-indexes.result.now c.as_slice-then-is_there.result.now c.is_at-is_there.result
    c.are_possible.result (c.variables_of-variables.ensures ∙ ap (λ (its : Ports). variables_of its a.taken) c.ports-ports.ensures) c.as_slice-then-is_there.ensures at c.if-is_there.true
    c.indexes_with-indexes.ensures c.are_possible.ensures
