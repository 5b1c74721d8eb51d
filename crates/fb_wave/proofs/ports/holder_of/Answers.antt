use Rattle.fb_types.proofs.Common.{◌<◌, ℕ, length, sym, subst, arith, length-map, system_of, path_at}
use Rattle.fb_types.specs.declared.deploy.ResourceEntry.{ResourceEntry}
use Rattle.fb_wave.proofs.lemmas.Bounds.{resource_named}
use Rattle.fb_wave.proofs.ports.holder_of.Goals as goal

pub overflow_cast-result : goal.overflow_cast-result
overflow_cast-result c =
    let sys = system_of c.args.system.now in
    let within = resource_named c.args.system.now (path_at sys c.args.port.instance) c.facts.ensures.limits in
    let few = c.facts.ensures.limits.few_resources in
    let count = length-map c.args.system.now.plan.resources (λ (r : ResourceEntry). r.name) in
    omega (arith, within, few, count, c.resource.ensures)

pub returns-clause-within : goal.returns-clause-within
returns-clause-within c =
    let sys = system_of c.args.system.now in
    subst (λ (r : ℕ). r < length sys.resource_names) (sym c.resource.ensures)
    (resource_named c.args.system.now (path_at sys c.args.port.instance) c.facts.ensures.limits)
