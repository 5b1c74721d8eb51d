use Rattle.std.proofs.Common.{ap, sym, ◌∙◌, ◌<◌, get_or, length, List, ℕ, subst}
use Rattle.fb_system.proofs.lemmas.networks.HoldingResource.{instance_resource_seen, instance_resource_there}
use Rattle.fb_system.proofs.system.System.resource.Goals as goal

pub bounds-as_slice-instance : goal.bounds-as_slice-instance
bounds-as_slice-instance c =
    subst (λ (instance_resources : List ℕ). c.args.instance < length instance_resources) (sym c.as_slice.ensures) (instance_resource_there _ _ _ _ c.self.invariant.tables c.deref.ensures c.self.view_is c.requires)

pub returns : goal.returns
returns c =
    ap (λ (instance_resources : List ℕ). get_or instance_resources c.args.instance 0) c.as_slice.ensures
    ∙ instance_resource_seen _ _ _ _ 0 c.self.invariant.tables c.deref.ensures c.self.view_is c.requires
