use Rattle.fb_system.proofs.lemmas.networks.HoldingResource.{InstanceResourcesSoFar}
use Rattle.fb_system.proofs.instance_resources.instance_resources_of.Given as goal

abbrev pub invariant-loop-instance : goal.invariant-loop-instance
invariant-loop-instance l = InstanceResourcesSoFar l.netlist l.links l.instance l.instance_resources
