use Rattle.fb_types.proofs.Common.{◌≡◌, take, flat_map}
use Rattle.fb_types.specs.declared.deploy.ResourceEntry.{ResourceEntry}
use Rattle.fb_check_names.specs.Indexes.{names_in}
use Rattle.fb_check.proofs.networks.mapping.listed_names.Given as goal

abbrev pub invariant-loop-resource : goal.invariant-loop-resource
invariant-loop-resource l = names_in l.names.items ≡ flat_map (λ (r : ResourceEntry). r.instances) (take l.resource-index l.resources)
