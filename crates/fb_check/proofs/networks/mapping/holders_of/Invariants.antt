use Rattle.std.proofs.Common.{◌≡◌, map, take}
use Rattle.fb_check.specs.networks.Mapping.{holder_in}
use Rattle.fb_check.proofs.networks.mapping.holders_of.Given as goal

abbrev pub invariant-loop-instance : goal.invariant-loop-instance
invariant-loop-instance l = l.holders ≡ map (λ i. holder_in l.mapping i.name) (take l.instance-index l.instance-items)
