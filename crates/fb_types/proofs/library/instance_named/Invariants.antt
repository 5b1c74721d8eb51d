use Rattle.fb_types.proofs.Common.{◌≡◌, drop, find, same_name}
use Rattle.fb_types.proofs.library.instance_named.Given as goal

abbrev pub invariant-loop-instance : goal.invariant-loop-instance
invariant-loop-instance l = find (λ x. same_name x.name l.name) l.instances ≡ find (λ x. same_name x.name l.name) (drop l.instance-index l.instances)
