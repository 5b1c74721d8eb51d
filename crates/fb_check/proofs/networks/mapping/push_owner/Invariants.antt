use Rattle.std.proofs.Common.{◌≡◌, ◌++◌, drop, map}
use Rattle.fb_check.proofs.networks.mapping.push_owner.Given as goal

abbrev pub invariant-loop-name : goal.invariant-loop-name
invariant-loop-name l = l.owners.items ++ map (λ n. l.number) (drop l._name-index l.names) ≡ l.fn.owners.items ++ map (λ n. l.number) l.names
