use Rattle.fb_check.proofs.lemmas.Common.{◌≡◌, ◌++◌, drop, each_at, each_from, owners_in}
use Rattle.fb_check.proofs.networks.mapping.owners_of.Given as goal

abbrev pub invariant-loop-number : goal.invariant-loop-number
invariant-loop-number l = l.owners.items ++ each_from owners_in l.number (drop l.number l.resources) ≡ each_at owners_in l.resources
