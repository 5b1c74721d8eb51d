use Rattle.std.proofs.Common.{◌≡◌, drop}
use Rattle.fb_inputs.specs.Deployments.{among_links, fault_of_link}
use Rattle.fb_inputs.proofs.table.fault_among.Given as goal

abbrev pub invariant-loop-link : goal.invariant-loop-link
invariant-loop-link l = among_links (fault_of_link l.test) 0 l.links ≡ among_links (fault_of_link l.test) l.link (drop l.link l.links)
