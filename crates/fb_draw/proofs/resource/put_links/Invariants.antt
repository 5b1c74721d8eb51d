use Rattle.std.proofs.Common.{◌≡◌, ◌++◌, drop}
use Rattle.std.specs.List.{flat_map}
use Rattle.fb_draw.specs.Resources as spec
use Rattle.fb_draw.proofs.resource.put_links.Given as goal

-- with what the rest adds, all is there
abbrev pub invariant-loop-link : goal.invariant-loop-link
invariant-loop-link l = l.text.items ++ flat_map spec.link_edge (drop l.link-index l.links) ≡ l.fn.text.items ++ flat_map spec.link_edge l.links
