use Rattle.fb_types.proofs.Common.{◌≡◌, drop, list_any}
use Rattle.fb_lint.specs.Networks.{crosses}
use Rattle.fb_lint.proofs.links.is_crossed_by.Given as goal

abbrev pub invariant-loop-connection : goal.invariant-loop-connection
invariant-loop-connection l = list_any (crosses l.resources l.link) l.connections ≡ list_any (crosses l.resources l.link) (drop l.connection-index l.connections)
