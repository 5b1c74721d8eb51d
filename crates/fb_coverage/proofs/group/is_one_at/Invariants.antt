use Rattle.fb_types.proofs.Common.{◌≡◌, false, option_map, take, list_any}
use Rattle.fb_coverage.specs.Connected.{is_at}
use Rattle.fb_coverage.proofs.group.is_one_at.Given as goal

abbrev pub invariant-loop-connection : goal.invariant-loop-connection
invariant-loop-connection l = list_any (is_at (option_map (λ n. n.now) l.component) l.port) (take l.connection-index l.connections) ≡ false
