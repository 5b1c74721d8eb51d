use Rattle.fb_types.proofs.Common.{◌≡◌, drop, among}
use Rattle.fb_system.proofs.event_block_with_indexes.is_among.Given as goal

abbrev pub invariant-loop-other : goal.invariant-loop-other
invariant-loop-other l = among l.names l.name ≡ among (drop l.other-index l.names) l.name
