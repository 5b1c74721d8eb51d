use Rattle.std.proofs.Common.{◌≡◌, ◌++◌, drop}
use Rattle.fb_check_names.specs.TwiceLists.{with_twice}
use Rattle.fb_check_names.specs.Listed.{each_at, each_from}
use Rattle.fb_check_names.proofs.spaces.push_in_withs.Given as goal

abbrev pub invariant-loop-event : goal.invariant-loop-event
invariant-loop-event l = l.found.items ++ each_from (with_twice l.block l.direction) l.event (drop l.event l.events) ≡ l.fn.found.items ++ each_at (with_twice l.block l.direction) l.events
