use Rattle.std.proofs.Common.{◌≡◌, ◌+◌, ◌*◌, ◌++◌, length, drop}
use Rattle.fb_expect.specs.Applied.{applied_points}
use Rattle.fb_expect.proofs.applied.put_applied.Given as goal

abbrev pub invariant-loop-index : goal.invariant-loop-index
invariant-loop-index l = record {
  number : l.number ≡ length l.rules * l.traces + l.index;
  text :
      l.text.items ++ applied_points (length l.rules * l.traces + l.index) (drop l.index l.rules) (drop l.index l.counts) l.traces
      ≡ l.initial.text.items ++ applied_points (length l.rules * l.traces) l.rules l.counts l.traces;
}
