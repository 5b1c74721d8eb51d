use Rattle.std.proofs.Common.{◌≡◌, ◌+◌, ◌*◌, ◌++◌, length, take}
use Rattle.fb_expect.specs.Reports.{points}
use Rattle.fb_expect.proofs.tap.put_points.Given as goal

abbrev pub invariant-loop-index : goal.invariant-loop-index
invariant-loop-index l = record {
  number : l.number ≡ length l.rules * l.before + l.index;
  text : l.text.items ≡ l.initial.text.items ++ points l.is_strict l.of (length l.rules * l.before) (take l.index l.rules) (take l.index l.judged);
}
