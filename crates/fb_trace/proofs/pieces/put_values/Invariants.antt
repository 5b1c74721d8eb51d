use Rattle.fb_types.proofs.Common.{length, take, map, pair_up, values_text}
use Rattle.fb_system.specs.IndexLists.{variable_at}
use Rattle.fb_trace.specs.Progress.{Puts}
use Rattle.fb_trace.proofs.pieces.put_values.Given as goal

abbrev pub invariant-loop-index : goal.invariant-loop-index
invariant-loop-index g l =
    Puts (g.W.Write.contents l.initial.out) (g.W.Write.contents l.out) l.initial.page l.page
    (values_text (take (length l.yielded) (pair_up (map (variable_at l.variables) l.indexes) l.values)))
