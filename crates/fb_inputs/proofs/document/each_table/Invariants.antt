use Rattle.fb_inputs.proofs.lemmas.Common.{◌≡◌, drop, length, map, of_table, shape_in, all_after, each_in}
use Rattle.toml.specs.View.{view}
use Rattle.fb_inputs.proofs.document.each_table.Given as goal

abbrev pub invariant-loop-value : goal.invariant-loop-value
invariant-loop-value g l =
    each_in (shape_in l.key) (of_table g.T.Entry.meaning) 0 (map view l.values) ≡ all_after l.found (each_in (shape_in l.key) (of_table g.T.Entry.meaning) (length l.found) (map view (drop l.value-index l.values)))
