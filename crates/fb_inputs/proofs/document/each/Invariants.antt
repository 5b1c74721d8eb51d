use Rattle.fb_inputs.proofs.lemmas.Common.{◌≡◌, drop, length, map, element_at, all_after, each_at}
use Rattle.toml.specs.View.{view}
use Rattle.fb_inputs.proofs.document.each.Given as goal

abbrev pub invariant-loop-value : goal.invariant-loop-value
invariant-loop-value g l =
    each_at (element_at l.key) g.T.Piece.meaning 0 (map view l.values) ≡ all_after l.found (each_at (element_at l.key) g.T.Piece.meaning (length l.found) (map view (drop l.value-index l.values)))
