use Rattle.fb_window.proofs.lemmas.Common.{◌≡◌, ◌++◌, length, into_iter_items, into_iter_len, edge_of}
use Rattle.fb_window.proofs.lemmas.lines.FoundLines.{AreCutTo}
use Rattle.fb_window.proofs.cut.cut_each.Given as goal

abbrev pub invariant-loop-lines : goal.invariant-loop-lines
invariant-loop-lines l = record {
  cut : AreCutTo (edge_of l.frontier) l.fn.lists.items (length l.yielded) l.fronts.items l.rests.items;
  rest : l.yielded ++ into_iter_items l.lines-iterator ≡ l.fn.lists.items;
  len : into_iter_len l.lines-iterator ≡ length (into_iter_items l.lines-iterator);
}
