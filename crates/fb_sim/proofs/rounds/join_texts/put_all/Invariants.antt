use Rattle.fb_sim.proofs.lemmas.Common.{◌≡◌, List, length, AllZip, Inputs, Form, Line, IsRest}
use Rattle.fb_sim.proofs.lemmas.text.Cutting.{ArePutTo}
use Rattle.fb_sim.proofs.rounds.join_texts.put_all.Given as goal

abbrev pub invariant-loop-index : goal.invariant-loop-index
invariant-loop-index l = record {
  counted : length l.rests.items ≡ length l.initial.rests.items;
  put : (i : Inputs) (form : Form) (lists : List (List Line)) → AllZip (IsRest i form) lists l.initial.rests.items
      → ArePutTo i form l.tick lists l.initial.text.items l.index l.text.items l.rests.items l.next;
}
