use Rattle.fb_sim.proofs.lemmas.Common.{List, AllZip, Inputs, Form, Line, IsMarkedText, IsRest}
use Rattle.fb_sim.proofs.lemmas.text.Cutting.{IsJoining}
use Rattle.fb_sim.proofs.rounds.join_texts.join_all.Given as goal

abbrev pub invariant-loop-next : goal.invariant-loop-next
invariant-loop-next l = (i : Inputs) (form : Form) (lists : List (List Line)) → AllZip (IsMarkedText i form) lists l.texts → AllZip (IsRest i form) lists l.fn.rests.items
    → IsJoining i form lists l.text.items l.rests.items l.next l.turns

abbrev pub decreases-loop-next : goal.decreases-loop-next
decreases-loop-next l = l.turns
