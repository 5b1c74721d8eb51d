use Rattle.fb_inspect.proofs.lemmas.marks.Happened.{marked_more}
use Rattle.fb_inspect.proofs.laws.marks_add_up.Goals as goal

pub returns : goal.returns
returns c = λ i h hs first next last one rest. marked_more i h hs first next last one rest
