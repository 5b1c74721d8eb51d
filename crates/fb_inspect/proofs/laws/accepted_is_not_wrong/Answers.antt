use Rattle.fb_inspect.proofs.lemmas.Common.{◌∙◌, sym, system_of}
use Rattle.fb_inspect.proofs.lemmas.runs.JudgedLast.{judged}
use Rattle.fb_inspect.proofs.lemmas.runs.NoRun.{not_wrong}
use Rattle.fb_inspect.proofs.laws.accepted_is_not_wrong.Goals as goal

pub returns : goal.returns
returns c = λ i accepted names steps n text within a wrong.
    let j = judged (system_of i) steps within a.takings a.end a.ends in
    not_wrong i accepted names steps within text
    (record { form = a.form; lines = a.lines; end = a.end; trace = a.trace; takings = j.takings; lines_are = a.lines_are ∙ sym j.lines; ends = j.ends }) j.exact n wrong
