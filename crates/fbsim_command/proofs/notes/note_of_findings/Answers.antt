use Rattle.fb_types.proofs.Common.{ap, eqb-true, length, sym, ◌∙◌}
use Rattle.fbsim_command.proofs.lemmas.notes.Noting.{nil}
use Rattle.fbsim_command.proofs.notes.note_of_findings.Goals as goal

pub returns-then-is_empty : goal.returns-then-is_empty
returns-then-is_empty c =
    sym c.as_slice-shown.ensures.value ∙ nil c.as_slice-shown.result.now (eqb-true (length c.as_slice-shown.result.now) 0 (sym c.is_empty.ensures ∙ c.if-is_empty.true))
