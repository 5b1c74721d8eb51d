use Rattle.fb_types.proofs.Common.{◌++◌, ◌∙◌, ap, codes, decimal}
use Rattle.clap.specs.Words.{Text}
use Rattle.fbsim_command.proofs.line_notes.line_note.Goals as goal

pub returns-in_ok-format-in-Some : goal.returns-in_ok-format-in-Some
returns-in_ok-format-in-Some c =
    record {
      fault = c.in-Some.fault;
      applies = c.in-Some.ensures;
      is = c.in_ok-format-in-Some.ensures.ok ∙ ap (λ (words : Text). codes "trace: line " ++ (decimal c.args.line ++ (codes ": " ++ words))) c.in_ok-words-in-Some.ensures;
    }

pub returns-in-None : goal.returns-in-None
returns-in-None c = c.in-None.ensures
