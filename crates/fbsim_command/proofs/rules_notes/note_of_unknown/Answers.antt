use Rattle.fbsim_command.proofs.lemmas.Common.{◌≡◌, ◌∙◌, List, None, Ok, Option, Some, ap, refl, subst, sym, given_of}
use Rattle.fb_expect.specs.declared.rule.Rule.{Rule}
use Rattle.fbsim_command.proofs.lemmas.rules.RuleNames.{no-rules, unknown-within}
use Rattle.fbsim_command.proofs.rules_notes.note_of_unknown.Goals as goal

pub returns-in_default : goal.returns-in_default
returns-in_default c = λ rules is. absurd (no-rules c.args.bytes.now c.in-Err.error c.in_default.not-Memory c.in-Err.ensures rules is)
