use Rattle.fbsim_command.proofs.lemmas.Common.{noted_of, option_map, sym, ◌∙◌}
use Rattle.fbsim_command.specs.Texts.{given_of, may_lines_of}
use Rattle.fbsim_command.proofs.lemmas.notes.Noting.{rules-noted, rules-unasked, rules-unnumbered}
use Rattle.fbsim_command.proofs.rules_notes.note_to_rules.Goals as goal

pub returns-then-not-expect : goal.returns-then-not-expect
returns-then-not-expect c =
    rules-unasked c.args.expect.now c.args.bytes.now (may_lines_of c.args.declared.now) (option_map given_of c.args.declared.now) c.args.end.now c.in-Err.failure c.in-Err.is c.if-not-expect.true

pub returns-in-Some : goal.returns-in-Some
returns-in-Some c =
    rules-noted c.args.expect.now c.args.bytes.now (may_lines_of c.args.declared.now) (option_map given_of c.args.declared.now) c.args.end.now c.in-Err.failure c.in-Some.number
    (noted_of c.note_at.result) c.in-Err.is (sym c.number_of.ensures ∙ c.in-Some.is) c.if-not-expect.false c.note_at.ensures

pub returns-in-None : goal.returns-in-None
returns-in-None c =
    rules-unnumbered c.args.expect.now c.args.bytes.now (may_lines_of c.args.declared.now) (option_map given_of c.args.declared.now) c.args.end.now c.in-Err.failure c.in-Err.is (sym c.number_of.ensures ∙ c.in-None.is)
