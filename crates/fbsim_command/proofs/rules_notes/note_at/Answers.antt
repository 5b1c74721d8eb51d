use Rattle.fbsim_command.proofs.lemmas.Common.{ap, inl, inr, noted_of, option_map, sym, given_of}
use Rattle.fbsim_command.specs.Texts.{may_lines_of}
use Rattle.fbsim_command.proofs.lemmas.notes.Noting.{location-noted, plan-noted, unknown-noted}
use Rattle.fbsim_command.proofs.rules_notes.note_at.Goals as goal

pub returns-in_default : goal.returns-in_default
returns-in_default c =
    let declared = c.args.declared.now in
    location-noted c.args.expect.now c.args.bytes.now (may_lines_of declared) (option_map given_of declared) c.args.number (noted_of c.note_of_location.result) (inl (ap (option_map given_of) c.in_default.is))
    c.note_of_location.ensures

pub returns-then-number-eq-UNKNOWN_NAME : goal.returns-then-number-eq-UNKNOWN_NAME
returns-then-number-eq-UNKNOWN_NAME c =
    unknown-noted c.args.expect.now c.args.bytes.now c.args.declared.now c.in-Some.texts c.args.number (noted_of c.note_of_unknown.result) c.in-Some.is c.if-number-eq-UNKNOWN_NAME.true c.note_of_unknown.ensures

pub returns-then-number-lt-FIRST_OF_RULES : goal.returns-then-number-lt-FIRST_OF_RULES
returns-then-number-lt-FIRST_OF_RULES c =
    plan-noted c.args.expect.now c.args.bytes.now c.args.declared.now c.in-Some.texts c.args.number (noted_of c.note_of_plan.result) c.in-Some.is c.if-number-lt-FIRST_OF_RULES.true c.note_of_plan.ensures

pub returns : goal.returns
returns c =
    let declared = c.args.declared.now in
    location-noted c.args.expect.now c.args.bytes.now (may_lines_of declared) (option_map given_of declared) c.args.number (noted_of c.note_of_location-2.result)
    (inr (c.if-number-lt-FIRST_OF_RULES.false, c.if-number-eq-UNKNOWN_NAME.false)) c.note_of_location-2.ensures
