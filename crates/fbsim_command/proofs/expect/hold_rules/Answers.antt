use Rattle.fbsim_command.proofs.lemmas.Common.{List, option_map, subst, AreUnheld, given_of}
use Rattle.fb_expect.specs.declared.rule.Rule.{Rule}
use Rattle.fbsim_command.specs.Expecting.{Reports}
use Rattle.fbsim_command.proofs.lemmas.rules.HeldRules.{held-passed, met, unheld, unmet, unwritten}
use Rattle.fbsim_command.proofs.lemmas.rules.RuleNames.{held-none}
use Rattle.fbsim_command.specs.Notes.{noted_of}
use Rattle.fbsim_command.proofs.expect.hold_rules.Goals as goal

pub returns-in_err-rules : goal.returns-in_err-rules
returns-in_err-rules g c =
    let x = c.args.expect.now in
    let opens = g.S.Streams.opens in
    let declared = option_map given_of c.args.declared.now in
    let old = g.W.Write.contents c.args.out.now in
    let note = noted_of c.args.note.now in
    held-passed opens x c.args.source.now c.args.source.now c.args.bytes.now declared old old note c.from_residual.result _ c.from_residual.ensures.1
    (held-none opens x c.args.source.now c.args.bytes.now declared old note _ c.requires c.in_err-rules.ensures.refused)

pub returns-in_err-text : goal.returns-in_err-text
returns-in_err-text g c =
    let x = c.args.expect.now in
    let opens = g.S.Streams.opens in
    let declared = option_map given_of c.args.declared.now in
    let old = g.W.Write.contents c.args.out.now in
    let new = c.report.new.source in
    let note = noted_of c.report.new.note in
    held-passed opens x c.args.source.now new c.args.bytes.now declared old old note c.from_residual-in_err-text.result _ c.from_residual-in_err-text.ensures.1
    (unheld opens x c.args.bytes.now declared c.in_ok-rules.rules c.in_ok-rules.ensures.rules c.args.source.now new old note c.in_err-text.field-0.0
    (subst (λ (rs : List Rule). AreUnheld opens x rs c.args.source.now new note c.in_err-text.field-0.0) c.as_slice.ensures c.in_err-text.ensures.unheld))

pub returns-in_err-write_text : goal.returns-in_err-write_text
returns-in_err-write_text g c =
    let x = c.args.expect.now in
    let opens = g.S.Streams.opens in
    let declared = option_map given_of c.args.declared.now in
    let old = g.W.Write.contents c.args.out.now in
    let new = c.report.new.source in
    let note = noted_of c.report.new.note in
    held-passed opens x c.args.source.now new c.args.bytes.now declared old _ note c.from_residual-in_err-write_text.result _ c.from_residual-in_err-write_text.ensures.1
    (unwritten opens x c.args.bytes.now declared c.in_ok-rules.rules c.in_ok-rules.ensures.rules c.args.source.now new old note _ c.in_ok-text.is_well c.in_ok-text.text.items c.as_slice-2.result.now
    c.in_ok-text.ensures.unnoted c.as_slice-2.ensures.value
    (subst (λ (rs : List Rule). Reports opens x rs c.args.source.now new c.in_ok-text.is_well c.in_ok-text.text.items) c.as_slice.ensures c.in_ok-text.ensures.reported)
    c.in_err-write_text.field-0.0 c.in_err-write_text.ensures.part)

pub returns-then-is_well : goal.returns-then-is_well
returns-then-is_well g c =
    let x = c.args.expect.now in
    let opens = g.S.Streams.opens in
    let declared = option_map given_of c.args.declared.now in
    let old = g.W.Write.contents c.args.out.now in
    let new = c.report.new.source in
    met opens x c.args.bytes.now declared c.in_ok-rules.rules c.in_ok-rules.ensures.rules c.args.source.now new old (noted_of c.report.new.note) _ c.in_ok-text.is_well c.in_ok-text.text.items
    c.as_slice-2.result.now c.in_ok-text.ensures.unnoted c.if-is_well.true
    (subst (λ (rs : List Rule). Reports opens x rs c.args.source.now new c.in_ok-text.is_well c.in_ok-text.text.items) c.as_slice.ensures c.in_ok-text.ensures.reported)
    c.as_slice-2.ensures.value c.in_ok-write_text.ensures.whole

pub returns : goal.returns
returns g c =
    let x = c.args.expect.now in
    let opens = g.S.Streams.opens in
    let declared = option_map given_of c.args.declared.now in
    let old = g.W.Write.contents c.args.out.now in
    let new = c.report.new.source in
    unmet opens x c.args.bytes.now declared c.in_ok-rules.rules c.in_ok-rules.ensures.rules c.args.source.now new old (noted_of c.report.new.note) _ c.in_ok-text.is_well c.in_ok-text.text.items
    c.as_slice-2.result.now c.in_ok-text.ensures.unnoted c.if-is_well.false
    (subst (λ (rs : List Rule). Reports opens x rs c.args.source.now new c.in_ok-text.is_well c.in_ok-text.text.items) c.as_slice.ensures c.in_ok-text.ensures.reported)
    c.as_slice-2.ensures.value c.in_ok-write_text.ensures.whole
