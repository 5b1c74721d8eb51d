use Rattle.fb_inputs.proofs.lemmas.Common.{err_from_is_err_and, fault_of, RowFault}
use Rattle.fb_inputs.proofs.lemmas.stimuli.RowStimuli.{accepted, is_not_over, is_over, no_tick, refused_draft, refused_settings, too_late, too_many}
use Rattle.fb_inputs.proofs.lemmas.deployments.TableResults.{if-some}
use Rattle.fb_inputs.proofs.stimuli.stimulus_of.Goals as goal

pub returns-in_err-draft : goal.returns-in_err-draft
returns-in_err-draft c =
    let p = err_from_is_err_and c.from_residual.result c.from_residual.ensures.1 in
    rw (p.1, p.2) (if-some (fault_of c.in_err-draft.field-0.0) _ _
    (λ (q : RowFault) e. refused_draft c.args.before c.args.tick.now c.args.event.now c.args.values.now q e) c.in_err-draft.ensures)

pub returns-in_default : goal.returns-in_default
returns-in_default c =
    no_tick c.args.before c.args.tick.now c.args.event.now c.args.values.now c.in_ok-draft.draft c.in_ok-draft.ensures (rw c.in_default.is at c.natural.ensures)

pub returns-in_err-settings : goal.returns-in_err-settings
returns-in_err-settings c =
    let p = err_from_is_err_and c.from_residual-in_err-settings.result c.from_residual-in_err-settings.ensures.1 in
    rw (p.1, p.2) (if-some (fault_of c.in_err-settings.field-0.0) _ _
    (λ (q : RowFault) e. refused_settings c.args.before c.args.tick.now c.args.event.now c.args.values.now c.in_ok-draft.draft c.in_ok-draft.ensures c.in-Some.tick q (rw c.in-Some.is at c.natural.ensures) e)
    c.in_err-settings.ensures)

pub returns-then-is_late : goal.returns-then-is_late
returns-then-is_late c =
    too_late c.args.before c.args.tick.now c.args.event.now c.args.values.now c.in_ok-draft.draft c.in_ok-draft.ensures c.in-Some.tick c.in_ok-settings.settings (rw c.in-Some.is at c.natural.ensures) c.in_ok-settings.ensures
    (is_over c.in-Some.tick c.is_late.result c.is_late.ensures c.if-is_late.true)

pub returns-then-before-ge-MOST_STIMULI : goal.returns-then-before-ge-MOST_STIMULI
returns-then-before-ge-MOST_STIMULI c =
    too_many c.args.before c.args.tick.now c.args.event.now c.args.values.now c.in_ok-draft.draft c.in_ok-draft.ensures c.in-Some.tick c.in_ok-settings.settings (rw c.in-Some.is at c.natural.ensures) c.in_ok-settings.ensures
    (is_not_over c.in-Some.tick c.is_late.result c.is_late.ensures c.if-is_late.false) c.if-before-ge-MOST_STIMULI.true

pub returns : goal.returns
returns c =
    accepted c.args.before c.args.tick.now c.args.event.now c.args.values.now c.in_ok-draft.draft c.in_ok-draft.ensures c.in-Some.tick c.in_ok-settings.settings (rw c.in-Some.is at c.natural.ensures) c.in_ok-settings.ensures
    (is_not_over c.in-Some.tick c.is_late.result c.is_late.ensures c.if-is_late.false) c.if-before-ge-MOST_STIMULI.false
