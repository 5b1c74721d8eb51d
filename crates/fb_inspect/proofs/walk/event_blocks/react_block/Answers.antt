use Rattle.fb_inspect.proofs.lemmas.Common.{List, map, sym, ap, subst, ◌∙◌, system_of, Value, Emission, Event, emission_of, path_at, ports_at, FitInputs, Reading, Trail, EmitsFail}
use Rattle.fb_event.specs.Reactions.{reaction_to}
use Rattle.fb_event.specs.Seen.{seen_memory}
use Rattle.fb_wave.proofs.lemmas.Handing.{on_ok}
use Rattle.fb_inspect.specs.walk.Timing.{HasReacted, inputs_after}
use Rattle.fb_inspect.specs.walk.OfWalk.{IsNext}
use Rattle.fb_inspect.proofs.lemmas.reactions.Timed.{block_goes, emitted_as, fits_after}
use Rattle.fb_types.specs.declared.run.Emission as run
use Rattle.fb_net.proofs.lemmas.values.Sampling.{ports-of_kind}
use Rattle.fb_inspect.specs.Refusals.{IsPlainLine}
use Rattle.fb_inspect.proofs.lemmas.reactions.NotDue.{fit_block}
use Rattle.fb_inspect.proofs.lemmas.results.Refused.{err_refused, none_passed}
use Rattle.fb_inspect.proofs.lemmas.results.Joined.{ok_passed}
use Rattle.fb_inspect.proofs.walk.event_blocks.react_block.Goals as goal

pub answer-requires-clause-typed : goal.answer-requires-clause-typed
answer-requires-clause-typed g c =
    let b = c.args.block.now in
    subst (λ (vs : List Value). FitInputs b.state.kind vs)
    (sym (c.in_ok-sample.ensures ∙ ap (inputs_after b.inputs) c.as_slice.ensures))
    (fits_after (system_of c.args.fixed.now.table.now.system.now) b c.args.line.now c.requires.line c.requires.taken)

pub emit_all-requires : goal.emit_all-requires
emit_all-requires g c =
    subst (λ (r : Reading). IsNext c.args.fixed.now c.args.line.now.key.tick r) (sym c.in_ok-note_change.ensures.reading) c.requires.next

pub returns-clause-takes : goal.returns-clause-takes
returns-clause-takes g c = λ s kept.
    let b = c.args.block.now in
    let l = c.args.line.now in
    let trail : Trail = c.args.trail.now in
    let noted = c.in_ok-note_change.ensures.noted in
    let sampled_is = c.in_ok-sample.ensures ∙ ap (inputs_after b.inputs) c.as_slice.ensures in
    let has = subst (λ (vs : List Value). HasReacted (reaction_to b.state l.event l.key.tick vs) b.due (record b { inputs = vs }) c.answer.new.block c.answer.new.emits) sampled_is c.in_ok-answer.ensures.reacted in
    let before = c.seen_of-before in
    let after = c.seen_of-after in
    on_ok c.emit_all.result _ _ c.emit_all.ensures.goes
    (λ goes.
    block_goes (system_of c.args.fixed.now.table.now.system.now) b l c.requires.line c.requires.taken s kept c.args.fixed.now.form c.answer.new.block c.answer.new.emits
    (seen_memory before.result.memory) (seen_memory after.result.memory) before.result.due after.result.due trail c.note_change.new.trail c.emit_all.new.self
    (g.R.Read.remaining c.args.input.now) (g.R.Read.remaining c.emit_all.new.input) has
    (record { memory_is = before.ensures.memory; due_is = before.ensures.due })
    (record { memory_is = after.ensures.memory; due_is = after.ensures.due })
    noted.aside (ap (λ (r : Reading). r.line.items) c.in_ok-note_change.ensures.reading) noted.added goes)

pub returns-clause-refused : goal.returns-clause-refused
returns-clause-refused g c = λ s kept names plain.
    let sys = system_of c.args.fixed.now.table.now.system.now in
    let form = c.args.fixed.now.form in
    let b = c.args.block.now in
    let l = c.args.line.now in
    let sampled_is = c.in_ok-sample.ensures ∙ ap (inputs_after b.inputs) c.as_slice.ensures in
    let has = subst (λ (vs : List Value). HasReacted (reaction_to b.state l.event l.key.tick vs) b.due (record b { inputs = vs }) c.answer.new.block c.answer.new.emits) sampled_is c.in_ok-answer.ensures.reacted in
    let es : List run.Emission = c.answer.new.emits in
    let own : IsPlainLine sys form l = record { names = names; line = c.requires.line.line; plain = plain } in
    let fit = fit_block b.state.kind (ports_at sys (path_at sys l.instance)) es (ports-of_kind sys (path_at sys l.instance) (Event b.state.kind) c.requires.line.kind) c.in_ok-answer.ensures.fit in
    let left = g.R.Read.remaining c.args.input.now in
    let after = g.R.Read.remaining c.emit_all.new.input in
    err_refused c.emit_all.result _ _ (c.emit_all.ensures.refused own fit)
    (λ n fails. subst (λ (xs : List Emission). EmitsFail sys form l xs c.args.trail.now.reading c.emit_all.new.self.reading left after n)
    (emitted_as sys b l c.requires.line c.requires.taken s kept c.answer.new.block es has)
    (subst (λ (r : Reading). EmitsFail sys form l (map (emission_of (ports_at sys (path_at sys l.instance))) es) r c.emit_all.new.self.reading left after n) c.in_ok-note_change.ensures.reading fails))

pub returns-in_err-answer-clause-refused : goal.returns-in_err-answer-clause-refused
returns-in_err-answer-clause-refused g c = λ s kept names plain. none_passed _ _ _ c.from_residual-in_err-answer.ensures.1 c.in_err-answer.ensures.fault

pub returns-in_err-sample-clause-takes : goal.returns-in_err-sample-clause-takes
returns-in_err-sample-clause-takes g c = λ _ _. ok_passed c.from_residual.result _ _ c.from_residual.ensures.1

pub returns-in_err-sample-clause-next : goal.returns-in_err-sample-clause-next
returns-in_err-sample-clause-next g c = ok_passed c.from_residual.result _ _ c.from_residual.ensures.1

pub returns-in_err-sample-clause-refused : goal.returns-in_err-sample-clause-refused
returns-in_err-sample-clause-refused g c = λ _ _ _ _. none_passed _ _ _ c.from_residual.ensures.1 tt

pub returns-in_err-answer-clause-takes : goal.returns-in_err-answer-clause-takes
returns-in_err-answer-clause-takes g c = λ _ _. ok_passed c.from_residual-in_err-answer.result _ _ c.from_residual-in_err-answer.ensures.1

pub returns-in_err-answer-clause-next : goal.returns-in_err-answer-clause-next
returns-in_err-answer-clause-next g c = ok_passed c.from_residual-in_err-answer.result _ _ c.from_residual-in_err-answer.ensures.1

pub returns-in_err-note_change-clause-takes : goal.returns-in_err-note_change-clause-takes
returns-in_err-note_change-clause-takes g c = λ _ _. ok_passed c.from_residual-in_err-note_change.result _ _ c.from_residual-in_err-note_change.ensures.1

pub returns-in_err-note_change-clause-next : goal.returns-in_err-note_change-clause-next
returns-in_err-note_change-clause-next g c = ok_passed c.from_residual-in_err-note_change.result _ _ c.from_residual-in_err-note_change.ensures.1

pub returns-in_err-note_change-clause-refused : goal.returns-in_err-note_change-clause-refused
returns-in_err-note_change-clause-refused g c = λ _ _ _ _. none_passed _ _ _ c.from_residual-in_err-note_change.ensures.1 tt

pub returns-clause-next : goal.returns-clause-next
returns-clause-next g c = c.emit_all.ensures.next
