use Rattle.fb_inspect.proofs.lemmas.Common.{ap, refl, rules, subst, sym, system_of, Reading, Refuses, WalkError}
use Rattle.fb_event.specs.Seen.{seen_memory}
use Rattle.fb_inspect.specs.walk.OfWalk.{IsNext}
use Rattle.fb_inspect.proofs.lemmas.reactions.Timed.{timer_goes}
use Rattle.fb_inspect.specs.Refusals.{IsNotDue}
use Rattle.fb_inspect.proofs.lemmas.reactions.NotDue.{not_due}
use Rattle.fb_inspect.proofs.lemmas.results.Refused.{none_passed}
use Rattle.fb_inspect.proofs.lemmas.results.Joined.{ok_passed}
use Rattle.fb_inspect.proofs.walk.event_blocks.expire_block.Goals as goal

pub returns-clause-takes : goal.returns-clause-takes
returns-clause-takes g c = λ s kept.
    timer_goes (system_of c.args.fixed.now.table.now.system.now) c.args.block.now c.args.line.now c.requires.line s kept c.args.fixed.now.form c.expire_to.new.block
    (seen_memory c.seen_of-before.result.memory) (seen_memory c.seen_of-after.result.memory) c.seen_of-before.result.due c.seen_of-after.result.due c.args.trail.now c.pass.new.self _ _ _
    (c.in_ok-expire_to.ensures.only c.if-not-branch.false)
    (record { memory_is = c.seen_of-before.ensures.memory; due_is = c.seen_of-before.ensures.due })
    (record { memory_is = c.seen_of-after.ensures.memory; due_is = c.seen_of-after.ensures.due })
    c.in_ok-pass.ensures.goes c.in_ok-pass.ensures.alone c.in_ok-note_change.ensures.noted.aside (ap (λ (r : Reading). r.line.items) c.in_ok-note_change.ensures.reading) c.in_ok-note_change.ensures.noted.added

pub returns-clause-next : goal.returns-clause-next
returns-clause-next g c =
    subst (λ (r : Reading). IsNext c.args.fixed.now c.args.line.now.key.tick r) (sym c.in_ok-note_change.ensures.reading) c.in_ok-pass.ensures.next

pub returns-then-not-branch-clause-refused : goal.returns-then-not-branch-clause-refused
returns-then-not-branch-clause-refused g c = λ s kept names plain.
    let sys = system_of c.args.fixed.now.table.now.system.now in
    let reading = c.args.trail.now.reading in
    subst (λ (e : WalkError). Refuses (IsNotDue sys c.args.block.now.state.kind s c.args.line.now reading reading) e) (sym c.refusal.ensures)
    (record {
      same = refl;
      number_is = refl;
      found = refl;
      other = not_due c.args.fixed.now.table.now c.args.block.now c.args.line.now c.requires.line names s kept (c.in_ok-expire_to.ensures.other (search rules));
    })

pub returns-in_err-expire_to-clause-refused : goal.returns-in_err-expire_to-clause-refused
returns-in_err-expire_to-clause-refused g c = λ s kept names plain. none_passed _ _ _ c.from_residual.ensures.1 c.in_err-expire_to.ensures.fault

pub returns-in_err-pass-clause-refused : goal.returns-in_err-pass-clause-refused
returns-in_err-pass-clause-refused g c = λ s kept names plain. none_passed _ _ _ c.from_residual-in_err-pass.ensures.1 c.in_err-pass.ensures.fault

pub returns-in_err-expire_to-clause-takes : goal.returns-in_err-expire_to-clause-takes
returns-in_err-expire_to-clause-takes g c = λ _ _. ok_passed c.from_residual.result _ _ c.from_residual.ensures.1

pub returns-in_err-expire_to-clause-next : goal.returns-in_err-expire_to-clause-next
returns-in_err-expire_to-clause-next g c = ok_passed c.from_residual.result _ _ c.from_residual.ensures.1

pub returns-in_err-pass-clause-takes : goal.returns-in_err-pass-clause-takes
returns-in_err-pass-clause-takes g c = λ _ _. ok_passed c.from_residual-in_err-pass.result _ _ c.from_residual-in_err-pass.ensures.1

pub returns-in_err-pass-clause-next : goal.returns-in_err-pass-clause-next
returns-in_err-pass-clause-next g c = ok_passed c.from_residual-in_err-pass.result _ _ c.from_residual-in_err-pass.ensures.1

pub returns-in_err-note_change-clause-takes : goal.returns-in_err-note_change-clause-takes
returns-in_err-note_change-clause-takes g c = λ _ _. ok_passed c.from_residual-in_err-note_change.result _ _ c.from_residual-in_err-note_change.ensures.1

pub returns-in_err-note_change-clause-next : goal.returns-in_err-note_change-clause-next
returns-in_err-note_change-clause-next g c = ok_passed c.from_residual-in_err-note_change.result _ _ c.from_residual-in_err-note_change.ensures.1

pub returns-in_err-note_change-clause-refused : goal.returns-in_err-note_change-clause-refused
returns-in_err-note_change-clause-refused g c = λ _ _ _ _. none_passed _ _ _ c.from_residual-in_err-note_change.ensures.1 tt
