use Rattle.fb_inspect.proofs.lemmas.Common.{◌++◌, ap, inl, refl, subst, sym, ◌∙◌, Ok, Err, system_of, err_from_is_err_and, last_look, IsNextLine, opening_look, IsSevered, unread, Next, Reading, last_tick, IsWrongLine, GoesAfter, Step, ℕ, ◌≡◌, ◌≤◌, arith}
use Rattle.fb_inspect.specs.walk.Stepping.{LineGoes}
use Rattle.fb_inspect.specs.walk.Walking.{HasAdvanced}
use Rattle.fb_inspect.specs.declared.walk.reading.Next.TheVariants as next
use Rattle.fb_inspect.proofs.lemmas.walk.OneStep.{ended_whole, line_next, severed_next, step_over, taken_whole}
use Rattle.fb_inspect.proofs.lemmas.walk.Stepped.{bad_on, complete_bad, ended_here}
use Rattle.fb_inspect.proofs.lemmas.lines.Judging.{bad_line, event_at, wrong_end}
use Rattle.fb_inspect.proofs.lemmas.lines.OneEnd.{names_apart}
use Rattle.fb_inspect.proofs.lemmas.walk.UpToRead.{goes_whole, whole_at}
use Rattle.fb_inspect.specs.walk.Standing.{GoesWhole}
use Rattle.fb_inspect.proofs.lemmas.results.Errors.{of_refusal}
use Rattle.fb_inspect.proofs.lemmas.results.Joined.{ok_passed}
use Rattle.fb_inspect.specs.declared.refused.finding.Finding.TheVariants as why
use Rattle.fb_inspect.proofs.lemmas.results.Refused.{refused_then}
use Rattle.fb_inspect.proofs.walk.Walk.advance.Goals as goal

pub returns-in-CutOff-clause-goes : goal.returns-in-CutOff-clause-goes
returns-in-CutOff-clause-goes g c = λ first what known old new covered.
    let fixed = c.args.fixed.now in
    let types = fixed.table.now.system.now.library.blocks in
    let sys = system_of fixed.table.now.system.now in
    let here = subst (λ (n : Next). IsNextLine sys fixed.form (last_tick 0 covered.gone.gone.lines) c.args.self.now.trail.reading.line.items n) (sym c.in-Event.ensures.value) covered.gone.next in
    let past = bad_on types first sys fixed.form what c.args.terms.steps c.args.self.now c.replace.new.dest known (unread c.args.ahead.now (g.R.Read.remaining c.args.input.now)) old new
    c.replace.ensures.after covered c.in-Event.line.key.tick here.1 in
    let w = c.advance_by_event.new.self in
    subst (λ (r : Reading). IsSevered types first sys fixed.form what (record w { trail = record (w.trail) { reading = r } }) known old new) (sym c.put_back.ensures)
    (severed_next types first sys fixed.form what w (next.Event c.in-Event.line) known old new
    (subst (HasAdvanced types first sys fixed.form what c.args.terms.steps c.advance_by_event.new.self known (unread c.advance_by_event.new.ahead (g.R.Read.remaining c.advance_by_event.new.input)) old new) c.in-CutOff.is
    (c.in_ok-advance_by_event-in-Event.ensures.goes first what known old new past.0 past.1)))

pub returns-in-CutOff-clause-takes : goal.returns-in-CutOff-clause-takes
returns-in-CutOff-clause-takes g c = λ look is.
    let fixed = c.args.fixed.now in
    let types = fixed.table.now.system.now.library.blocks in
    let sys = system_of fixed.table.now.system.now in
    let r = unread c.args.ahead.now (g.R.Read.remaining c.args.input.now) in
    let rest = unread c.advance_by_event.new.ahead (g.R.Read.remaining c.advance_by_event.new.input) in
    let goes = line_next types sys fixed.form c.args.terms.steps look c.in-Event.line c.args.self.now c.replace.new.dest c.advance_by_event.new.self r rest c.advance_by_event.new.ahead _
    (c.in_ok-advance_by_event-in-Event.ensures.takes look is) in (
      record {
        line = c.in-Event.line;
        is = c.in-Event.ensures.value;
        goes = subst (LineGoes types sys fixed.form c.args.terms.steps look c.in-Event.line c.args.self.now c.advance_by_event.new.self c.advance_by_event.new.ahead r rest) c.in-CutOff.is goes;
      },
      ap (λ (r : Reading). r.next) c.put_back.ensures ∙ c.in-Event.ensures.value,
    )

pub returns-in-Taken-clause-goes : goal.returns-in-Taken-clause-goes
returns-in-Taken-clause-goes g c = λ first what known old new covered.
    let fixed = c.args.fixed.now in
    let types = fixed.table.now.system.now.library.blocks in
    let sys = system_of fixed.table.now.system.now in
    let here = subst (λ (n : Next). IsNextLine sys fixed.form (last_tick 0 covered.gone.gone.lines) c.args.self.now.trail.reading.line.items n) (sym c.in-Event.ensures.value) covered.gone.next in
    let past = bad_on types first sys fixed.form what c.args.terms.steps c.args.self.now c.replace.new.dest known (unread c.args.ahead.now (g.R.Read.remaining c.args.input.now)) old new
    c.replace.ensures.after covered c.in-Event.line.key.tick here.1 in
    subst (HasAdvanced types first sys fixed.form what c.args.terms.steps c.advance_by_event.new.self known (unread c.advance_by_event.new.ahead (g.R.Read.remaining c.advance_by_event.new.input)) old new) c.in-Taken.is
    (c.in_ok-advance_by_event-in-Event.ensures.goes first what known old new past.0 past.1)

pub returns-in-Taken-clause-takes : goal.returns-in-Taken-clause-takes
returns-in-Taken-clause-takes g c = λ look is.
    let fixed = c.args.fixed.now in
    let types = fixed.table.now.system.now.library.blocks in
    let sys = system_of fixed.table.now.system.now in
    let r = unread c.args.ahead.now (g.R.Read.remaining c.args.input.now) in
    let rest = unread c.advance_by_event.new.ahead (g.R.Read.remaining c.advance_by_event.new.input) in
    let goes = line_next types sys fixed.form c.args.terms.steps look c.in-Event.line c.args.self.now c.replace.new.dest c.advance_by_event.new.self r rest c.advance_by_event.new.ahead _
    (c.in_ok-advance_by_event-in-Event.ensures.takes look is) in
    step_over types sys fixed.form c.args.terms.steps look c.args.self.now c.advance_by_event.new.self c.in-Event.line c.advance_by_event.new.ahead r rest _ c.in-Event.ensures.value taken_whole
    (subst (LineGoes types sys fixed.form c.args.terms.steps look c.in-Event.line c.args.self.now c.advance_by_event.new.self c.advance_by_event.new.ahead r rest) c.in-Taken.is goes)

pub returns-in-Ended-clause-goes : goal.returns-in-Ended-clause-goes
returns-in-Ended-clause-goes g c = λ first what known old new covered.
    let fixed = c.args.fixed.now in
    let types = fixed.table.now.system.now.library.blocks in
    let sys = system_of fixed.table.now.system.now in
    let here = subst (λ (n : Next). IsNextLine sys fixed.form (last_tick 0 covered.gone.gone.lines) c.args.self.now.trail.reading.line.items n) (sym c.in-Event.ensures.value) covered.gone.next in
    let past = bad_on types first sys fixed.form what c.args.terms.steps c.args.self.now c.replace.new.dest known (unread c.args.ahead.now (g.R.Read.remaining c.args.input.now)) old new
    c.replace.ensures.after covered c.in-Event.line.key.tick here.1 in
    subst (HasAdvanced types first sys fixed.form what c.args.terms.steps c.advance_by_event.new.self known (unread c.advance_by_event.new.ahead (g.R.Read.remaining c.advance_by_event.new.input)) old new) c.in-Ended.is
    (c.in_ok-advance_by_event-in-Event.ensures.goes first what known old new past.0 past.1)

pub returns-in-Ended-clause-takes : goal.returns-in-Ended-clause-takes
returns-in-Ended-clause-takes g c = λ look is.
    let fixed = c.args.fixed.now in
    let types = fixed.table.now.system.now.library.blocks in
    let sys = system_of fixed.table.now.system.now in
    let r = unread c.args.ahead.now (g.R.Read.remaining c.args.input.now) in
    let rest = unread c.advance_by_event.new.ahead (g.R.Read.remaining c.advance_by_event.new.input) in
    let goes = line_next types sys fixed.form c.args.terms.steps look c.in-Event.line c.args.self.now c.replace.new.dest c.advance_by_event.new.self r rest c.advance_by_event.new.ahead _
    (c.in_ok-advance_by_event-in-Event.ensures.takes look is) in
    step_over types sys fixed.form c.args.terms.steps look c.args.self.now c.advance_by_event.new.self c.in-Event.line c.advance_by_event.new.ahead r rest _ c.in-Event.ensures.value (ended_whole _)
    (subst (LineGoes types sys fixed.form c.args.terms.steps look c.in-Event.line c.args.self.now c.advance_by_event.new.self c.advance_by_event.new.ahead r rest) c.in-Ended.is goes)

pub returns-in-End-clause-goes : goal.returns-in-End-clause-goes
returns-in-End-clause-goes g c = λ first what known old new covered.
    let fixed = c.args.fixed.now in
    let types = fixed.table.now.system.now.library.blocks in
    let sys = system_of fixed.table.now.system.now in
    let r = unread c.args.ahead.now (g.R.Read.remaining c.args.input.now) in
    let here = subst (λ (n : Next). IsNextLine sys fixed.form (last_tick 0 covered.gone.gone.lines) c.args.self.now.trail.reading.line.items n) (sym c.in-End.ensures.value) covered.gone.next in
    complete_bad types first sys fixed.form what c.args.terms.steps c.args.self.now c.replace.new.dest c.in-End.end known r old new
    (ended_here types first sys fixed.form what c.args.terms.steps c.args.self.now known r old new covered c.in-End.end here
    (c.may_end.ensures.may sys (last_look (opening_look sys) covered.gone.takings) covered.gone.look c.if-may_end.true))

pub returns-in-End-clause-takes : goal.returns-in-End-clause-takes
returns-in-End-clause-takes g c = λ look is.
    inl (record { is = c.in-End.ensures.value; may = c.may_end.ensures.may (system_of c.args.fixed.now.table.now.system.now) look is c.if-may_end.true; left = refl; number = refl })

pub returns-in_err-advance_by_event-in-Event-clause-stands : goal.returns-in_err-advance_by_event-in-Event-clause-stands
returns-in_err-advance_by_event-in-Event-clause-stands g c = λ rest text few names known well.
    let fixed = c.args.fixed.now in
    let sys = system_of fixed.table.now.system.now in
    let q = err_from_is_err_and c.from_residual.result c.from_residual.ensures.1 in
    rw (q.1, q.2)
    (c.in_err-advance_by_event-in-Event.ensures.stands well.takings rest text few known
    (event_at sys fixed.form well.takings c.args.self.now c.replace.new.dest c.args.ahead.now.text.items c.args.ahead.now.last.items rest text names c.facts.ensures.numbered (names_apart fixed.table.now.system.now c.facts.ensures.accepted)
    well.on c.in-Event.line c.in-Event.ensures.value) well.watched)

pub returns-in-Taken-clause-stands : goal.returns-in-Taken-clause-stands
returns-in-Taken-clause-stands g c = λ rest text few names known well.
    let fixed = c.args.fixed.now in
    let sys = system_of fixed.table.now.system.now in
    subst (λ (s : Step). GoesAfter sys fixed.form c.args.terms.steps c.advance_by_event.new.self c.advance_by_event.new.ahead (g.R.Read.remaining c.advance_by_event.new.input) text (Ok s)) c.in-Taken.is
    (c.in_ok-advance_by_event-in-Event.ensures.stands well.takings rest text few known
    (event_at sys fixed.form well.takings c.args.self.now c.replace.new.dest c.args.ahead.now.text.items c.args.ahead.now.last.items rest text names c.facts.ensures.numbered (names_apart fixed.table.now.system.now c.facts.ensures.accepted)
    well.on c.in-Event.line c.in-Event.ensures.value) well.watched)

pub returns-in-End-2-clause-stands : goal.returns-in-End-2-clause-stands
returns-in-End-2-clause-stands g c = λ rest text few names known well.
    let fixed = c.args.fixed.now in
    let sys = system_of fixed.table.now.system.now in
    let seen = last_look (opening_look sys) well.takings in
    wrong_end sys fixed.form c.args.terms.steps c.args.self.now c.args.ahead.now rest text names well c.in-End.end c.in-End.ensures.value
    (λ can may. c.may_end.ensures.other sys seen well.on.stands.look can c.if-may_end.false may) c.refusal_of_end.result c.refusal_of_end.ensures.excess c.refusal_of_end.ensures.none c.refusal_of_end.ensures.other

pub returns-in-Bad-clause-stands : goal.returns-in-Bad-clause-stands
returns-in-Bad-clause-stands g c = λ rest text few names known well.
    let fixed = c.args.fixed.now in
    let sys = system_of fixed.table.now.system.now in
    of_refusal (λ n. IsWrongLine sys c.args.terms.steps n c.args.self.now.trail.reading.line.items text) c.refusal.result (record { number = c.args.self.now.trail.reading.number; finding = why.Line }) c.refusal.ensures
    (bad_line sys fixed.form c.args.terms.steps c.args.self.now c.args.ahead.now rest text names well c.in-Bad.ensures.value)

pub returns-in_err-advance_by_event-in-Event-clause-goes : goal.returns-in_err-advance_by_event-in-Event-clause-goes
returns-in_err-advance_by_event-in-Event-clause-goes g c = λ _ _ _ _ _ _. ok_passed c.from_residual.result _ _ c.from_residual.ensures.1

pub returns-in_err-advance_by_event-in-Event-clause-takes : goal.returns-in_err-advance_by_event-in-Event-clause-takes
returns-in_err-advance_by_event-in-Event-clause-takes g c = λ _ _. ok_passed c.from_residual.result _ _ c.from_residual.ensures.1

pub returns-in_err-advance_by_event-in-Event-clause-cut : goal.returns-in_err-advance_by_event-in-Event-clause-cut
returns-in_err-advance_by_event-in-Event-clause-cut g c = ok_passed c.from_residual.result _ _ c.from_residual.ensures.1

-- ---- Where a trace may be cut off

pub returns-in_err-advance_by_event-in-Event-clause-uncut : goal.returns-in_err-advance_by_event-in-Event-clause-uncut
returns-in_err-advance_by_event-in-Event-clause-uncut g c = λ rest text few names known whole allowed.
    let fixed = c.args.fixed.now in
    let sys = system_of fixed.table.now.system.now in
    let q = err_from_is_err_and c.from_residual.result c.from_residual.ensures.1 in
    rw (q.1, q.2)
    (c.in_err-advance_by_event-in-Event.ensures.uncut rest text few known
    (whole_at sys fixed.form c.args.terms.steps c.args.self.now c.replace.new.dest c.args.ahead.now rest text names c.facts.ensures.numbered (names_apart fixed.table.now.system.now c.facts.ensures.accepted) whole
    c.in-Event.line c.in-Event.ensures.value) allowed)

pub returns-in-Taken-clause-uncut : goal.returns-in-Taken-clause-uncut
returns-in-Taken-clause-uncut g c = λ rest text few names known whole allowed.
    let fixed = c.args.fixed.now in
    let sys = system_of fixed.table.now.system.now in
    subst (λ (s : Step). GoesWhole sys fixed.form c.args.terms.steps c.advance_by_event.new.self c.advance_by_event.new.ahead (g.R.Read.remaining c.advance_by_event.new.input) text (Ok s)) c.in-Taken.is
    (c.in_ok-advance_by_event-in-Event.ensures.uncut rest text few known
    (whole_at sys fixed.form c.args.terms.steps c.args.self.now c.replace.new.dest c.args.ahead.now rest text names c.facts.ensures.numbered (names_apart fixed.table.now.system.now c.facts.ensures.accepted) whole
    c.in-Event.line c.in-Event.ensures.value) allowed)

pub returns-in-End-2-clause-uncut : goal.returns-in-End-2-clause-uncut
returns-in-End-2-clause-uncut g c = λ rest text few names known whole allowed.
    let fixed = c.args.fixed.now in
    let sys = system_of fixed.table.now.system.now in
    let steps = c.args.terms.steps in
    goes_whole sys fixed.form steps c.args.self.now c.args.ahead.now whole.front rest text (g.R.Read.remaining c.args.input.now) (Err c.refusal_of_end.result) names whole.ended whole.is known
    (λ left.
    let well = whole.stands left in
    wrong_end sys fixed.form steps c.args.self.now c.args.ahead.now left (whole.front ++ left) names well c.in-End.end c.in-End.ensures.value
    (λ can may. c.may_end.ensures.other sys (last_look (opening_look sys) well.takings) well.on.stands.look can c.if-may_end.false may) c.refusal_of_end.result c.refusal_of_end.ensures.excess c.refusal_of_end.ensures.none
    c.refusal_of_end.ensures.other)

pub returns-in-Bad-clause-uncut : goal.returns-in-Bad-clause-uncut
returns-in-Bad-clause-uncut g c = λ rest text few names known whole allowed.
    let fixed = c.args.fixed.now in
    let sys = system_of fixed.table.now.system.now in
    let steps = c.args.terms.steps in
    goes_whole sys fixed.form steps c.args.self.now c.args.ahead.now whole.front rest text (g.R.Read.remaining c.args.input.now) (Err c.refusal.result) names whole.ended whole.is known
    (λ left.
    of_refusal (λ n. IsWrongLine sys steps n c.args.self.now.trail.reading.line.items (whole.front ++ left)) c.refusal.result (record { number = c.args.self.now.trail.reading.number; finding = why.Line }) c.refusal.ensures
    (bad_line sys fixed.form steps c.args.self.now c.args.ahead.now left (whole.front ++ left) names (whole.stands left) c.in-Bad.ensures.value))

-- ---- The number of a line that is refused

pub returns-in_err-advance_by_event-in-Event-clause-later : goal.returns-in_err-advance_by_event-in-Event-clause-later
returns-in_err-advance_by_event-in-Event-clause-later g c = λ rest text names known well.
    let fixed = c.args.fixed.now in
    let sys = system_of fixed.table.now.system.now in
    let q = err_from_is_err_and c.from_residual.result c.from_residual.ensures.1 in
    rw (q.1, q.2)
    (c.in_err-advance_by_event-in-Event.ensures.later well.takings rest text known
    (event_at sys fixed.form well.takings c.args.self.now c.replace.new.dest c.args.ahead.now.text.items c.args.ahead.now.last.items rest text names c.facts.ensures.numbered (names_apart fixed.table.now.system.now c.facts.ensures.accepted)
    well.on c.in-Event.line c.in-Event.ensures.value))

pub returns-in-End-2-clause-later : goal.returns-in-End-2-clause-later
returns-in-End-2-clause-later g c = λ rest text names known well.
    let here = c.args.self.now.trail.reading in
    refused_then c.refusal_of_end.result (λ n. n.number ≡ here.number) (λ n. here.number ≤ n.number) c.refusal_of_end.ensures.number (λ n is. subst (λ (k : ℕ). here.number ≤ k) (sym is) (omega arith))

pub returns-in-Bad-clause-later : goal.returns-in-Bad-clause-later
returns-in-Bad-clause-later g c = λ rest text names known well.
    let here = c.args.self.now.trail.reading in
    of_refusal (λ n. here.number ≤ n.number) c.refusal.result (record { number = here.number; finding = why.Line }) c.refusal.ensures (omega arith)
