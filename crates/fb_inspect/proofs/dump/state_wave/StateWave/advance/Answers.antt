use Rattle.fb_inspect.proofs.lemmas.Common.{sym, ap, subst, ◌∙◌, Ok, false, system_of, err_from_is_err_and, last_look, IsNext, IsNextLine, Look, opening_look, unread, Reading, Trail, Step, Walk, takings_of, GoesAfter, ◌≡◌, ◌<◌, ◌≤◌, None, Refuses, most}
use Rattle.fb_inspect.specs.walk.Stepping.{StepGoes}
use Rattle.fb_inspect.specs.declared.walk.Step.TheVariants as step
use Rattle.fb_inspect.specs.dump.Waving.{HasGoneOn, IsNextKept}
use Rattle.fb_inspect.proofs.lemmas.dump.DumpSteps.{can_show, gone_cut, gone_none, gone_on, own_rows, ready_of, rows_belong, within_of}
use Rattle.fb_inspect.proofs.lemmas.walk.UpToRefusal.{well_aside}
use Rattle.fb_inspect.proofs.lemmas.walk.UpToRead.{whole_aside}
use Rattle.fb_inspect.specs.walk.Standing.{GoesWhole}
use Rattle.fb_inspect.proofs.lemmas.lines.Moving.{next_line}
use Rattle.fb_inspect.proofs.lemmas.results.Joined.{ok_passed}
use Rattle.fb_inspect.proofs.lemmas.walk.Held.{end_later, takes_later}
use Rattle.fb_inspect.proofs.dump.state_wave.StateWave.advance.Goals as goal

pub keep_next-requires-clause-next : goal.keep_next-requires-clause-next
keep_next-requires-clause-next g c = λ line is.
    let sys = system_of c.args.fixed.now.table.now.system.now in
    (subst (IsNext sys c.args.fixed.now.form c.requires.next.0 c.args.self.now.walk.trail.reading.line.items) is c.requires.next.1).0.line.belongs.instance

pub keep_next-requires-clause-kept : goal.keep_next-requires-clause-kept
keep_next-requires-clause-kept g c = (c.requires.look.0, c.requires.look.1.are)

pub advance-requires-clause-look : goal.advance-requires-clause-look
advance-requires-clause-look g c = c.requires.look

pub advance-requires-clause-next : goal.advance-requires-clause-next
advance-requires-clause-next g c =
    let fixed = c.args.fixed.now in
    let sys = system_of fixed.table.now.system.now in
    let tick = c.requires.next.0 in
    let here : Reading = c.args.self.now.walk.trail.reading in (
      tick,
      subst (λ (t : Trail). IsNextLine sys fixed.form tick t.reading.line.items t.reading.next) (sym c.forget.ensures.others) (next_line sys fixed.form tick here.line.items here.next c.requires.next.1),
    )

pub show_untaken-requires-clause-next : goal.show_untaken-requires-clause-next
show_untaken-requires-clause-next g c =
    let fixed = c.args.fixed.now in
    let sys = system_of fixed.table.now.system.now in
    let x = subst (StepGoes fixed.table.now.system.now.library.blocks sys fixed.form c.args.terms.steps c.requires.look.0 _ _ _ _ _) (c.is_cut_off.ensures.yes c.if-is_cut_off.true)
    (c.in_ok-step.ensures.takes c.requires.look.0 c.requires.look.1) in
    (x.0.line, x.1 ∙ sym x.0.is, (subst (IsNext sys fixed.form c.requires.next.0 c.args.self.now.walk.trail.reading.line.items) (sym (x.0.is ∙ ap (λ (t : Trail). t.reading.next) c.forget.ensures.others)) c.requires.next.1).0.line.belongs)

pub show_untaken-requires-clause-rows : goal.show_untaken-requires-clause-rows
show_untaken-requires-clause-rows g c =
    let fixed = c.args.fixed.now in
    let sys = system_of fixed.table.now.system.now in
    let x = subst (StepGoes fixed.table.now.system.now.library.blocks sys fixed.form c.args.terms.steps c.requires.look.0 _ _ _ _ _) (c.is_cut_off.ensures.yes c.if-is_cut_off.true)
    (c.in_ok-step.ensures.takes c.requires.look.0 c.requires.look.1) in
    rows_belong sys fixed.form x.0.line _ _ _ x.0.goes

pub returns-then-is_cut_off-clause-goes : goal.returns-then-is_cut_off-clause-goes
returns-then-is_cut_off-clause-goes g c = λ known old new have.
    let fixed = c.args.fixed.now in
    let types = fixed.table.now.system.now.library.blocks in
    let sys = system_of fixed.table.now.system.now in
    let steps = c.args.terms.steps in
    let seen : Look = last_look (opening_look sys) (takings_of have.takings) in
    let r = unread c.args.ahead.now (g.R.Read.remaining c.args.input.now) in
    let rest = unread c.advance.new.ahead (g.R.Read.remaining c.advance.new.input) in
    let x = subst (StepGoes types sys fixed.form steps seen _ _ _ _ _) (c.is_cut_off.ensures.yes c.if-is_cut_off.true) (c.in_ok-step.ensures.takes seen have.look) in
    subst (HasGoneOn sys fixed.form steps c.show_untaken.new.self known rest old new) (sym (c.is_cut_off.ensures.yes c.if-is_cut_off.true))
    (gone_cut types sys fixed.form steps c.args.self.now known r old new have _ c.advance.new.self c.advance.new.ahead rest c.show_untaken.new.self (ready_of c.args.self.now c.forget.new.self have.kept c.forget.ensures.none c.forget.ensures.others)
    x.0 c.in_ok-show_untaken.ensures.numbers
    (λ sent shows. c.in_ok-show_untaken.ensures.shown x.0.line have.takings sent (x.1 ∙ sym x.0.is) (own_rows sys fixed.form x.0.line _ _ _ x.0.goes) shows))

pub returns-in_default-clause-goes : goal.returns-in_default-clause-goes
returns-in_default-clause-goes g c = λ known old new have.
    let fixed = c.args.fixed.now in
    let types = fixed.table.now.system.now.library.blocks in
    let sys = system_of fixed.table.now.system.now in
    let steps = c.args.terms.steps in
    let seen : Look = last_look (opening_look sys) (takings_of have.takings) in
    let r = unread c.args.ahead.now (g.R.Read.remaining c.args.input.now) in
    let rest = unread c.advance.new.ahead (g.R.Read.remaining c.advance.new.input) in
    gone_none types sys fixed.form steps c.args.self.now known r old new have _ c.advance.new.self c.keep_next.new.before (ready_of c.args.self.now c.forget.new.self have.kept c.forget.ensures.none c.forget.ensures.others)
    rest c.advance.new.ahead _ (subst (IsNextKept sys c.args.self.now.walk c.keep_next.new.before) c.in_default.is c.in_ok-kept.ensures) (c.is_cut_off.ensures.no c.if-is_cut_off.false)
    (c.in_ok-step.ensures.takes seen have.look)

pub show-requires : goal.show-requires
show-requires g c =
    let fixed = c.args.fixed.now in
    let types = fixed.table.now.system.now.library.blocks in
    let sys = system_of fixed.table.now.system.now in
    let event = subst (IsNextKept sys c.args.self.now.walk c.keep_next.new.before) c.in-Some.is c.in_ok-kept.ensures in
    let r = unread c.args.ahead.now (g.R.Read.remaining c.args.input.now) in
    let rest = unread c.advance.new.ahead (g.R.Read.remaining c.advance.new.input) in
    can_show types sys fixed.form c.args.terms.steps c.args.self.now c.requires.look.0 _ c.advance.new.self c.keep_next.new.before c.in-Some.event c.advance.new.ahead r rest _
    (ready_of c.args.self.now c.forget.new.self c.requires.kept c.forget.ensures.none c.forget.ensures.others) event c.requires.dump c.requires.look.1.are
    (within_of sys fixed.form c.requires.next.0 c.args.self.now.walk c.keep_next.new.before c.in-Some.event event c.requires.next.1) (c.is_cut_off.ensures.no c.if-is_cut_off.false)
    (c.in_ok-step.ensures.takes c.requires.look.0 c.requires.look.1)

pub returns-clause-goes : goal.returns-clause-goes
returns-clause-goes g c = λ known old new have.
    let fixed = c.args.fixed.now in
    let types = fixed.table.now.system.now.library.blocks in
    let sys = system_of fixed.table.now.system.now in
    let steps = c.args.terms.steps in
    let seen : Look = last_look (opening_look sys) (takings_of have.takings) in
    let event = subst (IsNextKept sys c.args.self.now.walk c.keep_next.new.before) c.in-Some.is c.in_ok-kept.ensures in
    let r = unread c.args.ahead.now (g.R.Read.remaining c.args.input.now) in
    let rest = unread c.advance.new.ahead (g.R.Read.remaining c.advance.new.input) in
    gone_on types sys fixed.form steps c.args.self.now known r old new have _ c.advance.new.self c.keep_next.new.before c.show.new.self c.in-Some.event rest
    (ready_of c.args.self.now c.forget.new.self have.kept c.forget.ensures.none c.forget.ensures.others) event c.in_ok-show.ensures.walk c.in_ok-show.ensures.numbers
    (λ look after before are. c.in_ok-show.ensures.shown look after before are) c.advance.new.ahead _ (c.is_cut_off.ensures.no c.if-is_cut_off.false) (c.in_ok-step.ensures.takes seen have.look)

pub returns-in_err-step-clause-stands : goal.returns-in_err-step-clause-stands
returns-in_err-step-clause-stands g c = λ rest text few names known well.
    let fixed = c.args.fixed.now in
    let sys = system_of fixed.table.now.system.now in
    let w = c.args.self.now.walk in
    let q = err_from_is_err_and c.from_residual-in_err-step.result c.from_residual-in_err-step.ensures.1 in
    rw (q.1, q.2) (c.in_err-step.ensures.stands rest text few names known (well_aside sys fixed.form c.args.terms.steps w c.forget.new.self _ _ c.args.ahead.now rest text c.forget.ensures.others well))

pub returns-then-is_cut_off-clause-stands : goal.returns-then-is_cut_off-clause-stands
returns-then-is_cut_off-clause-stands g c = λ rest text few names known well.
    let fixed = c.args.fixed.now in
    let sys = system_of fixed.table.now.system.now in
    let w = c.args.self.now.walk in
    subst (λ (s : Step). GoesAfter sys fixed.form c.args.terms.steps c.show_untaken.new.self.walk c.advance.new.ahead (g.R.Read.remaining c.advance.new.input) text (Ok s)) (sym (c.is_cut_off.ensures.yes c.if-is_cut_off.true)) tt

pub returns-in_default-clause-stands : goal.returns-in_default-clause-stands
returns-in_default-clause-stands g c = λ rest text few names known well.
    let fixed = c.args.fixed.now in
    let sys = system_of fixed.table.now.system.now in
    let w = c.args.self.now.walk in
    c.in_ok-step.ensures.stands rest text few names known (well_aside sys fixed.form c.args.terms.steps w c.forget.new.self _ _ c.args.ahead.now rest text c.forget.ensures.others well)

pub returns-clause-stands : goal.returns-clause-stands
returns-clause-stands g c = λ rest text few names known well.
    let fixed = c.args.fixed.now in
    let sys = system_of fixed.table.now.system.now in
    let w = c.args.self.now.walk in
    subst (λ (w : Walk). GoesAfter sys fixed.form c.args.terms.steps w c.advance.new.ahead (g.R.Read.remaining c.advance.new.input) text (Ok c.in_ok-step.step)) (sym c.in_ok-show.ensures.walk)
    (c.in_ok-step.ensures.stands rest text few names known (well_aside sys fixed.form c.args.terms.steps w c.forget.new.self _ _ c.args.ahead.now rest text c.forget.ensures.others well))

pub returns-in_err-kept-clause-goes : goal.returns-in_err-kept-clause-goes
returns-in_err-kept-clause-goes g c = λ _ _ _ _. ok_passed c.from_residual.result _ _ c.from_residual.ensures.1

pub returns-in_err-kept-clause-cut : goal.returns-in_err-kept-clause-cut
returns-in_err-kept-clause-cut g c = ok_passed c.from_residual.result _ _ c.from_residual.ensures.1

pub returns-in_err-step-clause-goes : goal.returns-in_err-step-clause-goes
returns-in_err-step-clause-goes g c = λ _ _ _ _. ok_passed c.from_residual-in_err-step.result _ _ c.from_residual-in_err-step.ensures.1

pub returns-in_err-step-clause-cut : goal.returns-in_err-step-clause-cut
returns-in_err-step-clause-cut g c = ok_passed c.from_residual-in_err-step.result _ _ c.from_residual-in_err-step.ensures.1

pub returns-in_err-show_untaken-clause-goes : goal.returns-in_err-show_untaken-clause-goes
returns-in_err-show_untaken-clause-goes g c = λ _ _ _ _. ok_passed c.from_residual-in_err-show_untaken.result _ _ c.from_residual-in_err-show_untaken.ensures.1

pub returns-in_err-show_untaken-clause-cut : goal.returns-in_err-show_untaken-clause-cut
returns-in_err-show_untaken-clause-cut g c = ok_passed c.from_residual-in_err-show_untaken.result _ _ c.from_residual-in_err-show_untaken.ensures.1

pub returns-in_err-show-clause-goes : goal.returns-in_err-show-clause-goes
returns-in_err-show-clause-goes g c = λ _ _ _ _. ok_passed c.from_residual-in_err-show.result _ _ c.from_residual-in_err-show.ensures.1

pub returns-in_err-show-clause-cut : goal.returns-in_err-show-clause-cut
returns-in_err-show-clause-cut g c = ok_passed c.from_residual-in_err-show.result _ _ c.from_residual-in_err-show.ensures.1

-- ---- Where a trace may be cut off

pub returns-in_err-step-clause-uncut : goal.returns-in_err-step-clause-uncut
returns-in_err-step-clause-uncut g c = λ rest text few names known whole allowed.
    let fixed = c.args.fixed.now in
    let sys = system_of fixed.table.now.system.now in
    let w = c.args.self.now.walk in
    let q = err_from_is_err_and c.from_residual-in_err-step.result c.from_residual-in_err-step.ensures.1 in
    rw (q.1, q.2) (c.in_err-step.ensures.uncut rest text few names known (whole_aside sys fixed.form c.args.terms.steps w c.forget.new.self _ _ c.args.ahead.now rest text c.forget.ensures.others whole) allowed)

pub returns-then-is_cut_off-clause-uncut : goal.returns-then-is_cut_off-clause-uncut
returns-then-is_cut_off-clause-uncut g c = λ rest text few names known whole allowed.
    let fixed = c.args.fixed.now in
    let sys = system_of fixed.table.now.system.now in
    subst (λ (s : Step). GoesWhole sys fixed.form c.args.terms.steps c.show_untaken.new.self.walk c.advance.new.ahead (g.R.Read.remaining c.advance.new.input) text (Ok s)) (sym (c.is_cut_off.ensures.yes c.if-is_cut_off.true)) tt

pub returns-in_default-clause-uncut : goal.returns-in_default-clause-uncut
returns-in_default-clause-uncut g c = λ rest text few names known whole allowed.
    let fixed = c.args.fixed.now in
    let sys = system_of fixed.table.now.system.now in
    let w = c.args.self.now.walk in
    c.in_ok-step.ensures.uncut rest text few names known (whole_aside sys fixed.form c.args.terms.steps w c.forget.new.self _ _ c.args.ahead.now rest text c.forget.ensures.others whole) allowed

pub returns-clause-uncut : goal.returns-clause-uncut
returns-clause-uncut g c = λ rest text few names known whole allowed.
    let fixed = c.args.fixed.now in
    let sys = system_of fixed.table.now.system.now in
    let w = c.args.self.now.walk in
    subst (λ (w : Walk). GoesWhole sys fixed.form c.args.terms.steps w c.advance.new.ahead (g.R.Read.remaining c.advance.new.input) text (Ok c.in_ok-step.step)) (sym c.in_ok-show.ensures.walk)
    (c.in_ok-step.ensures.uncut rest text few names known (whole_aside sys fixed.form c.args.terms.steps w c.forget.new.self _ _ c.args.ahead.now rest text c.forget.ensures.others whole) allowed)

-- ---- What was added

pub returns-then-is_cut_off-clause-grows : goal.returns-then-is_cut_off-clause-grows
returns-then-is_cut_off-clause-grows g c = λ known old new have same. absurd (let clash : step.Taken ≡ step.CutOff = sym same ∙ c.is_cut_off.ensures.yes c.if-is_cut_off.true in cc)

pub returns-in_default-clause-grows : goal.returns-in_default-clause-grows
returns-in_default-clause-grows g c = λ known old new have same.
    let fixed = c.args.fixed.now in
    let types = fixed.table.now.system.now.library.blocks in
    let sys = system_of fixed.table.now.system.now in
    let seen : Look = last_look (opening_look sys) (takings_of have.takings) in
    let x = subst (StepGoes types sys fixed.form c.args.terms.steps seen _ _ _ _ _) same (c.in_ok-step.ensures.takes seen have.look) in
    absurd ((subst (IsNextKept sys c.args.self.now.walk c.keep_next.new.before) c.in_default.is c.in_ok-kept.ensures) x.line (sym (x.is ∙ ap (λ (t : Trail). t.reading.next) c.forget.ensures.others)))

pub returns-clause-grows : goal.returns-clause-grows
returns-clause-grows g c = λ known old new have same.
    let fixed = c.args.fixed.now in
    let types = fixed.table.now.system.now.library.blocks in
    let sys = system_of fixed.table.now.system.now in
    let seen : Look = last_look (opening_look sys) (takings_of have.takings) in
    let x = subst (StepGoes types sys fixed.form c.args.terms.steps seen _ _ _ _ _) same (c.in_ok-step.ensures.takes seen have.look) in
    let event = subst (IsNextKept sys c.args.self.now.walk c.keep_next.new.before) c.in-Some.is c.in_ok-kept.ensures in
    let goes = x.goes.goes in
    let less = takes_later types sys fixed.form most seen x.line None _ _ _ _ goes in
    record {
      line = x.line;
      is = x.is ∙ ap (λ (t : Trail). t.reading.next) c.forget.ensures.others;
      number = subst (λ (w : Walk). c.args.self.now.walk.trail.reading.number < w.trail.reading.number) (sym c.in_ok-show.ensures.walk)
          (subst (λ (t : Trail). t.reading.number < c.advance.new.self.trail.reading.number) c.forget.ensures.others less);
      text = (c.in_ok-show.ensures.shown seen goes.taking.after (event.saved seen have.look.are) goes.look_after.are).grows have.takings have.waved.sent have.waved.shown;
    }

pub returns-then-is_cut_off-clause-ends : goal.returns-then-is_cut_off-clause-ends
returns-then-is_cut_off-clause-ends g c = λ known old new have end same. absurd (let clash : step.Ended end ≡ step.CutOff = sym same ∙ c.is_cut_off.ensures.yes c.if-is_cut_off.true in cc)

pub returns-in_default-clause-ends : goal.returns-in_default-clause-ends
returns-in_default-clause-ends g c = λ known old new have end same.
    let fixed = c.args.fixed.now in
    let types = fixed.table.now.system.now.library.blocks in
    let sys = system_of fixed.table.now.system.now in
    let seen : Look = last_look (opening_look sys) (takings_of have.takings) in
    let x = subst (StepGoes types sys fixed.form c.args.terms.steps seen _ _ _ _ _) same (c.in_ok-step.ensures.takes seen have.look) in
    subst (λ (t : Trail). t.reading.number ≤ c.advance.new.self.trail.reading.number) c.forget.ensures.others (end_later types sys fixed.form c.args.terms.steps seen _ _ _ _ _ end x)

pub returns-clause-ends : goal.returns-clause-ends
returns-clause-ends g c = λ known old new have end same.
    let fixed = c.args.fixed.now in
    let types = fixed.table.now.system.now.library.blocks in
    let sys = system_of fixed.table.now.system.now in
    let seen : Look = last_look (opening_look sys) (takings_of have.takings) in
    let x = subst (StepGoes types sys fixed.form c.args.terms.steps seen _ _ _ _ _) same (c.in_ok-step.ensures.takes seen have.look) in
    subst (λ (w : Walk). c.args.self.now.walk.trail.reading.number ≤ w.trail.reading.number) (sym c.in_ok-show.ensures.walk)
    (subst (λ (t : Trail). t.reading.number ≤ c.advance.new.self.trail.reading.number) c.forget.ensures.others (end_later types sys fixed.form c.args.terms.steps seen _ _ _ _ _ end x))

pub returns-in_err-step-clause-later : goal.returns-in_err-step-clause-later
returns-in_err-step-clause-later g c = λ rest text names known well.
    let fixed = c.args.fixed.now in
    let sys = system_of fixed.table.now.system.now in
    let w = c.args.self.now.walk in
    let q = err_from_is_err_and c.from_residual-in_err-step.result c.from_residual-in_err-step.ensures.1 in
    rw (q.1, q.2)
    (subst (λ (t : Trail). Refuses (λ n. t.reading.number ≤ n.number) c.in_err-step.field-0.0) c.forget.ensures.others
    (c.in_err-step.ensures.later rest text names known (well_aside sys fixed.form c.args.terms.steps w c.forget.new.self _ _ c.args.ahead.now rest text c.forget.ensures.others well)))
