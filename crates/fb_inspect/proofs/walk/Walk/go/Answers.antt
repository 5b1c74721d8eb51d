use Rattle.fb_inspect.proofs.lemmas.Common.{List, ℕ, ◌<◌, length, inl, Option, subst, sym, ◌≡◌, Ok, Some, IfSome, system_of, Consumes, err_from_is_err_and, Marks, last_look, opening_look, HasCovered, unread, Step, last_tick, IsWrongFor, IsWrongLine, GoesAfter, inr, Appends-nil, None, most, ◌≤◌, ◌∙◌}
use Rattle.fb_inspect.specs.Covering.{IsCovered, IsCutCovered}
use Rattle.fb_inspect.specs.walk.Walking.{HasAdvanced, HasFlushed}
use Rattle.fb_inspect.proofs.lemmas.walk.Ended.{complete_covered, complete_part, complete_shown, front_flush, front_gone, severed_covered, severed_part, severed_shown, shown_cut, shown_whole, some_text}
use Rattle.fb_inspect.proofs.lemmas.walk.WalkedTakings.{covered_none, flushed_on}
use Rattle.fb_inspect.proofs.lemmas.results.Joined.{err_joined, fails_joined, ok_joined, ok_passed, on_joined}
use Rattle.fb_inspect.proofs.lemmas.reactions.Placed.{err_any, err_then}
use Rattle.fb_inspect.proofs.lemmas.lines.Severing.{on_some}
use Rattle.fb_inspect.proofs.lemmas.walk.Stepped.{none_ahead}
use Rattle.fb_inspect.proofs.lemmas.walk.UpToRefusal.{after_last, well_first, well_flushed}
use Rattle.fb_inspect.proofs.lemmas.walk.UpToRead.{uncut_after, whole_first, whole_flushed}
use Rattle.fb_inspect.specs.walk.Standing.{GoesWhole}
use Rattle.fb_wave.specs.CutOff.{IsUncut, IsWhole}
use Rattle.fb_wave.proofs.lemmas.Handing.{on_ok}
use Rattle.fb_inspect.proofs.lemmas.results.Refused.{err_none, err_refused, refused_then, both_refused, none_passed}
use Rattle.fb_inspect.specs.Refusals.{IsRefusalAfter}
use Rattle.fb_inspect.proofs.lemmas.walk.Held.{after_that, before_later, end_later, held_on, takes_longer}
use Rattle.fb_inspect.specs.walk.Stepping.{StepGoes}
use Rattle.fb_inspect.specs.Inspections.{ShowsBefore}
use Rattle.fb_inspect.proofs.walk.Walk.go.Goals as goal

pub loop-init : goal.loop-init
loop-init g c = (
  λ what known starts read.
      let fixed = c.args.fixed.now in
      let types = fixed.table.now.system.now.library.blocks in
      let sys = system_of fixed.table.now.system.now in
      let w = c.args.self.now in
      let o = g.R.Read.remaining c.args.input.now in
      let out = g.W.Write.contents c.args.out.now in
      subst (λ (p : Option (List ℕ)). HasCovered types w.trail.marks sys fixed.form what c.args.terms.steps w known p out out) (sym (none_ahead c.args.ahead.now.text.items o c.requires.empty))
      (covered_none sys fixed.form what c.args.terms.steps types w known o out starts read),
  λ what rest text few names starts known begins.
      (rest, known, well_first (system_of c.args.fixed.now.table.now.system.now) c.args.fixed.now.form what c.args.terms.steps c.args.self.now c.args.ahead.now rest text starts c.requires.empty begins),
  λ what rest text few names starts known begins allowed ended.
      (rest, known, whole_first (system_of c.args.fixed.now.table.now.system.now) c.args.fixed.now.form c.args.terms.steps what c.args.self.now c.args.ahead.now rest text starts c.requires.empty begins ended),
  λ what rest text few names starts known begins. inl (Appends-nil (g.W.Write.contents c.args.out.now)),
)

pub advance-requires-clause-look : goal.advance-requires-clause-look
advance-requires-clause-look g c =
    let known = some_text (g.R.Read.remaining c.args.input.now) c.args.self.now.trail.reading.line.items in
    let covered = c.loop.invariant.0 c.requires.starts.0 known.0 c.requires.starts.1 known.1 in
    (last_look (opening_look (system_of c.args.fixed.now.table.now.system.now)) covered.gone.takings, covered.gone.look)

pub advance-requires-clause-next : goal.advance-requires-clause-next
advance-requires-clause-next g c =
    let known = some_text (g.R.Read.remaining c.args.input.now) c.args.self.now.trail.reading.line.items in
    let covered = c.loop.invariant.0 c.requires.starts.0 known.0 c.requires.starts.1 known.1 in
    (last_tick 0 covered.gone.gone.lines, covered.gone.next)

pub returns-in_err-advance-clause-fault : goal.returns-in_err-advance-clause-fault
returns-in_err-advance-clause-fault g c = λ what known starts read.
    let fixed = c.args.fixed.now in
    let covered = c.loop.invariant.0 what known starts read in
    err_any c.from_residual.result _
    (front_gone (system_of fixed.table.now.system.now) fixed.form what c.args.terms.steps c.loop.self covered.gone.takings known (unread c.loop.ahead (g.R.Read.remaining c.loop.input))
    (g.W.Write.contents c.args.out.now) (g.W.Write.contents c.loop.out) covered.gone.gone)

pub returns-in_err-flush_front-in-Taken-clause-fault :
    goal.returns-in_err-flush_front-in-Taken-clause-fault
returns-in_err-flush_front-in-Taken-clause-fault g c = λ what known starts read.
    let fixed = c.args.fixed.now in
    let types = fixed.table.now.system.now.library.blocks in
    let sys = system_of fixed.table.now.system.now in
    let first = c.args.self.now.trail.marks in
    let steps = c.args.terms.steps in
    let old = g.W.Write.contents c.args.out.now in
    let mid = g.W.Write.contents c.loop.out in
    let r = unread c.advance.new.ahead (g.R.Read.remaining c.advance.new.input) in
    let next = subst (λ (s : Step). HasAdvanced types first sys fixed.form what steps c.advance.new.self known r old mid s) c.in-Taken.is
    (c.in_ok-advance.ensures.goes first what known old mid (c.loop.invariant.0 what known starts read)) in
    err_any c.from_residual-in_err-flush_front-in-Taken.result _
    (front_flush sys fixed.form what steps c.advance.new.self next.gone.takings known r old mid (g.W.Write.contents c.flush_front.new.out) next.gone.gone
    c.in_err-flush_front-in-Taken.ensures.part)

pub loop-preserved : goal.loop-preserved
loop-preserved g c = (
  λ what known starts read.
      let fixed = c.args.fixed.now in
      let types = fixed.table.now.system.now.library.blocks in
      let sys = system_of fixed.table.now.system.now in
      let first = c.args.self.now.trail.marks in
      let steps = c.args.terms.steps in
      let old = g.W.Write.contents c.args.out.now in
      let mid = g.W.Write.contents c.loop.out in
      let r = unread c.advance.new.ahead (g.R.Read.remaining c.advance.new.input) in
      let next = subst (λ (s : Step). HasAdvanced types first sys fixed.form what steps c.advance.new.self known r old mid s) c.in-Taken.is
      (c.in_ok-advance.ensures.goes first what known old mid (c.loop.invariant.0 what known starts read)) in
      flushed_on sys fixed.form what steps types first c.advance.new.self c.flush_front.new.page known r old mid (g.W.Write.contents c.flush_front.new.out) next c.len-before.result c.in_ok-flush_front-in-Taken.ensures.flushed,
  λ what rest text few names starts known begins.
      let fixed = c.args.fixed.now in
      let sys = system_of fixed.table.now.system.now in
      let before = c.loop.invariant.1 what rest text few names starts known begins in
      let after = subst (λ (s : Step). GoesAfter sys fixed.form c.args.terms.steps c.advance.new.self c.advance.new.ahead (g.R.Read.remaining c.advance.new.input) text (Ok s)) c.in-Taken.is
      (c.in_ok-advance.ensures.stands before.0 text few names before.1 before.2) in
      (after.0, after.1, well_flushed sys fixed.form c.args.terms.steps c.advance.new.self c.flush_front.new.page c.advance.new.ahead after.0 text after.2),
  λ what rest text few names starts known begins allowed ended.
      let fixed = c.args.fixed.now in
      let sys = system_of fixed.table.now.system.now in
      let before = c.loop.invariant.2 what rest text few names starts known begins allowed ended in
      let after = subst (λ (s : Step). GoesWhole sys fixed.form c.args.terms.steps c.advance.new.self c.advance.new.ahead (g.R.Read.remaining c.advance.new.input) text (Ok s)) c.in-Taken.is
      (c.in_ok-advance.ensures.uncut before.0 text few names before.1 before.2 allowed) in
      (after.0, after.1, whole_flushed sys fixed.form c.args.terms.steps c.advance.new.self c.flush_front.new.page c.advance.new.ahead after.0 text after.2),
  λ what rest text few names starts known begins.
      let fixed = c.args.fixed.now in
      let types = fixed.table.now.system.now.library.blocks in
      let sys = system_of fixed.table.now.system.now in
      let first = c.args.self.now.trail.marks in
      let steps = c.args.terms.steps in
      let old = g.W.Write.contents c.args.out.now in
      let mid = g.W.Write.contents c.loop.out in
      let new = g.W.Write.contents c.flush_front.new.out in
      let r = unread c.loop.ahead (g.R.Read.remaining c.loop.input) in
      let after = unread c.advance.new.ahead (g.R.Read.remaining c.advance.new.input) in
      let read = subst (λ (o : Option (List ℕ)). Consumes (Some text) o c.args.self.now.trail.reading.line.items) (sym known) begins.is in
      let covered = c.loop.invariant.0 what (Some text) starts read in
      let look = last_look (opening_look sys) covered.gone.takings in
      let step = subst (StepGoes types sys fixed.form steps look c.loop.self c.advance.new.self c.advance.new.ahead r after) c.in-Taken.is (c.in_ok-advance.ensures.takes look covered.gone.look) in
      held_on types first sys fixed.form what steps c.loop.self c.advance.new.self text c.flush_front.new.page.text.items r r after old mid new c.advance.new.ahead covered step
      (subst (λ (n : ℕ). HasFlushed n mid new c.advance.new.self.trail.page.text.items c.flush_front.new.page.text.items) (c.len-before.ensures ∙ c.loop.self.trail.page.text.ok.0) c.in_ok-flush_front-in-Taken.ensures.flushed)
      (c.loop.invariant.3 what rest text few names starts known begins),
)

pub returns-in-Ended-clause-fault : goal.returns-in-Ended-clause-fault
returns-in-Ended-clause-fault g c = λ what known starts read.
    let fixed = c.args.fixed.now in
    let i = fixed.table.now.system.now in
    let first = c.args.self.now.trail.marks in
    let steps = c.args.terms.steps in
    let old = g.W.Write.contents c.args.out.now in
    let mid = g.W.Write.contents c.loop.out in
    let r = unread c.advance.new.ahead (g.R.Read.remaining c.advance.new.input) in
    let next = subst (λ (s : Step). HasAdvanced i.library.blocks first (system_of i) fixed.form what steps c.advance.new.self known r old mid s) c.in-Ended.is
    (c.in_ok-advance.ensures.goes first what known old mid (c.loop.invariant.0 what known starts read)) in
    fails_joined c.and.result c.finish.result _ _ c.and.ensures
    (err_then c.finish.result _ _ c.finish.ensures.fault
    (λ part. complete_part i fixed.form what steps first c.advance.new.self c.in-Ended.field-0 known r old mid next (g.W.Write.contents c.finish.new.out) part))

pub returns-in-Ended-clause-whole : goal.returns-in-Ended-clause-whole
returns-in-Ended-clause-whole g c = λ what known starts read.
    let fixed = c.args.fixed.now in
    let i = fixed.table.now.system.now in
    let first = c.args.self.now.trail.marks in
    let steps = c.args.terms.steps in
    let old = g.W.Write.contents c.args.out.now in
    let mid = g.W.Write.contents c.loop.out in
    let new = g.W.Write.contents c.finish.new.out in
    let r = unread c.advance.new.ahead (g.R.Read.remaining c.advance.new.input) in
    let next = subst (λ (s : Step). HasAdvanced i.library.blocks first (system_of i) fixed.form what steps c.advance.new.self known r old mid s) c.in-Ended.is
    (c.in_ok-advance.ensures.goes first what known old mid (c.loop.invariant.0 what known starts read)) in
    on_joined c.and.result c.finish.result _ _ c.and.ensures
    (on_ok c.finish.result _ _ c.finish.ensures.finishes
    (λ over.
    shown_whole c.args.terms.cut (system_of i) what steps known old new
    (complete_shown i fixed.form what steps first c.advance.new.self c.in-Ended.field-0 known r old mid next new over)))

pub returns-in-Ended-clause-covered : goal.returns-in-Ended-clause-covered
returns-in-Ended-clause-covered g c = λ what known starts read.
    let fixed = c.args.fixed.now in
    let i = fixed.table.now.system.now in
    let first = c.args.self.now.trail.marks in
    let steps = c.args.terms.steps in
    let old = g.W.Write.contents c.args.out.now in
    let mid = g.W.Write.contents c.loop.out in
    let r = unread c.advance.new.ahead (g.R.Read.remaining c.advance.new.input) in
    let next = subst (λ (s : Step). HasAdvanced i.library.blocks first (system_of i) fixed.form what steps c.advance.new.self known r old mid s) c.in-Ended.is
    (c.in_ok-advance.ensures.goes first what known old mid (c.loop.invariant.0 what known starts read)) in
    ok_joined c.and.result c.finish.result _ _ _ c.and.ensures c.finish.ensures.finishes
    (λ finishes.
    subst (λ (m : Marks). IfSome known (λ text. IsCovered i what steps text first m)) (sym c.finish.ensures.marks)
    (complete_covered i fixed.form what steps first c.advance.new.self c.in-Ended.field-0 known r old mid next finishes.over))

pub returns-in-CutOff-clause-fault : goal.returns-in-CutOff-clause-fault
returns-in-CutOff-clause-fault g c = λ what known starts read.
    let fixed = c.args.fixed.now in
    let i = fixed.table.now.system.now in
    let first = c.args.self.now.trail.marks in
    let steps = c.args.terms.steps in
    let old = g.W.Write.contents c.args.out.now in
    let mid = g.W.Write.contents c.loop.out in
    let r = unread c.advance.new.ahead (g.R.Read.remaining c.advance.new.input) in
    let next = subst (λ (s : Step). HasAdvanced i.library.blocks first (system_of i) fixed.form what steps c.advance.new.self known r old mid s) c.in-CutOff.is
    (c.in_ok-advance.ensures.goes first what known old mid (c.loop.invariant.0 what known starts read)) in
    fails_joined c.and-in-CutOff.result c.finish_cut.result _ _ c.and-in-CutOff.ensures
    (err_then c.finish_cut.result _ _ c.finish_cut.ensures.fault
    (λ part. severed_part i fixed.form what steps first c.advance.new.self known old mid next (g.W.Write.contents c.finish_cut.new.out) part))

pub returns-in-CutOff-clause-whole : goal.returns-in-CutOff-clause-whole
returns-in-CutOff-clause-whole g c = λ what known starts read.
    let fixed = c.args.fixed.now in
    let i = fixed.table.now.system.now in
    let first = c.args.self.now.trail.marks in
    let steps = c.args.terms.steps in
    let old = g.W.Write.contents c.args.out.now in
    let mid = g.W.Write.contents c.loop.out in
    let new = g.W.Write.contents c.finish_cut.new.out in
    let r = unread c.advance.new.ahead (g.R.Read.remaining c.advance.new.input) in
    let next = subst (λ (s : Step). HasAdvanced i.library.blocks first (system_of i) fixed.form what steps c.advance.new.self known r old mid s) c.in-CutOff.is
    (c.in_ok-advance.ensures.goes first what known old mid (c.loop.invariant.0 what known starts read)) in
    on_joined c.and-in-CutOff.result c.finish_cut.result _ _ c.and-in-CutOff.ensures
    (on_ok c.finish_cut.result _ _ c.finish_cut.ensures.finishes
    (λ finishes.
    shown_cut c.args.terms.cut (system_of i) what steps known old new (c.in_ok-advance.ensures.cut c.in-CutOff.is)
    (severed_shown i fixed.form what steps first c.advance.new.self known old mid next new finishes)))

pub returns-in-CutOff-clause-covered : goal.returns-in-CutOff-clause-covered
returns-in-CutOff-clause-covered g c = λ what known starts read.
    let fixed = c.args.fixed.now in
    let i = fixed.table.now.system.now in
    let first = c.args.self.now.trail.marks in
    let steps = c.args.terms.steps in
    let old = g.W.Write.contents c.args.out.now in
    let mid = g.W.Write.contents c.loop.out in
    let r = unread c.advance.new.ahead (g.R.Read.remaining c.advance.new.input) in
    let next = subst (λ (s : Step). HasAdvanced i.library.blocks first (system_of i) fixed.form what steps c.advance.new.self known r old mid s) c.in-CutOff.is
    (c.in_ok-advance.ensures.goes first what known old mid (c.loop.invariant.0 what known starts read)) in
    let allowed = c.in_ok-advance.ensures.cut c.in-CutOff.is in
    let covered = subst (λ (m : Marks). IfSome known (λ text. IsCutCovered i what text first m)) (sym c.finish_cut.ensures.marks)
    (severed_covered i fixed.form what steps first c.advance.new.self known old mid next) in
    ok_joined c.and-in-CutOff.result c.finish_cut.result _ _ _ c.and-in-CutOff.ensures c.finish_cut.ensures.finishes (λ finishes. on_some known _ _ covered (λ text is. (allowed, is)))

pub returns-clause-fault : goal.returns-clause-fault
returns-clause-fault g c = λ what known starts read.
    let fixed = c.args.fixed.now in
    let covered = c.loop.invariant.0 what known starts read in
    front_gone (system_of fixed.table.now.system.now) fixed.form what c.args.terms.steps c.loop.self covered.gone.takings known (unread c.loop.ahead (g.R.Read.remaining c.loop.input))
    (g.W.Write.contents c.args.out.now) (g.W.Write.contents c.loop.out) covered.gone.gone

pub returns-in_err-advance-clause-refused : goal.returns-in_err-advance-clause-refused
returns-in_err-advance-clause-refused g c = λ what rest text few names starts known begins.
    let fixed = c.args.fixed.now in
    let sys = system_of fixed.table.now.system.now in
    let before = c.loop.invariant.1 what rest text few names starts known begins in
    let q = err_from_is_err_and c.from_residual.result c.from_residual.ensures.1 in
    rw (q.1, q.2)
    (refused_then c.in_err-advance.field-0.0 (λ n. IsWrongLine sys c.args.terms.steps n c.advance.new.self.trail.reading.line.items text) (λ n. IsWrongFor sys c.args.terms.steps n c.advance.new.self.trail.reading.line.items text) (c.in_err-advance.ensures.stands before.0 text few names before.1 before.2) (λ n wrong. inl wrong))

pub returns-in_err-flush_front-in-Taken-clause-refused :
    goal.returns-in_err-flush_front-in-Taken-clause-refused
returns-in_err-flush_front-in-Taken-clause-refused g c = λ what rest text few names starts known begins.
    none_passed _ _ _ c.from_residual-in_err-flush_front-in-Taken.ensures.1 c.in_err-flush_front-in-Taken.ensures.none

pub returns-in-Ended-clause-refused : goal.returns-in-Ended-clause-refused
returns-in-Ended-clause-refused g c = λ what rest text few names starts known begins.
    let fixed = c.args.fixed.now in
    let i = fixed.table.now.system.now in
    let sys = system_of i in
    let first = c.args.self.now.trail.marks in
    let steps = c.args.terms.steps in
    let old = g.W.Write.contents c.args.out.now in
    let mid = g.W.Write.contents c.loop.out in
    let r = unread c.advance.new.ahead (g.R.Read.remaining c.advance.new.input) in
    let read = subst (λ (o : Option (List ℕ)). Consumes (Some text) o c.args.self.now.trail.reading.line.items) (sym known) begins.is in
    let next = subst (λ (s : Step). HasAdvanced i.library.blocks first sys fixed.form what steps c.advance.new.self (Some text) r old mid s) c.in-Ended.is
    (c.in_ok-advance.ensures.goes first what (Some text) old mid (c.loop.invariant.0 what (Some text) starts read)) in
    err_joined c.and.result c.finish.result _ _ c.and.ensures
    (err_refused c.finish.result (λ n. IsRefusalAfter c.advance.new.self.trail.reading.number n × IfSome r (λ rest. 0 < length rest)) (λ n. IsWrongFor sys steps n c.finish.new.self.trail.reading.line.items text) c.finish.ensures.refused
    (λ n over. inr (after_last i.library.blocks first sys fixed.form what steps c.advance.new.self c.in-Ended.field-0 text r old mid n.number next over.0.0 over.1, over.0.1)))

pub returns-in-CutOff-clause-refused : goal.returns-in-CutOff-clause-refused
returns-in-CutOff-clause-refused g c = λ what rest text few names starts known begins.
    err_joined c.and-in-CutOff.result c.finish_cut.result _ _ c.and-in-CutOff.ensures (err_none c.finish_cut.result _ c.finish_cut.ensures.none)

pub returns-in_err-advance-clause-whole : goal.returns-in_err-advance-clause-whole
returns-in_err-advance-clause-whole g c = λ _ _ _ _. ok_passed c.from_residual.result _ _ c.from_residual.ensures.1

pub returns-in_err-advance-clause-covered : goal.returns-in_err-advance-clause-covered
returns-in_err-advance-clause-covered g c = λ _ _ _ _. ok_passed c.from_residual.result _ _ c.from_residual.ensures.1

pub returns-in_err-flush_front-in-Taken-clause-whole : goal.returns-in_err-flush_front-in-Taken-clause-whole
returns-in_err-flush_front-in-Taken-clause-whole g c = λ _ _ _ _. ok_passed c.from_residual-in_err-flush_front-in-Taken.result _ _ c.from_residual-in_err-flush_front-in-Taken.ensures.1

pub returns-in_err-flush_front-in-Taken-clause-covered : goal.returns-in_err-flush_front-in-Taken-clause-covered
returns-in_err-flush_front-in-Taken-clause-covered g c = λ _ _ _ _. ok_passed c.from_residual-in_err-flush_front-in-Taken.result _ _ c.from_residual-in_err-flush_front-in-Taken.ensures.1

-- ---- Where a trace may be cut off

pub returns-in_err-advance-clause-uncut : goal.returns-in_err-advance-clause-uncut
returns-in_err-advance-clause-uncut g c = λ what rest text few names starts known begins allowed ended.
    let sys = system_of c.args.fixed.now.table.now.system.now in
    let before = c.loop.invariant.2 what rest text few names starts known begins allowed ended in
    let q = err_from_is_err_and c.from_residual.result c.from_residual.ensures.1 in
    rw (q.1, q.2)
    (refused_then c.in_err-advance.field-0.0 (λ n. IsWhole n.number text) (λ n. IsUncut sys n.number text) (c.in_err-advance.ensures.uncut before.0 text few names before.1 before.2 allowed) (λ n whole. inl whole))

pub returns-in_err-flush_front-in-Taken-clause-uncut : goal.returns-in_err-flush_front-in-Taken-clause-uncut
returns-in_err-flush_front-in-Taken-clause-uncut g c = λ what rest text few names starts known begins allowed ended.
    none_passed _ _ _ c.from_residual-in_err-flush_front-in-Taken.ensures.1 c.in_err-flush_front-in-Taken.ensures.none

pub returns-in-Ended-clause-uncut : goal.returns-in-Ended-clause-uncut
returns-in-Ended-clause-uncut g c = λ what rest text few names starts known begins allowed ended.
    let fixed = c.args.fixed.now in
    let i = fixed.table.now.system.now in
    let sys = system_of i in
    let first = c.args.self.now.trail.marks in
    let steps = c.args.terms.steps in
    let old = g.W.Write.contents c.args.out.now in
    let mid = g.W.Write.contents c.loop.out in
    let r = unread c.advance.new.ahead (g.R.Read.remaining c.advance.new.input) in
    let read = subst (λ (o : Option (List ℕ)). Consumes (Some text) o c.args.self.now.trail.reading.line.items) (sym known) begins.is in
    let next = subst (λ (s : Step). HasAdvanced i.library.blocks first sys fixed.form what steps c.advance.new.self (Some text) r old mid s) c.in-Ended.is
    (c.in_ok-advance.ensures.goes first what (Some text) old mid (c.loop.invariant.0 what (Some text) starts read)) in
    err_joined c.and.result c.finish.result _ _ c.and.ensures
    (err_refused c.finish.result (λ n. IsRefusalAfter c.advance.new.self.trail.reading.number n × IfSome r (λ rest. 0 < length rest)) (λ n. IsUncut sys n.number text) c.finish.ensures.refused
    (λ n over. uncut_after sys steps n.number text (after_last i.library.blocks first sys fixed.form what steps c.advance.new.self c.in-Ended.field-0 text r old mid n.number next over.0.0 over.1)))

pub returns-in-CutOff-clause-uncut : goal.returns-in-CutOff-clause-uncut
returns-in-CutOff-clause-uncut g c = λ what rest text few names starts known begins allowed ended.
    err_joined c.and-in-CutOff.result c.finish_cut.result _ _ c.and-in-CutOff.ensures (err_none c.finish_cut.result _ c.finish_cut.ensures.none)

-- ---- What was written before a line is refused

pub flush_front-requires : goal.flush_front-requires
flush_front-requires g c =
    let fixed = c.args.fixed.now in
    let types = fixed.table.now.system.now.library.blocks in
    let sys = system_of fixed.table.now.system.now in
    let known = some_text (g.R.Read.remaining c.args.input.now) c.args.self.now.trail.reading.line.items in
    let covered = c.loop.invariant.0 c.requires.starts.0 known.0 c.requires.starts.1 known.1 in
    let look = last_look (opening_look sys) covered.gone.takings in
    let r = unread c.loop.ahead (g.R.Read.remaining c.loop.input) in
    let after = unread c.advance.new.ahead (g.R.Read.remaining c.advance.new.input) in
    let step = subst (StepGoes types sys fixed.form c.args.terms.steps look c.loop.self c.advance.new.self c.advance.new.ahead r after) c.in-Taken.is (c.in_ok-advance.ensures.takes look covered.gone.look) in
    subst (λ (n : ℕ). n ≤ length c.advance.new.self.trail.page.text.items) (sym (c.len-before.ensures ∙ c.loop.self.trail.page.text.ok.0))
    (takes_longer types sys fixed.form most look step.line None c.loop.self c.advance.new.self r after step.goes.goes)

pub returns-in_err-advance-clause-before : goal.returns-in_err-advance-clause-before
returns-in_err-advance-clause-before g c = λ what rest text few names starts known begins.
    let sys = system_of c.args.fixed.now.table.now.system.now in
    let before = c.loop.invariant.1 what rest text few names starts known begins in
    let held = c.loop.invariant.3 what rest text few names starts known begins in
    let old = g.W.Write.contents c.args.out.now in
    let mid = g.W.Write.contents c.loop.out in
    let from = c.loop.self.trail.reading.number in
    let q = err_from_is_err_and c.from_residual.result c.from_residual.ensures.1 in
    rw (q.1, q.2)
    (refused_then c.in_err-advance.field-0.0 (λ n. from ≤ n.number) (λ n. ShowsBefore sys what n.number text old mid) (c.in_err-advance.ensures.later before.0 text names before.1 before.2)
    (λ n less. before_later sys what from n.number text old mid less held))

pub returns-in_err-flush_front-in-Taken-clause-before : goal.returns-in_err-flush_front-in-Taken-clause-before
returns-in_err-flush_front-in-Taken-clause-before g c = λ what rest text few names starts known begins.
    none_passed _ _ _ c.from_residual-in_err-flush_front-in-Taken.ensures.1 c.in_err-flush_front-in-Taken.ensures.none

pub returns-in-Ended-clause-before : goal.returns-in-Ended-clause-before
returns-in-Ended-clause-before g c = λ what rest text few names starts known begins.
    let fixed = c.args.fixed.now in
    let types = fixed.table.now.system.now.library.blocks in
    let sys = system_of fixed.table.now.system.now in
    let steps = c.args.terms.steps in
    let old = g.W.Write.contents c.args.out.now in
    let mid = g.W.Write.contents c.loop.out in
    let new = g.W.Write.contents c.finish.new.out in
    let from = c.loop.self.trail.reading.number in
    let r = unread c.loop.ahead (g.R.Read.remaining c.loop.input) in
    let after = unread c.advance.new.ahead (g.R.Read.remaining c.advance.new.input) in
    let read = subst (λ (o : Option (List ℕ)). Consumes (Some text) o c.args.self.now.trail.reading.line.items) (sym known) begins.is in
    let covered = c.loop.invariant.0 what (Some text) starts read in
    let held = c.loop.invariant.3 what rest text few names starts known begins in
    let look = last_look (opening_look sys) covered.gone.takings in
    let step = subst (StepGoes types sys fixed.form steps look c.loop.self c.advance.new.self c.advance.new.ahead r after) c.in-Ended.is (c.in_ok-advance.ensures.takes look covered.gone.look) in
    let less = end_later types sys fixed.form steps look c.loop.self c.advance.new.self c.advance.new.ahead r after c.in-Ended.field-0 step in
    err_joined c.and.result c.finish.result _ _ c.and.ensures
    (both_refused c.finish.result (λ n. IsRefusalAfter c.advance.new.self.trail.reading.number n × IfSome after (λ rest. 0 < length rest)) (λ n. new ≡ mid) (λ n. ShowsBefore sys what n.number text old new) c.finish.ensures.refused
    c.finish.ensures.kept
    (λ n over same.
    subst (λ (o : Option (List ℕ)). ShowsBefore sys what n.number text old o) (sym same) (before_later sys what from n.number text old mid (after_that from c.advance.new.self.trail.reading.number n.number less over.0.0) held)))

pub returns-in-CutOff-clause-before : goal.returns-in-CutOff-clause-before
returns-in-CutOff-clause-before g c = λ what rest text few names starts known begins.
    err_joined c.and-in-CutOff.result c.finish_cut.result _ _ c.and-in-CutOff.ensures (err_none c.finish_cut.result _ c.finish_cut.ensures.none)
