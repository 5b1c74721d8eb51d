use Rattle.fb_inspect.proofs.lemmas.Common.{List, ℕ, Option, subst, sym, ◌≡◌, ◌<◌, inl, length, Some, Ok, Consumes, system_of, IfSome, err_from_is_err_and, last_look, opening_look, unread, last_tick, lines_of, takings_of, HasWaved, IsWrongFor, IsWrongLine, GoesAfter, Step, inr, Appends-nil, ◌≤◌, ◌∙◌}
use Rattle.fb_inspect.proofs.lemmas.reactions.Placed.{err_any, err_then}
use Rattle.fb_inspect.proofs.lemmas.walk.Stepped.{none_ahead}
use Rattle.fb_wave.proofs.lemmas.Handing.{on_ok}
use Rattle.fb_inspect.specs.dump.Waving.{HasGoneOn}
use Rattle.fb_inspect.proofs.lemmas.dump.Ending.{cut_done, cut_part, front_flush, front_waved, shown_cut, shown_whole, some_text, whole_done, whole_part, after_last}
use Rattle.fb_inspect.proofs.lemmas.dump.Waved.{flushed_on, waved_none}
use Rattle.fb_inspect.proofs.lemmas.results.Refused.{err_none, err_refused, refused_then, both_refused, none_passed}
use Rattle.fb_inspect.proofs.lemmas.results.Joined.{ok_passed}
use Rattle.fb_inspect.specs.Refusals.{IsRefusalAfter}
use Rattle.fb_inspect.specs.walk.Standing.{GoesWhole}
use Rattle.fb_inspect.proofs.lemmas.walk.UpToRead.{uncut_after}
use Rattle.fb_wave.specs.CutOff.{IsUncut, IsWhole}
use Rattle.fb_inspect.proofs.lemmas.walk.Held.{after_that, longer}
use Rattle.fb_inspect.proofs.lemmas.dump.HeldDump.{written_later, written_on}
use Rattle.fb_inspect.specs.StateWaves.{WritesBefore}
use Rattle.fb_inspect.specs.walk.Walking.{HasFlushed}
use Rattle.fb_inspect.proofs.dump.state_wave.StateWave.go.Goals as goal

pub loop-init : goal.loop-init
loop-init g c = (
  λ known read.
      let fixed = c.args.fixed.now in
      let sys = system_of fixed.table.now.system.now in
      let o = g.R.Read.remaining c.args.input.now in
      let out = g.W.Write.contents c.args.out.now in
      subst (λ (p : Option (List ℕ)). HasWaved sys fixed.form c.args.terms.steps c.args.self.now known p out out) (sym (none_ahead c.args.ahead.now.text.items o c.requires.empty))
      (waved_none sys fixed.form c.args.terms.steps c.args.self.now known o out c.requires.starts read),
  λ rest text few names known well. (rest, known, well),
  λ rest text few names known whole allowed. (rest, known, whole),
  λ rest text few names known well begins. inl (Appends-nil (g.W.Write.contents c.args.out.now)),
)

pub advance-requires-clause-look : goal.advance-requires-clause-look
advance-requires-clause-look g c =
    let known = some_text (g.R.Read.remaining c.args.input.now) c.args.self.now.walk.trail.reading.line.items in
    let have = c.loop.invariant.0 known.0 known.1 in
    (last_look (opening_look (system_of c.args.fixed.now.table.now.system.now)) (takings_of have.takings), have.look)

pub advance-requires-clause-next : goal.advance-requires-clause-next
advance-requires-clause-next g c =
    let known = some_text (g.R.Read.remaining c.args.input.now) c.args.self.now.walk.trail.reading.line.items in
    let have = c.loop.invariant.0 known.0 known.1 in
    (last_tick 0 (lines_of have.takings), have.next)

pub advance-requires-clause-kept : goal.advance-requires-clause-kept
advance-requires-clause-kept g c =
    let known = some_text (g.R.Read.remaining c.args.input.now) c.args.self.now.walk.trail.reading.line.items in
    let have = c.loop.invariant.0 known.0 known.1 in
    have.kept

pub advance-requires-clause-dump : goal.advance-requires-clause-dump
advance-requires-clause-dump g c =
    let known = some_text (g.R.Read.remaining c.args.input.now) c.args.self.now.walk.trail.reading.line.items in
    let have = c.loop.invariant.0 known.0 known.1 in
    have.waved.numbers

pub returns-in_err-advance-clause-fault : goal.returns-in_err-advance-clause-fault
returns-in_err-advance-clause-fault g c = λ known read.
    let fixed = c.args.fixed.now in
    let have = c.loop.invariant.0 known read in
    err_any c.from_residual.result _
    (front_waved (system_of fixed.table.now.system.now) fixed.form c.args.terms.steps c.loop.self known (unread c.loop.ahead (g.R.Read.remaining c.loop.input)) (g.W.Write.contents c.args.out.now)
    (g.W.Write.contents c.loop.out) have)

pub returns-in_err-flush_front-in-Taken-clause-fault : goal.returns-in_err-flush_front-in-Taken-clause-fault
returns-in_err-flush_front-in-Taken-clause-fault g c = λ known read.
    let fixed = c.args.fixed.now in
    let sys = system_of fixed.table.now.system.now in
    let steps = c.args.terms.steps in
    let old = g.W.Write.contents c.args.out.now in
    let mid = g.W.Write.contents c.loop.out in
    let have = c.loop.invariant.0 known read in
    let r = unread c.advance.new.ahead (g.R.Read.remaining c.advance.new.input) in
    let next = subst (HasGoneOn sys fixed.form steps c.advance.new.self known r old mid) c.in-Taken.is (c.in_ok-advance.ensures.goes known old mid have) in
    err_any c.from_residual-in_err-flush_front-in-Taken.result _
    (front_flush sys fixed.form steps c.advance.new.self known r old mid (g.W.Write.contents c.flush_front.new.out) next c.in_err-flush_front-in-Taken.ensures.part)

pub loop-preserved : goal.loop-preserved
loop-preserved g c = (
  λ known read.
      let fixed = c.args.fixed.now in
      let sys = system_of fixed.table.now.system.now in
      let steps = c.args.terms.steps in
      let old = g.W.Write.contents c.args.out.now in
      let mid = g.W.Write.contents c.loop.out in
      let r = unread c.advance.new.ahead (g.R.Read.remaining c.advance.new.input) in
      let next = subst (HasGoneOn sys fixed.form steps c.advance.new.self known r old mid) c.in-Taken.is (c.in_ok-advance.ensures.goes known old mid (c.loop.invariant.0 known read)) in
      flushed_on sys fixed.form steps c.advance.new.self c.flush_front.new.page known r old mid (g.W.Write.contents c.flush_front.new.out) next c.len-before.result c.in_ok-flush_front-in-Taken.ensures.flushed,
  λ rest text few names known well.
      let fixed = c.args.fixed.now in
      let sys = system_of fixed.table.now.system.now in
      let before = c.loop.invariant.1 rest text few names known well in
      subst (λ (s : Step). GoesAfter sys fixed.form c.args.terms.steps c.advance.new.self.walk c.advance.new.ahead (g.R.Read.remaining c.advance.new.input) text (Ok s)) c.in-Taken.is
      (c.in_ok-advance.ensures.stands before.0 text few names before.1 before.2),
  λ rest text few names known whole allowed.
      let fixed = c.args.fixed.now in
      let sys = system_of fixed.table.now.system.now in
      let before = c.loop.invariant.2 rest text few names known whole allowed in
      subst (λ (s : Step). GoesWhole sys fixed.form c.args.terms.steps c.advance.new.self.walk c.advance.new.ahead (g.R.Read.remaining c.advance.new.input) text (Ok s)) c.in-Taken.is
      (c.in_ok-advance.ensures.uncut before.0 text few names before.1 before.2 allowed),
  λ rest text few names known well begins.
      let fixed = c.args.fixed.now in
      let sys = system_of fixed.table.now.system.now in
      let steps = c.args.terms.steps in
      let old = g.W.Write.contents c.args.out.now in
      let mid = g.W.Write.contents c.loop.out in
      let new = g.W.Write.contents c.flush_front.new.out in
      let r = unread c.loop.ahead (g.R.Read.remaining c.loop.input) in
      let read = subst (λ (o : Option (List ℕ)). Consumes (Some text) o c.args.self.now.walk.trail.reading.line.items) (sym known) begins in
      let have = c.loop.invariant.0 (Some text) read in
      written_on sys fixed.form steps c.loop.self c.advance.new.self text c.flush_front.new.page.text.items r old mid new have (c.in_ok-advance.ensures.grows (Some text) old mid have c.in-Taken.is)
      (subst (λ (n : ℕ). HasFlushed n mid new c.advance.new.self.page.text.items c.flush_front.new.page.text.items) (c.len-before.ensures ∙ c.loop.self.page.text.ok.0) c.in_ok-flush_front-in-Taken.ensures.flushed)
      (c.loop.invariant.3 rest text few names known well begins),
)

pub returns-in-Ended-clause-whole : goal.returns-in-Ended-clause-whole
returns-in-Ended-clause-whole g c = λ known read.
    let fixed = c.args.fixed.now in
    let sys = system_of fixed.table.now.system.now in
    let steps = c.args.terms.steps in
    let old = g.W.Write.contents c.args.out.now in
    let mid = g.W.Write.contents c.loop.out in
    let r = unread c.advance.new.ahead (g.R.Read.remaining c.advance.new.input) in
    let next = subst (HasGoneOn sys fixed.form steps c.advance.new.self known r old mid) c.in-Ended.is (c.in_ok-advance.ensures.goes known old mid (c.loop.invariant.0 known read)) in
    let new = g.W.Write.contents c.finish.new.out in
    on_ok c.finish.result _ _ c.finish.ensures.finishes
    (λ finished. shown_whole c.args.terms.cut sys steps known old new (whole_done sys fixed.form steps c.advance.new.self c.in-Ended.end known r old mid next new finished))

pub returns-in-Ended-clause-fault : goal.returns-in-Ended-clause-fault
returns-in-Ended-clause-fault g c = λ known read.
    let fixed = c.args.fixed.now in
    let sys = system_of fixed.table.now.system.now in
    let steps = c.args.terms.steps in
    let old = g.W.Write.contents c.args.out.now in
    let mid = g.W.Write.contents c.loop.out in
    let have = c.loop.invariant.0 known read in
    let r = unread c.advance.new.ahead (g.R.Read.remaining c.advance.new.input) in
    let next = subst (HasGoneOn sys fixed.form steps c.advance.new.self known r old mid) c.in-Ended.is (c.in_ok-advance.ensures.goes known old mid have) in
    err_then c.finish.result _ _ c.finish.ensures.fault
    (λ part. whole_part sys fixed.form steps c.advance.new.self c.in-Ended.end known r old mid next (g.W.Write.contents c.finish.new.out) part)

pub returns-in-CutOff-clause-whole : goal.returns-in-CutOff-clause-whole
returns-in-CutOff-clause-whole g c = λ known read.
    let fixed = c.args.fixed.now in
    let sys = system_of fixed.table.now.system.now in
    let steps = c.args.terms.steps in
    let old = g.W.Write.contents c.args.out.now in
    let mid = g.W.Write.contents c.loop.out in
    let r = unread c.advance.new.ahead (g.R.Read.remaining c.advance.new.input) in
    let next = subst (HasGoneOn sys fixed.form steps c.advance.new.self known r old mid) c.in-CutOff.is (c.in_ok-advance.ensures.goes known old mid (c.loop.invariant.0 known read)) in
    let new = g.W.Write.contents c.finish_cut.new.out in
    on_ok c.finish_cut.result _ _ (c.finish_cut.ensures.finishes sys)
    (λ finished. shown_cut c.args.terms.cut sys steps known old new (c.in_ok-advance.ensures.cut c.in-CutOff.is) (cut_done sys fixed.form steps c.advance.new.self known old mid next new finished))

pub returns-in-CutOff-clause-fault : goal.returns-in-CutOff-clause-fault
returns-in-CutOff-clause-fault g c = λ known read.
    let fixed = c.args.fixed.now in
    let sys = system_of fixed.table.now.system.now in
    let steps = c.args.terms.steps in
    let old = g.W.Write.contents c.args.out.now in
    let mid = g.W.Write.contents c.loop.out in
    let have = c.loop.invariant.0 known read in
    let r = unread c.advance.new.ahead (g.R.Read.remaining c.advance.new.input) in
    let next = subst (HasGoneOn sys fixed.form steps c.advance.new.self known r old mid) c.in-CutOff.is (c.in_ok-advance.ensures.goes known old mid have) in
    err_then c.finish_cut.result _ _ (c.finish_cut.ensures.fault sys) (λ part. cut_part sys fixed.form steps c.advance.new.self known old mid next (g.W.Write.contents c.finish_cut.new.out) part)

pub returns-clause-fault : goal.returns-clause-fault
returns-clause-fault g c = λ known read.
    let fixed = c.args.fixed.now in
    let have = c.loop.invariant.0 known read in
    front_waved (system_of fixed.table.now.system.now) fixed.form c.args.terms.steps c.loop.self known (unread c.loop.ahead (g.R.Read.remaining c.loop.input)) (g.W.Write.contents c.args.out.now)
    (g.W.Write.contents c.loop.out) have

pub returns-in_err-advance-clause-refused : goal.returns-in_err-advance-clause-refused
returns-in_err-advance-clause-refused g c = λ rest text few names known well begins.
    let fixed = c.args.fixed.now in
    let sys = system_of fixed.table.now.system.now in
    let before = c.loop.invariant.1 rest text few names known well in
    let q = err_from_is_err_and c.from_residual.result c.from_residual.ensures.1 in
    rw (q.1, q.2)
    (refused_then c.in_err-advance.field-0.0 (λ n. IsWrongLine sys c.args.terms.steps n c.advance.new.self.walk.trail.reading.line.items text)
    (λ n. IsWrongFor sys c.args.terms.steps n c.advance.new.self.walk.trail.reading.line.items text) (c.in_err-advance.ensures.stands before.0 text few names before.1 before.2) (λ n wrong. inl wrong))

pub returns-in_err-flush_front-in-Taken-clause-refused :
    goal.returns-in_err-flush_front-in-Taken-clause-refused
returns-in_err-flush_front-in-Taken-clause-refused g c = λ rest text few names known well begins.
    none_passed _ _ _ c.from_residual-in_err-flush_front-in-Taken.ensures.1 c.in_err-flush_front-in-Taken.ensures.none

pub returns-in-Ended-clause-refused : goal.returns-in-Ended-clause-refused
returns-in-Ended-clause-refused g c = λ rest text few names known well begins.
    let fixed = c.args.fixed.now in
    let sys = system_of fixed.table.now.system.now in
    let steps = c.args.terms.steps in
    let old = g.W.Write.contents c.args.out.now in
    let mid = g.W.Write.contents c.loop.out in
    let r = unread c.advance.new.ahead (g.R.Read.remaining c.advance.new.input) in
    let read = subst (λ (o : Option (List ℕ)). Consumes (Some text) o c.args.self.now.walk.trail.reading.line.items) (sym known) begins in
    let next = subst (HasGoneOn sys fixed.form steps c.advance.new.self (Some text) r old mid) c.in-Ended.is (c.in_ok-advance.ensures.goes (Some text) old mid (c.loop.invariant.0 (Some text) read)) in
    err_refused c.finish.result (λ n. IsRefusalAfter c.advance.new.self.walk.trail.reading.number n × IfSome r (λ left. 0 < length left)) (λ n. IsWrongFor sys steps n c.finish.new.self.walk.trail.reading.line.items text) c.finish.ensures.refused
    (λ n over. inr (after_last sys fixed.form steps c.advance.new.self c.in-Ended.end text r old mid n.number next over.0.0 over.1, over.0.1))

pub returns-in-CutOff-clause-refused : goal.returns-in-CutOff-clause-refused
returns-in-CutOff-clause-refused g c = λ rest text few names known well begins.
    err_none c.finish_cut.result _ c.finish_cut.ensures.none

pub returns-in_err-advance-clause-whole : goal.returns-in_err-advance-clause-whole
returns-in_err-advance-clause-whole g c = λ _ _. ok_passed c.from_residual.result _ _ c.from_residual.ensures.1

pub returns-in_err-flush_front-in-Taken-clause-whole : goal.returns-in_err-flush_front-in-Taken-clause-whole
returns-in_err-flush_front-in-Taken-clause-whole g c = λ _ _. ok_passed c.from_residual-in_err-flush_front-in-Taken.result _ _ c.from_residual-in_err-flush_front-in-Taken.ensures.1

-- ---- Where a trace may be cut off

pub returns-in_err-advance-clause-uncut : goal.returns-in_err-advance-clause-uncut
returns-in_err-advance-clause-uncut g c = λ rest text few names known whole begins allowed.
    let sys = system_of c.args.fixed.now.table.now.system.now in
    let before = c.loop.invariant.2 rest text few names known whole allowed in
    let q = err_from_is_err_and c.from_residual.result c.from_residual.ensures.1 in
    rw (q.1, q.2)
    (refused_then c.in_err-advance.field-0.0 (λ n. IsWhole n.number text) (λ n. IsUncut sys n.number text) (c.in_err-advance.ensures.uncut before.0 text few names before.1 before.2 allowed) (λ n within. inl within))

pub returns-in_err-flush_front-in-Taken-clause-uncut : goal.returns-in_err-flush_front-in-Taken-clause-uncut
returns-in_err-flush_front-in-Taken-clause-uncut g c = λ rest text few names known whole begins allowed.
    none_passed _ _ _ c.from_residual-in_err-flush_front-in-Taken.ensures.1 c.in_err-flush_front-in-Taken.ensures.none

pub returns-in-Ended-clause-uncut : goal.returns-in-Ended-clause-uncut
returns-in-Ended-clause-uncut g c = λ rest text few names known whole begins allowed.
    let fixed = c.args.fixed.now in
    let sys = system_of fixed.table.now.system.now in
    let steps = c.args.terms.steps in
    let old = g.W.Write.contents c.args.out.now in
    let mid = g.W.Write.contents c.loop.out in
    let r = unread c.advance.new.ahead (g.R.Read.remaining c.advance.new.input) in
    let read = subst (λ (o : Option (List ℕ)). Consumes (Some text) o c.args.self.now.walk.trail.reading.line.items) (sym known) begins in
    let next = subst (HasGoneOn sys fixed.form steps c.advance.new.self (Some text) r old mid) c.in-Ended.is (c.in_ok-advance.ensures.goes (Some text) old mid (c.loop.invariant.0 (Some text) read)) in
    err_refused c.finish.result (λ n. IsRefusalAfter c.advance.new.self.walk.trail.reading.number n × IfSome r (λ left. 0 < length left)) (λ n. IsUncut sys n.number text) c.finish.ensures.refused
    (λ n over. uncut_after sys steps n.number text (after_last sys fixed.form steps c.advance.new.self c.in-Ended.end text r old mid n.number next over.0.0 over.1))

pub returns-in-CutOff-clause-uncut : goal.returns-in-CutOff-clause-uncut
returns-in-CutOff-clause-uncut g c = λ rest text few names known whole begins allowed.
    err_none c.finish_cut.result _ c.finish_cut.ensures.none

-- ---- What was written before a line is refused

pub flush_front-requires : goal.flush_front-requires
flush_front-requires g c =
    let known = some_text (g.R.Read.remaining c.args.input.now) c.args.self.now.walk.trail.reading.line.items in
    let have = c.loop.invariant.0 known.0 known.1 in
    let grown = c.in_ok-advance.ensures.grows known.0 (g.W.Write.contents c.args.out.now) (g.W.Write.contents c.loop.out) have c.in-Taken.is in
    subst (λ (n : ℕ). n ≤ length c.advance.new.self.page.text.items) (sym (c.len-before.ensures ∙ c.loop.self.page.text.ok.0)) (longer c.loop.self.page.text.items c.advance.new.self.page.text.items grown.text)

pub returns-in_err-advance-clause-before : goal.returns-in_err-advance-clause-before
returns-in_err-advance-clause-before g c = λ rest text few names known well begins.
    let sys = system_of c.args.fixed.now.table.now.system.now in
    let before = c.loop.invariant.1 rest text few names known well in
    let held = c.loop.invariant.3 rest text few names known well begins in
    let old = g.W.Write.contents c.args.out.now in
    let mid = g.W.Write.contents c.loop.out in
    let from = c.loop.self.walk.trail.reading.number in
    let q = err_from_is_err_and c.from_residual.result c.from_residual.ensures.1 in
    rw (q.1, q.2)
    (refused_then c.in_err-advance.field-0.0 (λ n. from ≤ n.number) (λ n. WritesBefore sys n.number text old mid) (c.in_err-advance.ensures.later before.0 text names before.1 before.2)
    (λ n less. written_later sys from n.number text old mid less held))

pub returns-in_err-flush_front-in-Taken-clause-before : goal.returns-in_err-flush_front-in-Taken-clause-before
returns-in_err-flush_front-in-Taken-clause-before g c = λ rest text few names known well begins.
    none_passed _ _ _ c.from_residual-in_err-flush_front-in-Taken.ensures.1 c.in_err-flush_front-in-Taken.ensures.none

pub returns-in-Ended-clause-before : goal.returns-in-Ended-clause-before
returns-in-Ended-clause-before g c = λ rest text few names known well begins.
    let fixed = c.args.fixed.now in
    let sys = system_of fixed.table.now.system.now in
    let steps = c.args.terms.steps in
    let old = g.W.Write.contents c.args.out.now in
    let mid = g.W.Write.contents c.loop.out in
    let new = g.W.Write.contents c.finish.new.out in
    let from = c.loop.self.walk.trail.reading.number in
    let after = unread c.advance.new.ahead (g.R.Read.remaining c.advance.new.input) in
    let read = subst (λ (o : Option (List ℕ)). Consumes (Some text) o c.args.self.now.walk.trail.reading.line.items) (sym known) begins in
    let have = c.loop.invariant.0 (Some text) read in
    let held = c.loop.invariant.3 rest text few names known well begins in
    let less = c.in_ok-advance.ensures.ends (Some text) old mid have c.in-Ended.end c.in-Ended.is in
    both_refused c.finish.result (λ n. IsRefusalAfter c.advance.new.self.walk.trail.reading.number n × IfSome after (λ left. 0 < length left)) (λ n. new ≡ mid) (λ n. WritesBefore sys n.number text old new) c.finish.ensures.refused
    c.finish.ensures.kept
    (λ n over same.
    subst (λ (o : Option (List ℕ)). WritesBefore sys n.number text old o) (sym same) (written_later sys from n.number text old mid (after_that from c.advance.new.self.walk.trail.reading.number n.number less over.0.0) held))

pub returns-in-CutOff-clause-before : goal.returns-in-CutOff-clause-before
returns-in-CutOff-clause-before g c = λ rest text few names known well begins. err_none c.finish_cut.result _ c.finish_cut.ensures.none
