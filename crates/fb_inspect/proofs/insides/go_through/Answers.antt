use Rattle.fb_inspect.proofs.lemmas.Common.{◌≡◌, List, ℕ, Option, true, false, refl, sym, ◌∙◌, subst, IfSome, system_of, Marks, is_unended, BeginsText, IfErr, IsWrongFor, Refuses}
use Rattle.fb_inspect.specs.Covering.{IsCoveredBy, IsCutCovered}
use Rattle.fb_inspect.proofs.lemmas.walk.Ended.{front_none, severed_covered, severed_none, severed_part, severed_shown, shown_cut}
use Rattle.fb_wave.proofs.lemmas.Handing.{on_ok}
use Rattle.fb_wave.proofs.lemmas.Severed.{cut_there, uncut_line}
use Rattle.fb_inspect.proofs.lemmas.results.Joined.{err_joined, fails_joined, ok_joined, ok_passed, on_joined}
use Rattle.fb_inspect.proofs.lemmas.reactions.Placed.{err_any, err_then, ok_then}
use Rattle.fb_inspect.proofs.lemmas.results.Refused.{err_none, none_passed}
use Rattle.fb_inspect.proofs.lemmas.lines.Severing.{on_some}
use Rattle.fb_wave.specs.declared.current_line.CurrentLine.{CurrentLine}
use Rattle.fb_inspect.proofs.insides.go_through.Goals as goal

pub returns-then-is_cut-clause-whole : goal.returns-then-is_cut-clause-whole
returns-then-is_cut-clause-whole g c = λ what known starts read one.
    let fixed = c.args.fixed.now in
    let i = fixed.table.now.system.now in
    let steps = c.args.terms.steps in
    let old = g.W.Write.contents c.args.out.now in
    let new = g.W.Write.contents c.finish_cut.new.out in
    let walk = c.args.walk.now in
    let short = subst (λ (l : List ℕ). is_unended l ≡ true) c.as_slice.ensures.value (cut_there c.args.terms.cut c.as_slice.result.now (sym c.is_cut.ensures ∙ c.if-is_cut.true)).1 in
    let severed = severed_none i fixed.form what steps walk.trail.marks walk walk.trail.reading.line.items known (g.R.Read.remaining c.args.input.now) old starts.empty read one short refl in
    on_joined c.and.result c.finish_cut.result _ _ c.and.ensures
    (on_ok c.finish_cut.result _ _ c.finish_cut.ensures.finishes
    (λ finishes.
    shown_cut c.args.terms.cut (system_of i) what steps known old new (cut_there c.args.terms.cut c.as_slice.result.now (sym c.is_cut.ensures ∙ c.if-is_cut.true)).0
    (severed_shown i fixed.form what steps walk.trail.marks walk known old old severed new finishes)))

pub returns-then-is_cut-clause-covered : goal.returns-then-is_cut-clause-covered
returns-then-is_cut-clause-covered g c = λ what known starts read one.
    let fixed = c.args.fixed.now in
    let i = fixed.table.now.system.now in
    let steps = c.args.terms.steps in
    let old = g.W.Write.contents c.args.out.now in
    let walk = c.args.walk.now in
    let allowed = (cut_there c.args.terms.cut c.as_slice.result.now (sym c.is_cut.ensures ∙ c.if-is_cut.true)).0 in
    let short = subst (λ (l : List ℕ). is_unended l ≡ true) c.as_slice.ensures.value (cut_there c.args.terms.cut c.as_slice.result.now (sym c.is_cut.ensures ∙ c.if-is_cut.true)).1 in
    let severed = severed_none i fixed.form what steps walk.trail.marks walk walk.trail.reading.line.items known (g.R.Read.remaining c.args.input.now) old starts.empty read one short refl in
    let covered = subst (λ (m : Marks). IfSome known (λ text. IsCutCovered i what text walk.trail.marks m)) (sym c.finish_cut.ensures.marks)
    (severed_covered i fixed.form what steps walk.trail.marks walk known old old severed) in
    ok_joined c.and.result c.finish_cut.result _ _ _ c.and.ensures c.finish_cut.ensures.finishes (λ finishes. on_some known _ _ covered (λ text is. (allowed, is)))

pub returns-then-is_cut-clause-fault : goal.returns-then-is_cut-clause-fault
returns-then-is_cut-clause-fault g c = λ what known starts read one.
    let fixed = c.args.fixed.now in
    let i = fixed.table.now.system.now in
    let steps = c.args.terms.steps in
    let old = g.W.Write.contents c.args.out.now in
    let walk = c.args.walk.now in
    let short = subst (λ (l : List ℕ). is_unended l ≡ true) c.as_slice.ensures.value (cut_there c.args.terms.cut c.as_slice.result.now (sym c.is_cut.ensures ∙ c.if-is_cut.true)).1 in
    let severed = severed_none i fixed.form what steps walk.trail.marks walk walk.trail.reading.line.items known (g.R.Read.remaining c.args.input.now) old starts.empty read one short refl in
    fails_joined c.and.result c.finish_cut.result _ _ c.and.ensures
    (err_then c.finish_cut.result _ _ c.finish_cut.ensures.fault
    (λ part. severed_part i fixed.form what steps walk.trail.marks walk known old old severed (g.W.Write.contents c.finish_cut.new.out) part))

pub returns-then-is_cut-clause-refused : goal.returns-then-is_cut-clause-refused
returns-then-is_cut-clause-refused g c = λ what rest text few names starts known begins.
    err_joined c.and.result c.finish_cut.result _ _ c.and.ensures (err_none c.finish_cut.result _ c.finish_cut.ensures.none)

pub returns-in_err-ahead-clause-fault : goal.returns-in_err-ahead-clause-fault
returns-in_err-ahead-clause-fault g c = λ what known starts read one.
    err_any c.from_residual.result _ (front_none (system_of c.args.fixed.now.table.now.system.now) what c.args.terms.steps known (g.W.Write.contents c.args.out.now))

pub returns-clause-whole : goal.returns-clause-whole
returns-clause-whole g c = λ what known starts read one. c.go-gone.ensures.whole what known starts read

pub returns-clause-covered : goal.returns-clause-covered
returns-clause-covered g c = λ what known starts read one.
    let i = c.args.fixed.now.table.now.system.now in
    ok_then c.go-gone.result _ _ (c.go-gone.ensures.covered what known starts read)
    (λ extent covered.
    subst (λ (m : Marks). IfSome known (λ text. IsCoveredBy c.args.terms.cut i what c.args.terms.steps text c.args.walk.now.trail.marks m extent)) (sym c.lend.ensures.marks) covered)

pub returns-clause-fault : goal.returns-clause-fault
returns-clause-fault g c = λ what known starts read one. c.go-gone.ensures.fault what known starts read

pub returns-clause-refused : goal.returns-clause-refused
returns-clause-refused g c = λ what rest text few names starts known begins.
    let fixed = c.args.fixed.now in
    let sys = system_of fixed.table.now.system.now in
    subst (λ (l : CurrentLine). IfErr c.go-gone.result (Refuses (λ n. IsWrongFor sys c.args.terms.steps n l.text.items text))) (sym c.lend.ensures.line)
    (c.go-gone.ensures.refused what rest text few names starts known
    (subst (λ (e : Option ℕ). BeginsText sys fixed.form c.args.walk.now.trail.reading.line.items e rest text) (sym c.in_ok-ahead.ensures.excess) begins))

pub returns-in_err-ahead-clause-whole : goal.returns-in_err-ahead-clause-whole
returns-in_err-ahead-clause-whole g c = λ _ _ _ _ _. ok_passed c.from_residual.result _ _ c.from_residual.ensures.1

pub returns-in_err-ahead-clause-covered : goal.returns-in_err-ahead-clause-covered
returns-in_err-ahead-clause-covered g c = λ _ _ _ _ _. ok_passed c.from_residual.result _ _ c.from_residual.ensures.1

pub returns-in_err-ahead-clause-refused : goal.returns-in_err-ahead-clause-refused
returns-in_err-ahead-clause-refused g c = λ _ _ _ _ _ _ _ _. none_passed _ _ _ c.from_residual.ensures.1 tt

-- ---- Where a trace may be cut off

pub returns-then-is_cut-clause-uncut : goal.returns-then-is_cut-clause-uncut
returns-then-is_cut-clause-uncut g c = λ what rest text few names starts known begins allowed.
    err_joined c.and.result c.finish_cut.result _ _ c.and.ensures (err_none c.finish_cut.result _ c.finish_cut.ensures.none)

pub returns-in_err-ahead-clause-uncut : goal.returns-in_err-ahead-clause-uncut
returns-in_err-ahead-clause-uncut g c = λ _ _ _ _ _ _ _ _ _. none_passed _ _ _ c.from_residual.ensures.1 tt

pub returns-clause-uncut : goal.returns-clause-uncut
returns-clause-uncut g c = λ what rest text few names starts known begins allowed.
    let fixed = c.args.fixed.now in
    let sys = system_of fixed.table.now.system.now in
    let line = c.args.walk.now.trail.reading.line.items in
    c.go-gone.ensures.uncut what rest text few names starts known
    (subst (λ (e : Option ℕ). BeginsText sys fixed.form line e rest text) (sym c.in_ok-ahead.ensures.excess) begins) allowed
    (subst (λ (l : List ℕ). is_unended l ≡ false) c.as_slice.ensures.value (uncut_line c.args.terms.cut c.as_slice.result.now (sym c.is_cut.ensures ∙ c.if-is_cut.false) allowed))

-- ---- What was written before a line is refused

pub returns-then-is_cut-clause-before : goal.returns-then-is_cut-clause-before
returns-then-is_cut-clause-before g c = λ what rest text few names starts known begins.
    err_joined c.and.result c.finish_cut.result _ _ c.and.ensures (err_none c.finish_cut.result _ c.finish_cut.ensures.none)

pub returns-in_err-ahead-clause-before : goal.returns-in_err-ahead-clause-before
returns-in_err-ahead-clause-before g c = λ _ _ _ _ _ _ _ _. none_passed _ _ _ c.from_residual.ensures.1 tt

pub returns-clause-before : goal.returns-clause-before
returns-clause-before g c = λ what rest text few names starts known begins.
    let fixed = c.args.fixed.now in
    let sys = system_of fixed.table.now.system.now in
    c.go-gone.ensures.before what rest text few names starts known
    (subst (λ (e : Option ℕ). BeginsText sys fixed.form c.args.walk.now.trail.reading.line.items e rest text) (sym c.in_ok-ahead.ensures.excess) begins)
