use Rattle.fb_inspect.proofs.lemmas.Common.{List, [], Ok, ℕ, ◌<◌, Option, refl, subst, sym, Consumes, system_of, err_from_is_err_and, AreCutOff, unread, Walk, last_look, opening_look, Watches}
use Rattle.fb_inspect.proofs.lemmas.results.Joined.{both_put}
use Rattle.fb_inspect.proofs.lemmas.lines.Moving.{shown_both}
use Rattle.fb_inspect.proofs.lemmas.walk.OneStep.{line_reread, ok_both}
use Rattle.fb_inspect.proofs.lemmas.reactions.Placed.{ok_then}
use Rattle.fb_inspect.proofs.lemmas.walk.Stepped.{advanced_on, none_ahead, reread_on, severed_on}
use Rattle.fb_inspect.proofs.lemmas.results.Refused.{none_refused, none_passed}
use Rattle.fb_inspect.proofs.lemmas.walk.StandsAfter.{at_look, goes_left, look_ahead, some_at}
use Rattle.fb_inspect.proofs.lemmas.walk.UpToRead.{step_whole}
use Rattle.fb_inspect.specs.walk.Standing.{ReadsWhole}
use Rattle.fb_inspect.proofs.walk.Walk.advance_by_event.Goals as goal

pub returns-then-is_cut-clause-goes : goal.returns-then-is_cut-clause-goes
returns-then-is_cut-clause-goes g c = λ first what known old new covered later.
    let fixed = c.args.fixed.now in
    let types = fixed.table.now.system.now.library.blocks in
    let sys = system_of fixed.table.now.system.now in
    let o = g.R.Read.remaining c.args.input.now in
    let off = c.in_ok-is_cut.ensures.cut c.if-is_cut.true in
    let on : (bytes : List ℕ) → Consumes known (unread c.args.ahead.now o) bytes → Consumes known o bytes =
    λ bytes read. subst (λ (p : Option (List ℕ)). Consumes known p bytes) (none_ahead c.args.ahead.now.text.items o off.1) read in
    let again = reread_on types first sys fixed.form what c.args.terms.steps c.args.self.now known (unread c.args.ahead.now o) o old new on covered c.args.line.now.key.tick later in
    let w : Walk = c.args.self.now in
    let cut : Walk = record w { trail = record (w.trail) { page = record (w.trail.page) { text = c.put_line-then-is_cut.new.text } } } in
    severed_on types first sys fixed.form what c.args.terms.steps c.args.self.now known o old new again.0 c.args.line.now again.1 c.requires.is cut c.look.new.self.rows.items c.look.new.self.text.items off.2 refl
    (shown_both c.shows_untaken-is_shown.result _ _ _ w.trail.reading.line.items c.look.new.self.text.items w.trail.page.text.items c.put_line-then-is_cut.new.text.items
    c.shows_untaken-is_shown.ensures c.as_slice-whole.ensures.value c.as_slice.ensures.value
    (both_put (Ok tt) c.put_line.result c.put_line-then-is_cut.result _ _ _ _ c.in_ok-and.ensures c.put_line.ensures c.put_line-then-is_cut.ensures))

pub returns-then-is_near-clause-goes : goal.returns-then-is_near-clause-goes
returns-then-is_near-clause-goes g c = λ first what known old new covered later.
    let fixed = c.args.fixed.now in
    let types = fixed.table.now.system.now.library.blocks in
    let sys = system_of fixed.table.now.system.now in
    let o = unread c.args.ahead.now (g.R.Read.remaining c.args.input.now) in
    let n = g.R.Read.remaining c.look.new.input in
    let again = reread_on types first sys fixed.form what c.args.terms.steps c.args.self.now known o (unread c.look.new.self n) old new
    ((c.in_ok-is_cut.ensures.whole c.if-is_cut.false).after known) covered c.args.line.now.key.tick later in
    ok_both c.take_to_last_step.result _ _ _ c.take_to_last_step.ensures.whole (c.take_to_last_step.ensures.takes (last_look (opening_look sys) again.0.gone.takings) n again.0.gone.look)
    (λ step whole goes.
    advanced_on types first sys fixed.form what c.args.terms.steps c.args.self.now known (unread c.look.new.self n) old new again.0 c.args.line.now again.1 c.requires.is c.take_to_last_step.new.self c.take_to_last_step.new.ahead
    (unread c.take_to_last_step.new.ahead n) step whole goes)

pub returns-then-is_near-clause-cut : goal.returns-then-is_near-clause-cut
returns-then-is_near-clause-cut g c = ok_then c.take_to_last_step.result _ _ c.take_to_last_step.ensures.whole (λ step never same. absurd (never same))

pub returns-clause-goes : goal.returns-clause-goes
returns-clause-goes g c = λ first what known old new covered later.
    let fixed = c.args.fixed.now in
    let types = fixed.table.now.system.now.library.blocks in
    let sys = system_of fixed.table.now.system.now in
    let o = unread c.args.ahead.now (g.R.Read.remaining c.args.input.now) in
    let n = g.R.Read.remaining c.look.new.input in
    let again = reread_on types first sys fixed.form what c.args.terms.steps c.args.self.now known o (unread c.look.new.self n) old new
    ((c.in_ok-is_cut.ensures.whole c.if-is_cut.false).after known) covered c.args.line.now.key.tick later in
    ok_both c.take_counting_steps.result _ _ _ c.take_counting_steps.ensures.whole (c.take_counting_steps.ensures.takes (last_look (opening_look sys) again.0.gone.takings) n again.0.gone.look)
    (λ step whole goes.
    advanced_on types first sys fixed.form what c.args.terms.steps c.args.self.now known (unread c.look.new.self n) old new again.0 c.args.line.now again.1 c.requires.is c.take_counting_steps.new.self c.take_counting_steps.new.ahead
    (unread c.take_counting_steps.new.ahead n) step whole goes)

pub returns-then-is_cut-clause-takes : goal.returns-then-is_cut-clause-takes
returns-then-is_cut-clause-takes g c = λ look is.
    let fixed = c.args.fixed.now in
    let o = g.R.Read.remaining c.args.input.now in
    let off = c.in_ok-is_cut.ensures.cut c.if-is_cut.true in
    subst (λ (p : Option (List ℕ)). AreCutOff (system_of fixed.table.now.system.now) fixed.form c.args.line.now c.look.new.self.rows.items c.look.new.self.text.items p)
    (sym (none_ahead c.args.ahead.now.text.items o off.1)) off.2

pub returns-then-is_near-clause-takes : goal.returns-then-is_near-clause-takes
returns-then-is_near-clause-takes g c = λ look is.
    let fixed = c.args.fixed.now in
    let types = fixed.table.now.system.now.library.blocks in
    let sys = system_of fixed.table.now.system.now in
    let n = g.R.Read.remaining c.look.new.input in
    let after = unread c.take_to_last_step.new.ahead n in
    ok_both c.take_to_last_step.result _ _ _ c.take_to_last_step.ensures.whole (c.take_to_last_step.ensures.takes look n is)
    (λ step whole goes.
    line_reread types sys fixed.form c.args.terms.steps look c.args.line.now c.args.self.now c.take_to_last_step.new.self (unread c.args.ahead.now (g.R.Read.remaining c.args.input.now))
    (unread c.look.new.self n) after ((c.in_ok-is_cut.ensures.whole c.if-is_cut.false).before after) c.take_to_last_step.new.ahead step whole goes)

pub returns-clause-takes : goal.returns-clause-takes
returns-clause-takes g c = λ look is.
    let fixed = c.args.fixed.now in
    let types = fixed.table.now.system.now.library.blocks in
    let sys = system_of fixed.table.now.system.now in
    let n = g.R.Read.remaining c.look.new.input in
    let after = unread c.take_counting_steps.new.ahead n in
    ok_both c.take_counting_steps.result _ _ _ c.take_counting_steps.ensures.whole (c.take_counting_steps.ensures.takes look n is)
    (λ step whole goes.
    line_reread types sys fixed.form c.args.terms.steps look c.args.line.now c.args.self.now c.take_counting_steps.new.self (unread c.args.ahead.now (g.R.Read.remaining c.args.input.now))
    (unread c.look.new.self n) after ((c.in_ok-is_cut.ensures.whole c.if-is_cut.false).before after) c.take_counting_steps.new.ahead step whole goes)

pub returns-clause-cut : goal.returns-clause-cut
returns-clause-cut g c = ok_then c.take_counting_steps.result _ _ c.take_counting_steps.ensures.whole (λ step never same. absurd (never same))

pub is_near-requires : goal.is_near-requires
is_near-requires g c = subst (λ (n : ℕ). c.args.line.now.instance < n) (sym c.requires.look.1.are.all) c.requires.is.line.belongs.instance

pub returns-in_err-is_cut-clause-stands : goal.returns-in_err-is_cut-clause-stands
returns-in_err-is_cut-clause-stands g c = λ takings rest text few known at watches.
    let q = err_from_is_err_and c.from_residual.result c.from_residual.ensures.1 in rw (q.1, q.2) (none_refused _ _ c.in_err-is_cut.ensures.fault)

pub returns-then-is_near-clause-stands : goal.returns-then-is_near-clause-stands
returns-then-is_near-clause-stands g c = λ takings rest text few known at watches.
    let fixed = c.args.fixed.now in
    let sys = system_of fixed.table.now.system.now in
    let l = c.args.line.now in
    let a = c.args.ahead.now in
    let b = c.look.new.self in
    let all = look_ahead sys fixed.form l a.text.items a.last.items b.text.items b.last.items rest (g.R.Read.remaining c.args.input.now) (g.R.Read.remaining c.look.new.input) known
    (c.in_ok-is_cut.ensures.ahead at.names c.if-is_cut.false) (at.stands.after l at.is) in
    goes_left sys fixed.form c.args.terms.steps c.take_to_last_step.new.self c.take_to_last_step.new.ahead all.0 text (g.R.Read.remaining c.look.new.input) c.take_to_last_step.result all.1
    (c.take_to_last_step.ensures.stands takings all.0 text all.2.1.0 few (at_look fixed.table.now fixed.form takings c.args.self.now l a.text.items a.last.items rest text at all.2.1.0 b.text.items b.last.items all.0 all.2.0 all.2.1.1)
    all.2.1.1
    (c.is_near.ensures.near (last_look (opening_look sys) takings) at.stands.look.are c.if-is_near.true))

pub returns-clause-stands : goal.returns-clause-stands
returns-clause-stands g c = λ takings rest text few known at watches.
    let fixed = c.args.fixed.now in
    let sys = system_of fixed.table.now.system.now in
    let l = c.args.line.now in
    let a = c.args.ahead.now in
    let b = c.look.new.self in
    let all = look_ahead sys fixed.form l a.text.items a.last.items b.text.items b.last.items rest (g.R.Read.remaining c.args.input.now) (g.R.Read.remaining c.look.new.input) known
    (c.in_ok-is_cut.ensures.ahead at.names c.if-is_cut.false) (at.stands.after l at.is) in
    goes_left sys fixed.form c.args.terms.steps c.take_counting_steps.new.self c.take_counting_steps.new.ahead all.0 text (g.R.Read.remaining c.look.new.input) c.take_counting_steps.result all.1
    (c.take_counting_steps.ensures.stands takings all.0 text all.2.1.0 (at_look fixed.table.now fixed.form takings c.args.self.now l a.text.items a.last.items rest text at all.2.1.0 b.text.items b.last.items all.0 all.2.0 all.2.1.1)
    (subst (Watches sys c.args.terms.steps takings) (sym c.in_ok-is_cut.ensures.excess) watches) all.2.1.1
    (c.is_near.ensures.other (last_look (opening_look sys) takings) at.stands.look at.names at.apart at.is.line c.if-is_near.false))

-- ---- Where a trace may be cut off

pub returns-in_err-is_cut-clause-uncut : goal.returns-in_err-is_cut-clause-uncut
returns-in_err-is_cut-clause-uncut g c = λ rest text few known whole allowed.
    let q = err_from_is_err_and c.from_residual.result c.from_residual.ensures.1 in rw (q.1, q.2) (none_refused _ _ c.in_err-is_cut.ensures.fault)

pub returns-then-is_near-clause-uncut : goal.returns-then-is_near-clause-uncut
returns-then-is_near-clause-uncut g c = λ rest text few known whole allowed.
    let fixed = c.args.fixed.now in
    let sys = system_of fixed.table.now.system.now in
    let steps = c.args.terms.steps in
    let l = c.args.line.now in
    let a = c.args.ahead.now in
    let b = c.look.new.self in
    let left = g.R.Read.remaining c.look.new.input in
    let read = some_at (g.R.Read.remaining c.args.input.now) rest (λ before. ReadsWhole sys fixed.form l a b before left) known
    (c.in_ok-is_cut.ensures.uncut (whole.stands []).1.names allowed c.if-is_cut.false) in
    step_whole fixed.table.now fixed.form steps c.args.self.now a b l rest text left whole read c.take_to_last_step.new.self c.take_to_last_step.new.ahead left c.take_to_last_step.result read.left.1
    (λ takings left all rows before at watches ahead.
    c.take_to_last_step.ensures.stands takings left all rows few at ahead
    (c.is_near.ensures.near (last_look (opening_look sys) takings) at.stands.look.are c.if-is_near.true))

pub returns-clause-uncut : goal.returns-clause-uncut
returns-clause-uncut g c = λ rest text few known whole allowed.
    let fixed = c.args.fixed.now in
    let sys = system_of fixed.table.now.system.now in
    let steps = c.args.terms.steps in
    let l = c.args.line.now in
    let a = c.args.ahead.now in
    let b = c.look.new.self in
    let left = g.R.Read.remaining c.look.new.input in
    let read = some_at (g.R.Read.remaining c.args.input.now) rest (λ before. ReadsWhole sys fixed.form l a b before left) known
    (c.in_ok-is_cut.ensures.uncut (whole.stands []).1.names allowed c.if-is_cut.false) in
    step_whole fixed.table.now fixed.form steps c.args.self.now a b l rest text left whole read c.take_counting_steps.new.self c.take_counting_steps.new.ahead left c.take_counting_steps.result read.left.1
    (λ takings left all rows before at watches ahead.
    c.take_counting_steps.ensures.stands takings left all rows at
    (subst (Watches sys steps takings) (sym c.in_ok-is_cut.ensures.excess) watches) ahead
    (c.is_near.ensures.other (last_look (opening_look sys) takings) at.stands.look at.names at.apart at.is.line c.if-is_near.false))

-- no resource used too many steps before
pub take_to_last_step-requires-clause-kept : goal.take_to_last_step-requires-clause-kept
take_to_last_step-requires-clause-kept g c = λ look is. c.is_near.ensures.kept look is c.if-is_near.true

-- ---- The number of a line that is refused

pub returns-in_err-is_cut-clause-later : goal.returns-in_err-is_cut-clause-later
returns-in_err-is_cut-clause-later g c = λ takings rest text known at. none_passed _ _ _ c.from_residual.ensures.1 c.in_err-is_cut.ensures.fault

pub returns-then-is_near-clause-later : goal.returns-then-is_near-clause-later
returns-then-is_near-clause-later g c = λ takings rest text known at.
    let fixed = c.args.fixed.now in
    let sys = system_of fixed.table.now.system.now in
    let l = c.args.line.now in
    let a = c.args.ahead.now in
    let b = c.look.new.self in
    let all = look_ahead sys fixed.form l a.text.items a.last.items b.text.items b.last.items rest (g.R.Read.remaining c.args.input.now) (g.R.Read.remaining c.look.new.input) known
    (c.in_ok-is_cut.ensures.ahead at.names c.if-is_cut.false) (at.stands.after l at.is) in
    c.take_to_last_step.ensures.later takings all.0 text
    (at_look fixed.table.now fixed.form takings c.args.self.now l a.text.items a.last.items rest text at all.2.1.0 b.text.items b.last.items all.0 all.2.0 all.2.1.1)

pub returns-clause-later : goal.returns-clause-later
returns-clause-later g c = λ takings rest text known at.
    let fixed = c.args.fixed.now in
    let sys = system_of fixed.table.now.system.now in
    let l = c.args.line.now in
    let a = c.args.ahead.now in
    let b = c.look.new.self in
    let all = look_ahead sys fixed.form l a.text.items a.last.items b.text.items b.last.items rest (g.R.Read.remaining c.args.input.now) (g.R.Read.remaining c.look.new.input) known
    (c.in_ok-is_cut.ensures.ahead at.names c.if-is_cut.false) (at.stands.after l at.is) in
    c.take_counting_steps.ensures.later takings all.0 text
    (at_look fixed.table.now fixed.form takings c.args.self.now l a.text.items a.last.items rest text at all.2.1.0 b.text.items b.last.items all.0 all.2.0 all.2.1.1)
