use Rattle.fb_inspect.proofs.lemmas.Common.{◌≡◌, List, ℕ, Option, true, false, sym, ◌∙◌, subst, system_of, is_unended, BeginsText, IfErr, IsWrongFor, Refuses}
use Rattle.fb_wave.proofs.lemmas.Handing.{on_ok}
use Rattle.fb_wave.proofs.lemmas.Severed.{cut_there, uncut_line}
use Rattle.fb_inspect.proofs.lemmas.dump.Ending.{cut_done, cut_none, cut_part, front_none, shown_cut}
use Rattle.fb_inspect.proofs.lemmas.walk.UpToRefusal.{well_opens}
use Rattle.fb_inspect.proofs.lemmas.walk.UpToRead.{whole_opens}
use Rattle.fb_inspect.proofs.lemmas.reactions.Placed.{err_any, err_then}
use Rattle.fb_inspect.proofs.lemmas.results.Refused.{err_none}
use Rattle.fb_wave.specs.declared.current_line.CurrentLine.{CurrentLine}
use Rattle.fb_inspect.proofs.dump.states.go_through.Goals as goal

pub returns-then-is_cut-clause-whole : goal.returns-then-is_cut-clause-whole
returns-then-is_cut-clause-whole g c = λ known read one.
    let fixed = c.args.fixed.now in
    let sys = system_of fixed.table.now.system.now in
    let steps = c.args.terms.steps in
    let old = g.W.Write.contents c.args.out.now in
    let new = g.W.Write.contents c.finish_cut.new.out in
    let wave = c.args.wave.now in
    let reading = wave.walk.trail.reading in
    let short = subst (λ (l : List ℕ). is_unended l ≡ true) c.as_slice.ensures.value (cut_there c.args.terms.cut c.as_slice.result.now (sym c.is_cut.ensures ∙ c.if-is_cut.true)).1 in
    let off = cut_none sys fixed.form steps wave reading reading.line.items known (g.R.Read.remaining c.args.input.now) old c.requires.begins read one short in
    on_ok c.finish_cut.result _ _ (c.finish_cut.ensures.finishes sys)
    (λ finished. shown_cut c.args.terms.cut sys steps known old new (cut_there c.args.terms.cut c.as_slice.result.now (sym c.is_cut.ensures ∙ c.if-is_cut.true)).0 (cut_done sys fixed.form steps wave known old old off new finished))

pub returns-then-is_cut-clause-fault : goal.returns-then-is_cut-clause-fault
returns-then-is_cut-clause-fault g c = λ known read one.
    let fixed = c.args.fixed.now in
    let sys = system_of fixed.table.now.system.now in
    let steps = c.args.terms.steps in
    let old = g.W.Write.contents c.args.out.now in
    let wave = c.args.wave.now in
    let reading = wave.walk.trail.reading in
    let short = subst (λ (l : List ℕ). is_unended l ≡ true) c.as_slice.ensures.value (cut_there c.args.terms.cut c.as_slice.result.now (sym c.is_cut.ensures ∙ c.if-is_cut.true)).1 in
    let off = cut_none sys fixed.form steps wave reading reading.line.items known (g.R.Read.remaining c.args.input.now) old c.requires.begins read one short in
    err_then c.finish_cut.result _ _ (c.finish_cut.ensures.fault sys) (λ part. cut_part sys fixed.form steps wave known old old off (g.W.Write.contents c.finish_cut.new.out) part)

pub returns-then-is_cut-clause-refused : goal.returns-then-is_cut-clause-refused
returns-then-is_cut-clause-refused g c = λ rest text few names known told. err_none c.finish_cut.result _ c.finish_cut.ensures.none

pub returns-in_err-ahead-clause-fault : goal.returns-in_err-ahead-clause-fault
returns-in_err-ahead-clause-fault g c = λ known read one.
    err_any c.from_residual.result _ (front_none (system_of c.args.fixed.now.table.now.system.now) c.args.terms.steps known (g.W.Write.contents c.args.out.now))

pub go-gone-requires-clause-starts : goal.go-gone-requires-clause-starts
go-gone-requires-clause-starts g c =
    let begins = c.requires.begins in
    record { look = begins.look; kept = begins.kept; numbers = begins.numbers; shown = begins.shown; next = c.requires.next; first = c.requires.first }

pub returns-clause-whole : goal.returns-clause-whole
returns-clause-whole g c = λ known read one. c.go-gone.ensures.whole known read

pub returns-clause-fault : goal.returns-clause-fault
returns-clause-fault g c = λ known read one. c.go-gone.ensures.fault known read

pub returns-clause-refused : goal.returns-clause-refused
returns-clause-refused g c = λ rest text few names known told.
    let fixed = c.args.fixed.now in
    let sys = system_of fixed.table.now.system.now in
    let walk = c.args.wave.now.walk in
    let own = subst (λ (e : Option ℕ). BeginsText sys fixed.form walk.trail.reading.line.items e rest text) (sym c.in_ok-ahead.ensures.excess) told in
    subst (λ (l : CurrentLine). IfErr c.go-gone.result (Refuses (λ n. IsWrongFor sys c.args.terms.steps n l.text.items text))) (sym c.lend.ensures.line)
    (c.go-gone.ensures.refused rest text few names known
    (well_opens sys fixed.form c.args.terms.steps walk c.in_ok-ahead.ahead rest text c.requires.begins.look c.requires.first c.requires.next c.in_ok-ahead.ensures.empty own) told.is)

-- ---- Where a trace may be cut off

pub returns-then-is_cut-clause-uncut : goal.returns-then-is_cut-clause-uncut
returns-then-is_cut-clause-uncut g c = λ rest text few names known told allowed. err_none c.finish_cut.result _ c.finish_cut.ensures.none

pub returns-clause-uncut : goal.returns-clause-uncut
returns-clause-uncut g c = λ rest text few names known told allowed.
    let fixed = c.args.fixed.now in
    let sys = system_of fixed.table.now.system.now in
    let walk = c.args.wave.now.walk in
    let line = walk.trail.reading.line.items in
    let own = subst (λ (e : Option ℕ). BeginsText sys fixed.form line e rest text) (sym c.in_ok-ahead.ensures.excess) told in
    c.go-gone.ensures.uncut rest text few names known
    (whole_opens sys fixed.form c.args.terms.steps walk c.in_ok-ahead.ahead rest text c.requires.begins.look c.requires.first c.requires.next c.in_ok-ahead.ensures.empty own
    (subst (λ (l : List ℕ). is_unended l ≡ false) c.as_slice.ensures.value (uncut_line c.args.terms.cut c.as_slice.result.now (sym c.is_cut.ensures ∙ c.if-is_cut.false) allowed)))
    told.is allowed

-- ---- What was written before a line is refused

pub returns-then-is_cut-clause-before : goal.returns-then-is_cut-clause-before
returns-then-is_cut-clause-before g c = λ rest text few names known told. err_none c.finish_cut.result _ c.finish_cut.ensures.none

pub returns-clause-before : goal.returns-clause-before
returns-clause-before g c = λ rest text few names known told.
    let fixed = c.args.fixed.now in
    let sys = system_of fixed.table.now.system.now in
    let walk = c.args.wave.now.walk in
    let own = subst (λ (e : Option ℕ). BeginsText sys fixed.form walk.trail.reading.line.items e rest text) (sym c.in_ok-ahead.ensures.excess) told in
    c.go-gone.ensures.before rest text few names known
    (well_opens sys fixed.form c.args.terms.steps walk c.in_ok-ahead.ahead rest text c.requires.begins.look c.requires.first c.requires.next c.in_ok-ahead.ensures.empty own) told.is
