use Rattle.fb_inspect.proofs.lemmas.Common.{◌≡◌, ◌++◌, List, ℕ, ap, length, subst, sym, true, false, ◌∙◌, false≢true, system_of, is_unended, unread}
use Rattle.fb_wave.proofs.lemmas.Severed.{cut_there, uncut_line}
use Rattle.fb_types.proofs.Common.{vec_len, eqb-false, eqb-true, nil_from_length}
use Rattle.fb_inspect.proofs.lemmas.lines.AheadOf.{gathered_ahead, look_filled, look_stays}
use Rattle.fb_inspect.proofs.lemmas.lines.Gathered.{rows_cut, rows_read}
use Rattle.fb_inspect.proofs.lemmas.lines.WholeLines.{filled_whole, stays_whole}
use Rattle.fb_inspect.proofs.lemmas.walk.Stepped.{filled_on, same_on}
use Rattle.fb_inspect.proofs.walk.ahead.Ahead.look.Goals as goal

pub returns-then-not-is_empty-clause-whole : goal.returns-then-not-is_empty-clause-whole
returns-then-not-is_empty-clause-whole g c = λ same. same_on (unread c.args.self.now (g.R.Read.remaining c.args.input.now))

pub returns-then-not-is_empty-clause-cut : goal.returns-then-not-is_empty-clause-cut
returns-then-not-is_empty-clause-cut g c = λ same. absurd (false≢true same)

pub returns-then-not-is_empty-clause-ahead : goal.returns-then-not-is_empty-clause-ahead
returns-then-not-is_empty-clause-ahead g c = λ names same.
    let text = c.args.self.now.text in
    look_stays (system_of c.args.fixed.now.table.now.system.now) c.args.fixed.now.form c.args.first.now text.items c.args.self.now.last.items (g.R.Read.remaining c.args.input.now)
    (λ none. eqb-false (vec_len text) 0 (sym c.is_empty.ensures ∙ c.if-not-is_empty.true) (text.ok.0 ∙ ap length none))

pub returns-then-is_cut-clause-whole : goal.returns-then-is_cut-clause-whole
returns-then-is_cut-clause-whole g c = λ same. absurd (false≢true (sym same))

pub returns-then-is_cut-clause-ahead : goal.returns-then-is_cut-clause-ahead
returns-then-is_cut-clause-ahead g c = λ names same. absurd (false≢true (sym same))

pub returns-then-is_cut-clause-cut : goal.returns-then-is_cut-clause-cut
returns-then-is_cut-clause-cut g c = λ same.
    let text = c.args.self.now.text in
    let short = subst (λ (l : List ℕ). is_unended l ≡ true) c.as_slice.ensures.value (cut_there c.args.cut c.as_slice.result.now (sym c.is_cut.ensures ∙ c.if-is_cut.true)).1 in (
      (cut_there c.args.cut c.as_slice.result.now (sym c.is_cut.ensures ∙ c.if-is_cut.true)).0,
      nil_from_length text.items (sym text.ok.0 ∙ eqb-true (vec_len text) 0 (sym c.is_empty.ensures ∙ c.if-not-is_empty.false)),
      rows_cut (system_of c.args.fixed.now.table.now.system.now) c.args.fixed.now.form c.args.first.now c.gather.new.self.rows.items c.gather.new.self.text.items c.gather.new.self.last.items (g.R.Read.remaining c.args.input.now)
          (g.R.Read.remaining c.gather.new.input) c.in_ok-gather.ensures.gathered short,
    )

pub returns-clause-whole : goal.returns-clause-whole
returns-clause-whole g c = λ same.
    let text = c.args.self.now.text in
    let none = nil_from_length text.items (sym text.ok.0 ∙ eqb-true (vec_len text) 0 (sym c.is_empty.ensures ∙ c.if-not-is_empty.false)) in
    let whole = c.in_ok-extend_from_slice.ensures.items ∙ ap (λ (l : List ℕ). c.gather.new.self.text.items ++ l) c.as_slice-2.ensures.value in
    filled_on text.items c.extend_from_slice.new.self.items (g.R.Read.remaining c.args.input.now) (g.R.Read.remaining c.gather.new.input) none
    (rows_read (system_of c.args.fixed.now.table.now.system.now) c.args.fixed.now.form c.args.first.now c.gather.new.self.rows.items c.gather.new.self.text.items c.gather.new.self.last.items c.extend_from_slice.new.self.items
    (g.R.Read.remaining c.args.input.now) (g.R.Read.remaining c.gather.new.input) c.in_ok-gather.ensures.gathered whole)

pub returns-clause-cut : goal.returns-clause-cut
returns-clause-cut g c = λ same. absurd (false≢true same)

pub returns-clause-ahead : goal.returns-clause-ahead
returns-clause-ahead g c = λ names same.
    let sys = system_of c.args.fixed.now.table.now.system.now in
    let text = c.args.self.now.text in
    let new = c.gather.new.self in
    let o = g.R.Read.remaining c.args.input.now in
    let n = g.R.Read.remaining c.gather.new.input in
    let none = nil_from_length text.items (sym text.ok.0 ∙ eqb-true (vec_len text) 0 (sym c.is_empty.ensures ∙ c.if-not-is_empty.false)) in
    let whole = c.in_ok-extend_from_slice.ensures.items ∙ ap (λ (l : List ℕ). new.text.items ++ l) c.as_slice-2.ensures.value in
    look_filled sys c.args.fixed.now.form c.args.first.now text.items c.args.self.now.last.items new.rows.items c.extend_from_slice.new.self.items new.last.items o n none
    (gathered_ahead sys c.args.fixed.now.form c.args.first.now new.rows.items new.text.items new.last.items c.extend_from_slice.new.self.items o n c.in_ok-gather.ensures.gathered
    (c.in_ok-gather.ensures.other names) whole)

-- ---- Where a trace may be cut off

pub returns-then-not-is_empty-clause-uncut : goal.returns-then-not-is_empty-clause-uncut
returns-then-not-is_empty-clause-uncut g c = λ names allowed same.
    let text = c.args.self.now.text in
    stays_whole (system_of c.args.fixed.now.table.now.system.now) c.args.fixed.now.form c.args.first.now c.args.self.now (g.R.Read.remaining c.args.input.now)
    (λ none. eqb-false (vec_len text) 0 (sym c.is_empty.ensures ∙ c.if-not-is_empty.true) (text.ok.0 ∙ ap length none))

pub returns-then-is_cut-clause-uncut : goal.returns-then-is_cut-clause-uncut
returns-then-is_cut-clause-uncut g c = λ names allowed same. absurd (false≢true (sym same))

pub returns-clause-uncut : goal.returns-clause-uncut
returns-clause-uncut g c = λ names allowed same.
    let text = c.args.self.now.text in
    let new = c.gather.new.self in
    let none = nil_from_length text.items (sym text.ok.0 ∙ eqb-true (vec_len text) 0 (sym c.is_empty.ensures ∙ c.if-not-is_empty.false)) in
    let ended = subst (λ (l : List ℕ). is_unended l ≡ false) c.as_slice.ensures.value (uncut_line c.args.cut c.as_slice.result.now (sym c.is_cut.ensures ∙ c.if-is_cut.false) allowed) in
    filled_whole (system_of c.args.fixed.now.table.now.system.now) c.args.fixed.now.form c.args.first.now c.args.self.now (record new { text = c.extend_from_slice.new.self }) new.rows.items new.text.items
    (g.R.Read.remaining c.args.input.now) (g.R.Read.remaining c.gather.new.input) none c.in_ok-gather.ensures.gathered (c.in_ok-gather.ensures.other names)
    (c.in_ok-extend_from_slice.ensures.items ∙ ap (λ (l : List ℕ). new.text.items ++ l) c.as_slice-2.ensures.value) ended
