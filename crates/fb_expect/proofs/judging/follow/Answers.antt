use Rattle.fb_expect.proofs.lemmas.Common.{◌≡◌, ◌+◌, List, ◌++◌, length, take, drop, ap, subst, sym, ◌∙◌, event_of, rules_of, Text, Watcher}
use Rattle.std.proofs.Common.{ℕ, ◌≤◌, Option, Some}
use Rattle.std.proofs.lemmas.Result.{err_from_is_err_and}
use Rattle.fb_expect.specs.Events.{Event, IsLine}
use Rattle.fb_expect.specs.Judging.{AllMove, IsRead}
use Rattle.fb_expect.specs.Lines.{IsOneLine}
use Rattle.fb_expect.specs.Traces.{EndsAfter, IsLast}
use Rattle.fb_expect.specs.declared.ending.End.{End}
use Rattle.fb_expect.specs.declared.judging.Cut.{Cut as MayCut}
use Rattle.fb_expect.proofs.lemmas.rules.Following.{as-many, front}
use Rattle.fb_expect.proofs.lemmas.traces.Gathering.{followed, read-one, refused-end, refused-line}
use Rattle.fb_expect.proofs.judging.follow.Goals as goal

pub returns-in-Some-clause-followed : goal.returns-in-Some-clause-followed
returns-in-Some-clause-followed g c =
    let value = c.as_slice-in-loop-number.ensures.value in
    let read = c.loop-number.invariant.read in
    followed c.form_of-form.result c.args.cut (g.R.Read.remaining c.args.input.now) (g.R.Read.remaining c.loop-number.input) c.loop-number.line.items c.loop-number.tick c.loop-number.number
    c.in-Some.end c.loop-number.watchers.items read
    (subst (λ (t : Text). IsLast c.args.cut t c.in-Some.end) value (c.in-Some.ensures.last (subst IsOneLine (sym value) read.one))) c.in_ok-finish.ensures.ends.0 c.in_ok-finish.ensures.ends.1

pub loop-number-preserved : goal.loop-number-preserved
loop-number-preserved g c =
    let form = c.form_of-form.result in
    let input = g.R.Read.remaining c.args.input.now in
    let left = g.R.Read.remaining c.next_line-in-loop-number.new.input in
    let next = c.next_line-in-loop-number.new.line.items in
    let line = c.loop-number.line.items in
    let entry = c.in-Some-next_entry.entry in
    let number = c.loop-number.number in
    let ws = c.loop-number.watchers.items in
    let new = c.take_line.new.watchers in
    let value = c.as_mut_slice.ensures.value in
    let is : take c.loop-number.watchers.len (new ++ drop (length new) ws) ≡ new =
    front new (drop (length new) ws) c.loop-number.watchers.len (as-many new c.as_mut_slice.result.now c.loop-number.watchers.len c.in_ok-take_line.ensures.rules c.as_mut_slice.ensures.len)
    in
    let is_line : IsLine form line (event_of entry) =
    subst (λ (t : Text). IsLine form t (event_of entry)) c.as_slice-in-loop-number-2.ensures.value c.in-Some-next_entry.ensures.some.0
    in
    let moves : AllMove number (event_of entry) ws new = subst (λ (vs : List Watcher). AllMove number (event_of entry) vs new) value c.in_ok-take_line.ensures.moves in
    record {
      read =
          subst (λ (vs : List Watcher). IsRead form input left next entry.tick (number + 1) vs) (sym is)
          (read-one form input (g.R.Read.remaining c.loop-number.input) left line next c.loop-number.tick number (event_of entry) ws new c.loop-number.invariant.read is_line
          c.in-Some-next_entry.ensures.some.1 moves c.in_ok-next_line-2.ensures.read c.in_ok-next_line-2.ensures.one c.in_ok-next_line-2.ensures.line);
      rules = ap rules_of is ∙ c.in_ok-take_line.ensures.rules ∙ ap rules_of value ∙ c.loop-number.invariant.rules;
    }

-- an end that may come in the line is this
abbrev IsOnly : (cut : MayCut) → (tick : ℕ) → End → (line : Text) → Type 0
IsOnly cut tick end line = (last : End) → IsLast cut line last → EndsAfter tick last → ◌≡◌ {A = Option End} (Some end) (Some last)

pub returns-in_err-finish-clause-refused : goal.returns-in_err-finish-clause-refused
returns-in_err-finish-clause-refused g c =
    let value = c.as_slice-in-loop-number.ensures.value in
    let read = c.loop-number.invariant.read in
    let line = c.loop-number.line.items in
    let input = g.R.Read.remaining c.args.input.now in
    let one : IsOneLine c.as_slice-in-loop-number.result.now = subst IsOneLine (sym value) read.one in
    let only : IsOnly c.args.cut c.loop-number.tick c.in-Some.end line =
    subst (IsOnly c.args.cut c.loop-number.tick c.in-Some.end) value (λ last is after. sym c.in-Some.is ∙ c.end_at.ensures.only last one is after)
    in
    let p = err_from_is_err_and c.from_residual-in_err-finish.result c.from_residual-in_err-finish.ensures.1 in
    rw (p.1, p.2)
    (refused-end c.form_of-form.result c.args.cut input (g.R.Read.remaining c.loop-number.input) line c.loop-number.tick c.loop-number.number c.loop-number.watchers.items c.in-Some.end
    c.in_err-finish.field-0.0 read (subst (λ (t : Text). IsLast c.args.cut t c.in-Some.end) value (c.in-Some.ensures.last one)) only c.in_err-finish.ensures.refused)

pub returns-in_default-next_entry-clause-refused : goal.returns-in_default-next_entry-clause-refused
returns-in_default-next_entry-clause-refused g c =
    let value = c.as_slice-in-loop-number.ensures.value in
    let read = c.loop-number.invariant.read in
    let line = c.loop-number.line.items in
    let input = g.R.Read.remaining c.args.input.now in
    let one : IsOneLine c.as_slice-in-loop-number.result.now = subst IsOneLine (sym value) read.one in
    let none : (e : Event) → IsLine c.form_of-form.result line e → c.loop-number.tick ≤ e.tick → ⊥ =
    subst (λ (t : Text). (e : Event) → IsLine c.form_of-form.result t e → c.loop-number.tick ≤ e.tick → ⊥) c.as_slice-in-loop-number-2.ensures.value c.in_default-next_entry.ensures.none
    in
    let only : (last : End) → IsLast c.args.cut line last → EndsAfter c.loop-number.tick last → c.end_at.result ≡ Some last =
    subst (λ (t : Text). (last : End) → IsLast c.args.cut t last → EndsAfter c.loop-number.tick last → c.end_at.result ≡ Some last) value
    (λ last is after. c.end_at.ensures.only last one is after)
    in
    refused-line c.form_of-form.result c.args.cut input (g.R.Read.remaining c.loop-number.input) line c.loop-number.tick c.loop-number.number c.loop-number.watchers.items read none
    c.end_at.result c.in_default.is only
