-- A trace, line by line.
use Rattle.std.proofs.Common.{◌≡◌, ℕ, ◌+◌, ◌≤◌, List, [], ◌∷◌, ◌++◌, Some, None, length, refl, sym, ap, subst, ◌∙◌, arith, append_assoc, append-nil, inl, inr}
use Rattle.std.specs.Prelude.{◌⊎◌, IfSome, Option}
use Rattle.std.proofs.lemmas.Option.{none-some, same_Some}
use Rattle.std.specs.Io.BufRead.{take_through}
use Rattle.std.specs.Io.KnownBytes.{Consumes, IsAtEnd}
use Rattle.std.proofs.KnownBytes.{Consumes-trans, Consumes-whole}
use Rattle.std.proofs.lemmas.List.{length_push}
use Rattle.fb_types.specs.declared.run.Form.{Form}
use Rattle.fb_types.specs.declared.run.Form.TheVariants.{One, Two}
use Rattle.fb_expect.specs.Events.{Event, IsLine}
use Rattle.fb_expect.specs.Judging.{AllFollow, AllMove, AreJudged, HasEnd, HasNoEvent, IsEndRefusal, IsFollowed, IsFormOf, IsRead, IsRefusal, IsRefused, Judges, rules_of}
use Rattle.fb_expect.specs.Lines.{IsOneLine}
use Rattle.fb_expect.specs.Traces.{AreBelow, AreLines, EndsAfter, HasNoEnd, IsEndOf, IsLast, IsTrace, last_tick, tick_of}
use Rattle.fb_expect.specs.Words.{Text}
use Rattle.fb_expect.specs.declared.ending.End.{End}
use Rattle.fb_expect.specs.declared.ending.End.TheVariants.{Horizon, Stop, Cut}
use Rattle.fb_expect.specs.declared.fault.TraceError.{TraceError}
use Rattle.fb_expect.specs.declared.fault.TraceError.TheVariants as trace
use Rattle.fb_expect.specs.declared.judging.Cut.{Cut as MayCut}
use Rattle.fb_expect.specs.declared.judging.Cut.TheVariants.{Refused, Allowed}
use Rattle.fb_expect.specs.declared.judging.Judged.{Judged}
use Rattle.fb_expect.specs.declared.judging.Watcher.{Watcher}
use Rattle.fb_expect.specs.declared.rule.Rule.{Rule}
use Rattle.fb_expect.proofs.lemmas.texts.Completing.{end-no-event, ended-by-feed}
use Rattle.fb_expect.proofs.lemmas.rules.Following.{all-below, below-later, last-one, rise-one}

pub whole-line :
    (old new : Option Text) (line : Text) → Consumes old new line → IfSome old (λ xs. line ≡ take_through 10 xs) → (text rest : Text) → old ≡ Some text → new ≡ Some rest
    → line ≡ take_through 10 (line ++ rest)
whole-line None new line read is text rest is-old is-new = absurd (none-some text is-old)
whole-line (Some xs) None line read is text rest is-old is-new = absurd read
whole-line (Some xs) (Some ys) line read is text rest is-old is-new =
    is ∙ ap (take_through 10) (read ∙ ap (λ (z : Text). line ++ z) (same_Some ys rest is-new))

whole-next :
    (input left new : Option Text) (front next : Text) → Consumes input left front → Consumes left new next → IfSome left (λ xs. next ≡ take_through 10 xs)
    → (text rest : Text) → input ≡ Some text → new ≡ Some rest → next ≡ take_through 10 (next ++ rest)
whole-next None left new front next before read is text rest is-input is-new = absurd (none-some text is-input)
whole-next (Some x) None new front next before read is text rest is-input is-new = absurd before
whole-next (Some x) (Some y) new front next before read is text rest is-input is-new = whole-line (Some y) new next read is y rest refl is-new

lines-one : (form : Form) (text : Text) (es : List Event) (line : Text) (e : Event) → AreLines form text es → IsLine form line e → AreLines form (text ++ line) (es ++ e ∷ [])
lines-one form text [] line e are is = (line, [], is, refl, ap (λ (t : Text). t ++ line) are ∙ sym (append-nil line))
lines-one form text (x ∷ es) line e (l, rest, one, more, parts) is =
    (l, rest ++ line, one, lines-one form rest es line e more is, ap (λ (t : Text). t ++ line) parts ∙ append_assoc l rest line)

pub read-one :
    (form : Form) (input left new : Option Text) (line next : Text) (tick number : ℕ) (e : Event) (ws vs : List Watcher) → IsRead form input left line tick number ws
    → IsLine form line e → tick ≤ e.tick → AllMove number e ws vs → Consumes left new next → IsOneLine next → IfSome left (λ xs. next ≡ take_through 10 xs)
    → IsRead form input new next e.tick (number + 1) vs
read-one form input left new line next tick number e ws vs r is up moves read one through =
    let counted = r.counted in
    let last = r.last in
    let low : last_tick 0 r.events ≤ e.tick = omega (arith, last, up) in
    record {
      events = r.events ++ e ∷ [];
      lines = r.lines ++ line;
      counted = (let long = length_push r.events e in omega (arith, long, counted));
      follow = moves r.events counted (below-later r.events (last_tick 0 r.events) e.tick low (all-below 0 r.events r.rise)) r.follow;
      are_lines = lines-one form r.lines r.events line e r.are_lines is;
      rise = rise-one 0 r.events e r.rise low;
      last = sym (last-one 0 r.events e);
      read = Consumes-trans input left new (r.lines ++ line) next r.read read;
      one = one;
      whole = whole-next input left new (r.lines ++ line) next r.read read through;
      first = λ none. (let long = ap length none in let push = length_push r.events e in absurd (omega (arith, long, push)));
    }

ends-above : (t : ℕ) (end : End) → EndsAfter t end → t ≤ tick_of end
ends-above t (Horizon h) after = omega arith
ends-above t (Stop k) after = after
ends-above t (Cut k) after = omega arith

pub followed :
    (form : Form) (cut : MayCut) (input left : Option Text) (line : Text) (tick number : ℕ) (end : End) (ws : List Watcher) → IsRead form input left line tick number ws
    → IsLast cut line end → EndsAfter tick end → IsAtEnd left → IsFollowed cut input ws number end
followed form cut input left line tick number end ws r is after over =
    let last = r.last in
    let ends : EndsAfter (last_tick 0 r.events) end = subst (λ (t : ℕ). EndsAfter t end) last after in
    record {
      events = r.events;
      counted = r.counted;
      follow = r.follow;
      below = below-later r.events (last_tick 0 r.events) (tick_of end) (ends-above (last_tick 0 r.events) end ends) (all-below 0 r.events r.rise);
      trace =
          Consumes-whole input left (r.lines ++ line) (λ text. IsTrace cut text r.events end) r.read over
          (record { form = form; lines = r.lines; last = line; are_lines = r.are_lines; rise = r.rise; is_last = is; ends = ends; parts = refl });
    }

pub judges_all :
    (cut : MayCut) (input : Option Text) (ws : List Watcher) (rules : List Rule) (number : ℕ) (end : End) (js : List Judged) → IsFollowed cut input ws number end → rules_of ws ≡ rules
    → ((es : List Event) → number ≡ length es + 1 → AreBelow es (tick_of end) → AllFollow es ws → AreJudged es end (rules_of ws) js) → IfSome input (λ text. Judges cut text rules js)
judges_all cut None ws rules number end js f same judged = tt
judges_all cut (Some text) ws rules number end js f same judged =
    record { events = f.events; end = end; trace = f.trace; judged = subst (λ (rs : List Rule). AreJudged f.events end rs js) same (judged f.events f.counted f.below f.follow) }

-- ---- A text that is no trace

-- where a trace may not be cut off, the end that was read is the only one
pub only-refused :
    (line : Text) (tick : ℕ) (r : Option End) → ((end : End) → IsEndOf line end → r ≡ Some end) → (end : End) → IsLast Refused line end → EndsAfter tick end → r ≡ Some end
only-refused line tick r only (Horizon h) is after = only (Horizon h) is
only-refused line tick r only (Stop t) is after = only (Stop t) is
only-refused line tick r only (Cut t) is after = absurd is

-- so it is where one may be, at a line with its line feed
pub only-allowed :
    (line : Text) (tick : ℕ) (r : Option End) → ((end : End) → IsEndOf line end → r ≡ Some end) → (HasNoEnd line → ⊥) → (end : End) → IsLast Allowed line end → EndsAfter tick end
    → r ≡ Some end
only-allowed line tick r only feed (Horizon h) is after = only (Horizon h) is
only-allowed line tick r only feed (Stop t) is after = only (Stop t) is
only-allowed line tick r only feed (Cut t) is after = absurd (feed is)

-- and at one without it
pub only-cut : (line : Text) (tick : ℕ) → HasNoEnd line → (end : End) → IsLast Allowed line end → EndsAfter tick end → ◌≡◌ {A = Option End} (Some (Cut tick)) (Some end)
only-cut line tick none (Horizon h) is after = absurd (ended-by-feed line (Horizon h) is none)
only-cut line tick none (Stop t) is after = absurd (ended-by-feed line (Stop t) is none)
only-cut line tick none (Cut t) is after = ap (λ (k : ℕ). Some (Cut k)) (sym after)

no-event :
    (form : Form) (es : List Event) (line : Text) (tick : ℕ) → tick ≡ last_tick 0 es → (es ≡ [] → IsFormOf form line)
    → ((e : Event) → IsLine form line e → tick ≤ e.tick → ⊥) → HasNoEvent form es line
no-event One [] line tick last first none One e may is up = none e is (omega (arith, last, up))
no-event One [] line tick last first none Two e may is up = first refl e is
no-event Two [] line tick last first none f e may is up = let x = first refl in none x.0 x.1 (omega (arith, last))
no-event form (x ∷ es) line tick last first none f e may is up =
    none e (subst (λ (g : Form). IsLine g line e) may is) (omega (arith, last, up))

-- what is wrong with a line, when these were read and this is left
abbrev IsWrong : (form : Form) → MayCut → List Event → (line : Text) → (n : ℕ) → (rest : Text) → Type 0
IsWrong form cut es line n rest =
    ((n ≡ length es + 1) × HasNoEvent form es line × (HasEnd cut es line → ⊥)) ⊎ ((n ≡ length es + 2) × HasEnd cut es line × (rest ≡ [] → ⊥))

-- the line that was read is wrong
wrong-line :
    (form : Form) (cut : MayCut) (input left : Option Text) (line : Text) (tick number n : ℕ) (ws : List Watcher) → (r : IsRead form input left line tick number ws)
    → ((rest : Text) → left ≡ Some rest → IsWrong form cut r.events line n rest) → IfSome input (λ text. IsRefused cut text n)
wrong-line form cut input left line tick number n ws r wrong = by input left r.read r.whole wrong
  where
    by :
        (input left : Option Text) → Consumes input left (r.lines ++ line)
        → ((text rest : Text) → input ≡ Some text → left ≡ Some rest → line ≡ take_through 10 (line ++ rest))
        → ((rest : Text) → left ≡ Some rest → IsWrong form cut r.events line n rest) → IfSome input (λ text. IsRefused cut text n)
    by None left read whole so = tt
    by (Some text) None read whole so = absurd read
    by (Some text) (Some rest) read whole so =
        record {
          form = form;
          events = r.events;
          lines = r.lines;
          line = line;
          rest = rest;
          are_lines = r.are_lines;
          rise = r.rise;
          parts = read;
          whole = whole text rest refl refl;
          wrong = so rest refl;
        }

pub refused-line :
    (form : Form) (cut : MayCut) (input left : Option Text) (line : Text) (tick number : ℕ) (ws : List Watcher) → IsRead form input left line tick number ws
    → ((e : Event) → IsLine form line e → tick ≤ e.tick → ⊥) → (r : Option End) → r ≡ None → ((end : End) → IsLast cut line end → EndsAfter tick end → r ≡ Some end)
    → IfSome input (λ text. IsRefused cut text number)
refused-line form cut input left line tick number ws r none o is-none only =
    wrong-line form cut input left line tick number number ws r
    (λ rest is. inl (
      r.counted,
      no-event form r.events line tick r.last r.first none,
      λ has. none-some has.0 (sym is-none ∙ only has.0 has.1 (subst (λ (t : ℕ). EndsAfter t has.0) (sym r.last) has.2)),
    ))

pub refused-end :
    (form : Form) (cut : MayCut) (input left : Option Text) (line : Text) (tick number : ℕ) (ws : List Watcher) (end : End) (e : TraceError)
    → IsRead form input left line tick number ws → IsLast cut line end
    → ((last : End) → IsLast cut line last → EndsAfter tick last → ◌≡◌ {A = Option End} (Some end) (Some last)) → IsEndRefusal tick end number left e → IsRefusal cut input e
refused-end form cut input left line tick number ws end trace.Memory r is only why = tt
refused-end form cut input left line tick number ws end trace.Read r is only why = tt
refused-end form cut input left line tick number ws end (trace.Refused n) r is only (inl (same, off)) =
    wrong-line form cut input left line tick number n ws r
    (λ rest left-is. inl (
      same ∙ r.counted,
      (λ f e may line-is up. end-no-event cut line end is f e line-is),
      λ has. (let after = subst (λ (t : ℕ). EndsAfter t has.0) (sym r.last) has.2 in
          off (subst (λ (x : End). EndsAfter tick x) (sym (same_Some end has.0 (only has.0 has.1 after))) after)),
    ))
refused-end form cut input left line tick number ws end (trace.Refused n) r is only (inr (same, after, more)) =
    wrong-line form cut input left line tick number n ws r
    (λ rest left-is. inr (
      (let counted = r.counted in omega (arith, same, counted)),
      (end, is, subst (λ (t : ℕ). EndsAfter t end) r.last after),
      subst (λ (o : Option Text). IfSome o (λ z. z ≡ [] → ⊥)) left-is more,
    ))
