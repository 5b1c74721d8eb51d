-- No text is a trace and has a line that is refused.
use Rattle.std.proofs.Common.{◌≡◌, ℕ, ◌+◌, ◌≤◌, Bool, true, false, List, [], ◌∷◌, ◌++◌, Some, None, refl, sym, ap, subst, ◌∙◌, arith, append_assoc, append-nil, inl, inr}
use Rattle.std.specs.Prelude.{◌⊎◌, Option, is_some, not, ◌&&◌, ◌==◌, if◌then◌else◌}
use Rattle.std.specs.List.{list_all}
use Rattle.std.specs.Io.BufRead.{take_through}
use Rattle.std.proofs.lemmas.Bool.{ne_eqb, leb-true, eqb-true, true≢false}
use Rattle.std.proofs.lemmas.List.{append_cancel_left}
use Rattle.std.proofs.lemmas.List.Elements.{All-tail}
use Rattle.std.proofs.lemmas.Option.{none-some, same_Some}
use Rattle.fb_types.specs.declared.run.Form.{Form}
use Rattle.fb_types.specs.declared.run.Form.TheVariants.{One, Two}
use Rattle.fb_expect.specs.Events.{Event, IsLine}
use Rattle.fb_expect.specs.Judging.{HasEnd, IsRefused, MayHave}
use Rattle.fb_expect.specs.LineReading.{read_line}
use Rattle.fb_expect.specs.Traces.{AreLines, EndsAfter, HasNoEnd, IsEndOf, IsLast, IsTrace, RiseFrom, last_tick}
use Rattle.fb_expect.specs.Words.{Text}
use Rattle.fb_expect.specs.declared.ending.End.{End}
use Rattle.fb_expect.specs.declared.ending.End.TheVariants.{Horizon, Stop, Cut}
use Rattle.fb_expect.specs.declared.judging.Cut.{Cut as MayCut}
use Rattle.fb_expect.specs.declared.judging.Cut.TheVariants.{Refused, Allowed}
use Rattle.fb_expect.proofs.lemmas.texts.Completing.{end-no-event, line-there, one-form}
use Rattle.fb_expect.proofs.lemmas.texts.FedLines.{IsFed, end-fed, fed-through, line-fed}

-- ---- First lines

through-none : (text : Text) → HasNoEnd text → take_through 10 text ≡ text
through-none [] none = refl
through-none (x ∷ text) none =
    ap (λ (t : Bool). if t then x ∷ [] else x ∷ take_through 10 text) (ne_eqb x 10 (none 0 0 (omega arith)))
    ∙ ap (λ (z : Text). x ∷ z) (through-none text (All-tail (λ (n : ℕ). n ≡ 10 → ⊥) x text none))

through-fed : (text : Text) → IsFed text → take_through 10 text ≡ text
through-fed text fed = ap (take_through 10) (sym (append-nil text)) ∙ fed-through text [] fed

-- the last line of a trace is the first of a text that it is
through-last : (cut : MayCut) (last : Text) (end : End) → IsLast cut last end → take_through 10 last ≡ last
through-last cut last (Horizon h) is = through-fed last (end-fed last (Horizon h) is)
through-last cut last (Stop t) is = through-fed last (end-fed last (Stop t) is)
through-last Refused last (Cut t) is = absurd is
through-last Allowed last (Cut t) is = through-none last is

through-line : (form : Form) (line rest : Text) (e : Event) → IsLine form line e → take_through 10 (line ++ rest) ≡ line
through-line form line rest e is = fed-through line rest (line-fed form line e is)

-- a trace does not end with the line of an event
last-no-line :
    (cut : MayCut) (last : Text) (end : End) (form : Form) (line rest : Text) (e : Event) → IsLast cut last end → IsLine form line e → line ++ rest ≡ last → ⊥
last-no-line cut last end form line rest e is one same =
    let first : line ≡ last = sym (through-line form line rest e one) ∙ ap (take_through 10) same ∙ through-last cut last end is in
    end-no-event cut last end is form e (subst (λ (t : Text). IsLine form t e) first one)

-- two lines at the beginning of one text are the same, of one event, and the rests are
pub record SameFirst (f g : Form) (x e : Event) (a b : Text) : Type 0 where
  pub form : g ≡ f
  pub event : e ≡ x
  pub rest : a ≡ b

same-first :
    (f g : Form) (l m a b : Text) (x e : Event) → IsLine f l x → IsLine g m e → l ++ a ≡ m ++ b → SameFirst f g x e a b
same-first f g l m a b x e one other same =
    let lines : l ≡ m = sym (through-line f l a x one) ∙ ap (take_through 10) same ∙ through-line g m b e other in
    let one-m : IsLine f m x = subst (λ (t : Text). IsLine f t x) lines one in
    let form : g ≡ f = one-form f g m x e one-m other in
    let other-m : IsLine f m e = subst (λ (h : Form). IsLine h m e) form other in
    record {
      form = form;
      event = same_Some e x (sym (line-there f m e other-m) ∙ line-there f m x one-m);
      rest = append_cancel_left m a b (ap (λ (t : Text). t ++ a) (sym lines) ∙ same);
    }

-- ---- The line that is refused

-- an end that may come after a line of a tick
abbrev MayEnd : MayCut → ℕ → Text → Type 0
MayEnd cut t line = (end : End) × IsLast cut line end × EndsAfter t end

-- what is wrong with a line: no such event and no such end, or an end and more after it
abbrev IsBad : MayCut → (t : ℕ) → (line rest : Text) → (NoEvent : Type 0) → Type 0
IsBad cut t line rest NoEvent = (NoEvent × (MayEnd cut t line → ⊥)) ⊎ (MayEnd cut t line × (rest ≡ [] → ⊥))

-- the line comes first
first-excluded :
    (cut : MayCut) (t : ℕ) (g : Form) (xs : List Event) (ms line last rest : Text) (end : End) → AreLines g ms xs → line ++ rest ≡ ms ++ last
    → line ≡ take_through 10 (line ++ rest) → IsLast cut last end → EndsAfter (last_tick t xs) end → RiseFrom t xs
    → IsBad cut t line rest ((e : Event) → IsLine g line e → t ≤ e.tick → ⊥) → ⊥
first-excluded cut t g [] ms line last rest end are same whole is ends rise bad =
    let all : line ++ rest ≡ last = same ∙ ap (λ (z : Text). z ++ last) are in
    let first : line ≡ last = whole ∙ ap (take_through 10) all ∙ through-last cut last end is in
    let may : MayEnd cut t line = (end, subst (λ (z : Text). IsLast cut z end) (sym first) is, ends) in
    elim bad [
      | inl wrong ↦ wrong.1 may
      | inr more ↦ more.1 (append_cancel_left line rest [] (all ∙ sym first ∙ sym (append-nil line)))
    ]
first-excluded cut t g (e ∷ xs) ms line last rest end (m, q, one, more, parts) same whole is ends rise bad =
    let all : line ++ rest ≡ m ++ (q ++ last) = same ∙ ap (λ (z : Text). z ++ last) parts ∙ append_assoc m q last in
    let first : line ≡ m = whole ∙ ap (take_through 10) all ∙ through-line g m (q ++ last) e one in
    let event : IsLine g line e = subst (λ (z : Text). IsLine g z e) (sym first) one in
    elim bad [
      | inl wrong ↦ wrong.0 e event rise.0
      | inr after ↦ end-no-event cut line after.0.0 after.0.1 g e event
    ]

-- the line comes after lines
excluded :
    (cut : MayCut) (t : ℕ) (f : Form) (es xs : List Event) (ls ms line last rest : Text) (end : End) → AreLines f ls es → AreLines f ms xs → (ls ++ line) ++ rest ≡ ms ++ last
    → line ≡ take_through 10 (line ++ rest) → IsLast cut last end → EndsAfter (last_tick t xs) end → RiseFrom t xs
    → IsBad cut (last_tick t es) line rest ((e : Event) → IsLine f line e → last_tick t es ≤ e.tick → ⊥) → ⊥
excluded cut t f [] xs ls ms line last rest end are others same whole is ends rise bad =
    first-excluded cut t f xs ms line last rest end others (ap (λ (z : Text). (z ++ line) ++ rest) (sym are) ∙ same) whole is ends rise bad
excluded cut t f (x ∷ es) [] ls ms line last rest end (l, r, one, more, parts) others same whole is ends rise bad =
    let all : l ++ ((r ++ line) ++ rest) ≡ last =
    sym (append_assoc l (r ++ line) rest) ∙ ap (λ (z : Text). z ++ rest) (sym (append_assoc l r line)) ∙ ap (λ (z : Text). (z ++ line) ++ rest) (sym parts) ∙ same
    ∙ ap (λ (z : Text). z ++ last) others
    in
    last-no-line cut last end f l ((r ++ line) ++ rest) x is one all
excluded cut t f (x ∷ es) (e ∷ xs) ls ms line last rest end (l, r, one, more, parts) (m, q, other, others, parted) same whole is ends rise bad =
    let all : l ++ ((r ++ line) ++ rest) ≡ m ++ (q ++ last) =
    sym (append_assoc l (r ++ line) rest) ∙ ap (λ (z : Text). z ++ rest) (sym (append_assoc l r line)) ∙ ap (λ (z : Text). (z ++ line) ++ rest) (sym parts) ∙ same
    ∙ ap (λ (z : Text). z ++ last) parted ∙ append_assoc m q last
    in
    let first = same-first f f l m ((r ++ line) ++ rest) (q ++ last) x e one other all in
    let ticks : e.tick ≡ x.tick = ap (λ (y : Event). y.tick) first.event in
    excluded cut x.tick f es xs r q line last rest end more others first.rest whole is (subst (λ (k : ℕ). EndsAfter (last_tick k xs) end) ticks ends)
    (subst (λ (k : ℕ). RiseFrom k xs) ticks rise.1) bad

-- two texts of lines that are one begin with one form
one-start :
    (f g : Form) (x e : Event) (es xs : List Event) (ls ms line last rest : Text) → AreLines f ls (x ∷ es) → AreLines g ms (e ∷ xs) → (ls ++ line) ++ rest ≡ ms ++ last → g ≡ f
one-start f g x e es xs ls ms line last rest (l, r, one, more, parts) (m, q, other, others, parted) same =
    (same-first f g l m ((r ++ line) ++ rest) (q ++ last) x e one other
    (sym (append_assoc l (r ++ line) rest) ∙ ap (λ (z : Text). z ++ rest) (sym (append_assoc l r line)) ∙ ap (λ (z : Text). (z ++ line) ++ rest) (sym parts) ∙ same
    ∙ ap (λ (z : Text). z ++ last) parted ∙ append_assoc m q last)).form

-- at a line of the form that the text has there
bad-at :
    (cut : MayCut) (t : ℕ) (line rest : Text) (P Q : Type 0) → (P → Q) → IsBad cut t line rest P → IsBad cut t line rest Q
bad-at cut t line rest P Q more (inl wrong) = inl (more wrong.0, wrong.1)
bad-at cut t line rest P Q more (inr after) = inr after

abbrev NoEventAt : (form : Form) → List Event → (line : Text) → Type 0
NoEventAt form es line = (f : Form) (e : Event) → MayHave form es f → IsLine f line e → last_tick 0 es ≤ e.tick → ⊥

from-start :
    (cut : MayCut) (f g : Form) (es xs : List Event) (ls ms line last rest : Text) (end : End) → AreLines f ls es → AreLines g ms xs → (ls ++ line) ++ rest ≡ ms ++ last
    → line ≡ take_through 10 (line ++ rest) → IsLast cut last end → EndsAfter (last_tick 0 xs) end → RiseFrom 0 xs
    → IsBad cut (last_tick 0 es) line rest (NoEventAt f es line) → ⊥
from-start cut f g [] xs ls ms line last rest end are others same whole is ends rise bad =
    first-excluded cut 0 g xs ms line last rest end others (ap (λ (z : Text). (z ++ line) ++ rest) (sym are) ∙ same) whole is ends rise
    (bad-at cut 0 line rest (NoEventAt f [] line) ((e : Event) → IsLine g line e → 0 ≤ e.tick → ⊥) (λ none e. none g e tt) bad)
from-start cut f g (x ∷ es) [] ls ms line last rest end are others same whole is ends rise bad =
    excluded cut 0 f (x ∷ es) [] ls ms line last rest end are others same whole is ends rise
    (bad-at cut (last_tick 0 (x ∷ es)) line rest (NoEventAt f (x ∷ es) line) ((e : Event) → IsLine f line e → last_tick 0 (x ∷ es) ≤ e.tick → ⊥) (λ none e. none f e refl) bad)
from-start cut f g (x ∷ es) (e ∷ xs) ls ms line last rest end are others same whole is ends rise bad =
    let form : g ≡ f = one-start f g x e es xs ls ms line last rest are others same in
    excluded cut 0 f (x ∷ es) (e ∷ xs) ls ms line last rest end are (subst (λ (h : Form). AreLines h ms (e ∷ xs)) form others) same whole is ends rise
    (bad-at cut (last_tick 0 (x ∷ es)) line rest (NoEventAt f (x ∷ es) line) ((e : Event) → IsLine f line e → last_tick 0 (x ∷ es) ≤ e.tick → ⊥) (λ none e. none f e refl) bad)

pub no-trace : (cut : MayCut) (text : Text) (number : ℕ) (xs : List Event) (end : End) → IsRefused cut text number → IsTrace cut text xs end → ⊥
no-trace cut text number xs end r trace =
    from-start cut r.form trace.form r.events xs r.lines trace.lines r.line trace.last r.rest end r.are_lines trace.are_lines (sym r.parts ∙ trace.parts) r.whole trace.is_last trace.ends
    trace.rise
    (elim r.wrong [
      | inl wrong ↦ inl (wrong.1, wrong.2)
      | inr more ↦ inr (more.1, more.2)
    ])
