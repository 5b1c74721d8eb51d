-- Whether the line that was read ahead is the stop of the resource of a line in its tick for its steps.
use Rattle.fb_inspect.proofs.lemmas.Common.{◌≡◌, ◌<◌, ◌≤◌, ◌+◌, ◌-◌, ◌⊎◌, not, get_or, take, Bool, true, false, ℕ, suc, List, length, Option, Some, None, inl, inr, refl, sym, subst, ap, ◌∙◌, arith, All, slice_get, slice_set, Basic, Composite, Event, Kind, line_of, AtStop, System, last_line, Key, BasicType, Line, StopMark, Reason, Divide, Range, Steps, Outcome, Stop, IsLast, IsLineOf, IsNoLast, HasNames, left_of, KeepSteps, Look, Seen, left_at, most, steps_stop, IsKept, MayEnd, Chart, TickSteps}
use Rattle.fb_types.proofs.Common.{OnFalse, OnTrue, take_more, All-push, get_or_from_slice_get}
use Rattle.fb_types.proofs.lemmas.lists.ByIndex.{element_at}
use Rattle.fb_trace.specs.declared.last.Outcome.TheVariants.{End}
use Rattle.fb_inspect.specs.walk.Standing.{AreApart}
use Rattle.fb_inspect.specs.walk.Walking.{HasLimited, HasStepped}
use Rattle.fb_inspect.specs.declared.walk.blocks.Remembered.TheVariants as kept
use Rattle.fb_inspect.proofs.lemmas.lines.OneEnd.{end_once}
use Rattle.fb_inspect.proofs.lemmas.reactions.Placed.{item_is}

abbrev pub steps_mark : Key → StopMark
steps_mark k = record { tick = k.tick; resource = k.resource; reason = Steps }

pub near_text : (sys : System) (line : Line) (last : List ℕ) (m : StopMark) → m ≡ steps_mark line.key → IsLast sys last (Stop m) → last ≡ steps_stop sys (line_of sys line)
near_text sys line last m is text = text.is ∙ ap (λ (x : StopMark). last_line sys (AtStop x.tick x.resource x.reason)) is

near_end : (sys : System) → HasNames sys → AreApart sys → (line : Line) → IsLineOf sys line → (last : List ℕ) (end : Outcome) → IsLast sys last end → last ≡ steps_stop sys (line_of sys line) → end ≡ Stop (steps_mark line.key)
near_end sys names apart line is last end text e =
    end_once sys names apart end line.key.tick line.key.resource Steps text.can (is.range.tick, is.belongs.resource) (sym text.is ∙ e)

same_mark : (m n : StopMark) → Stop m ≡ Stop n → m ≡ n
same_mark m n e = cc

-- another end, or none, is not that stop
pub far_mark : (sys : System) → HasNames sys → AreApart sys → (line : Line) → IsLineOf sys line → (last : List ℕ) (m : StopMark) → IsLast sys last (Stop m) → (m ≡ steps_mark line.key → ⊥) → last ≡ steps_stop sys (line_of sys line) → ⊥
far_mark sys names apart line is last m text other e = other (same_mark m (steps_mark line.key) (near_end sys names apart line is last (Stop m) text e))

pub far_end : (sys : System) → HasNames sys → AreApart sys → (line : Line) → IsLineOf sys line → (last : List ℕ) (h : ℕ) → IsLast sys last (End h) → last ≡ steps_stop sys (line_of sys line) → ⊥
far_end sys names apart line is last h text e = by (near_end sys names apart line is last (End h) text e)
  where
    by : End h ≡ Stop (steps_mark line.key) → ⊥
    by same = cc

pub far_none : (sys : System) (line : Line) → IsLineOf sys line → (last : List ℕ) → IsNoLast sys last → last ≡ steps_stop sys (line_of sys line) → ⊥
far_none sys line is last none e = none (AtStop line.key.tick line.key.resource Steps) (is.range.tick, is.belongs.resource) e

-- ---- The kind of an instance, by what it remembers

pub true_not : true ≡ false → ⊥
true_not e = cc

pub basic_kept : (kind : Option Kind) (c : Chart) (s : Seen) → IsKept kind (kept.Basic c) s → (t : BasicType) × (kind ≡ Some (Basic t))
basic_kept None c s h = absurd h
basic_kept (Some (Basic t)) c s h = (t, refl)
basic_kept (Some (Event e)) c s h = absurd h
basic_kept (Some (Composite e)) c s h = absurd h

-- ---- A stop that a trace may have

pub keeps_of : (sys : System) (steps : ℕ) (look : Look) (tick r : ℕ) (reason : Reason) → MayEnd sys steps look (AtStop tick r reason) → KeepSteps sys steps look
keeps_of sys steps look tick r Steps may = may.1
keeps_of sys steps look tick r Divide may = absurd may
keeps_of sys steps look tick r Range may = absurd may

-- ---- The steps of a resource

no_some : {A : Type 0} (x : A) → None ≡ Some x → ⊥
no_some x e = cc

-- what is kept of a resource, where the list of them is given by another name
pub kept_at : (xs ys : List TickSteps) (i : ℕ) (s : TickSteps) → ys ≡ xs → i < length ys → s ≡ get_or ys i s → slice_get xs i ≡ Some s
kept_at xs ys i s same within is = subst (λ (zs : List TickSteps). slice_get zs i ≡ Some s) same (item_is ys i s within is)

pub none_kept : (xs ys : List TickSteps) (n i : ℕ) → ys ≡ xs → length xs ≡ n → i < n → length ys ≤ i → ⊥
none_kept xs ys n i same counts within short =
    let long : i < length ys = subst (λ (k : ℕ). i < k) (sym (ap length same ∙ counts)) within in omega (arith, long, short)

-- the first that used too many steps
pub not_kept_at :
    (xs : List TickSteps) (i : ℕ) (d : TickSteps) (steps : ℕ) → i < length xs → (most ≤ (get_or xs i d).least + steps → ⊥)
    → (k : ℕ) × ((s : TickSteps) × (slice_get xs k ≡ Some s) × (most ≤ s.least + steps → ⊥))
not_kept_at xs i d steps within over =
    let one = element_at xs i within in
    (i, (one.0, one.1, subst (λ (s : TickSteps). most ≤ s.least + steps → ⊥) (get_or_from_slice_get xs i one.0 d one.1) over))

pub all_more : (P : TickSteps → Type 0) (xs : List TickSteps) (i : ℕ) (d : TickSteps) → i < length xs → All P (take i xs) → P (get_or xs i d) → All P (take (i + 1) xs)
all_more P xs i d within so_far here = subst (λ (ys : List TickSteps). All P ys) (sym (take_more xs i d within)) (All-push P (take i xs) (get_or xs i d) so_far here)

same_reason : (a b : Reason) → Some a ≡ Some b → a ≡ b
same_reason a b e = cc

-- a taking that stopped for another reason has not run out of steps
pub no_steps : (stop : Option Reason) (reason : Reason) (P : Type 0) → stop ≡ Some reason → (reason ≡ Steps → ⊥) → (stop ≡ Some Steps) ⊎ ((stop ≡ None) × P) → ⊥
no_steps stop reason P is other (inl e) = other (same_reason reason Steps (sym is ∙ e))
no_steps stop reason P is other (inr p) = no_some reason (sym p.0 ∙ is)

-- a taking that did not stop has run out of steps where none is left
pub out_of_steps : (stop : Option Reason) (P : Type 0) → stop ≡ None → (stop ≡ Some Steps) ⊎ ((stop ≡ None) × P) → P
out_of_steps stop P is (inl e) = absurd (no_some Steps (sym is ∙ e))
out_of_steps stop P is (inr p) = p.1

pub step_used :
    (r : Bool) (limit : ℕ) (key : Key) (old new : List TickSteps) (own after : TickSteps) → slice_get old key.resource ≡ Some own
    → OnTrue r (left_at limit key.tick (left_of own) ≡ suc after.meter.left) → OnTrue r (after.tick ≡ Some key.tick) → OnTrue r (after.least ≡ own.least)
    → new ≡ slice_set old key.resource after → OnTrue r (HasStepped limit key old new)
step_used true limit key old new own after stood used tick least is =
    record { before = own; stood = stood; after = after; used = used; tick_is = tick; least_is = least; steps_are = is }
step_used false limit key old new own after stood used tick least is = tt

same_steps : (a b : TickSteps) → Some a ≡ Some b → a ≡ b
same_steps a b e = cc

pub step_none :
    (r : Bool) (limit : ℕ) (key : Key) (old : List TickSteps) (own : TickSteps) → slice_get old key.resource ≡ Some own
    → OnFalse r (left_at limit key.tick (left_of own) ≡ 0) → OnFalse r ((other : TickSteps) → slice_get old key.resource ≡ Some other → left_at limit key.tick (left_of other) ≡ 0)
step_none true limit key old own stood none = tt
step_none false limit key old own stood none = λ other at. ap (λ (s : TickSteps). left_at limit key.tick (left_of s)) (same_steps other own (sym at ∙ stood)) ∙ none

pub limit_left :
    (r : Bool) (steps : ℕ) (key : Key) (old new : List TickSteps) (own after : TickSteps) → slice_get old key.resource ≡ Some own
    → OnTrue r (most ≤ left_at most key.tick (left_of own) + steps)
    → OnTrue r (left_of after ≡ record { tick = Some key.tick; left = (left_at most key.tick (left_of own) + steps) - most; least = own.least })
    → new ≡ slice_set old key.resource after → r ≡ true → HasLimited steps key old new
limit_left true steps key old new own after stood within left is true_is =
    record { before = own; stood = stood; after = after; within = within; left_is = left; steps_are = is }
limit_left false steps key old new own after stood within left is true_is = absurd (true_not (sym true_is))

pub limit_more :
    (r : Bool) (steps : ℕ) (key : Key) (old : List TickSteps) (own : TickSteps) → slice_get old key.resource ≡ Some own
    → OnFalse r (steps ≤ most → left_at most key.tick (left_of own) + steps < most) → r ≡ false → steps ≤ most
    → (other : TickSteps) → slice_get old key.resource ≡ Some other → left_at most key.tick (left_of other) + steps < most
limit_more true steps key old own stood more false_is few other at = absurd (true_not false_is)
limit_more false steps key old own stood more false_is few other at =
    subst (λ (s : TickSteps). left_at most key.tick (left_of s) + steps < most) (same_steps own other (sym stood ∙ at)) (more few)

pub not_kept : (b : Bool) → not b ≡ true → b ≡ false
not_kept true e = sym e
not_kept false e = refl

pub not_over : (b : Bool) → not b ≡ false → b ≡ true
not_over true e = refl
not_over false e = sym e
