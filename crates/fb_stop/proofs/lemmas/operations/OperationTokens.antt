-- The tokens of an operation, counted from the token at a position.
use Rattle.fb_types.proofs.Common.{◌≡◌, ◌+◌, ◌-◌, ◌<◌, ◌≤◌, ℕ, zero, suc, List, [], ◌∷◌, length, drop, Option, Some, None, Result, Ok, Err, IfNone, IfOk, IfSome, MatchOption, inr, refl, sym, ap, subst, ◌∙◌, arith, drop_all, length-drop, slice_get}
use Rattle.fb_types.specs.Headline.{Inputs}
use Rattle.fb_types.specs.declared.library.Library.{Library}
use Rattle.fb_read.specs.Blank.{Text, start}
use Rattle.fb_read.specs.Front.{Found, bad_byte, front}
use Rattle.fb_read.specs.Located.{AreLocated, then_token}
use Rattle.fb_read.specs.Refusals.{IsNext}
use Rattle.fb_read.specs.Tokens.{after_mark}
use Rattle.fb_read.specs.declared.token.Located.{Located}
use Rattle.fb_read.specs.declared.token.Span.{Span}
use Rattle.fb_read.specs.declared.token.Token.{Token}
use Rattle.fb_read.proofs.lemmas.tokens.TextEnds.{end-length, skip-end}
use Rattle.fb_read.proofs.lemmas.tokens.TokenLaws.{front_empty}
use Rattle.fb_read_positions.specs.Spans.{IsAt, IsNowhere}
use Rattle.fb_read_positions.specs.declared.position.Position.{Position}
use Rattle.fb_read_positions.proofs.lemmas.OneReading.{located-unique, not_both, offset-is, one_start}
use Rattle.fb_stop.specs.Places.{IsStopPosition}
use Rattle.fb_stop.specs.Shown.{HasNoToken, IsOperationShown, IsShownAmong, IsShownOrNot, IsTokenAt, IsUnshown, IsUnshownAmong, IsUnshownAt}
use Rattle.fb_stop.specs.declared.found.FoundStop.{FoundStop}
use Rattle.fb_stop.specs.declared.operation.Operation.{Operation}
use Rattle.fb_stop.specs.declared.shown.Shown.{Shown}

abbrev found : Token × ℕ → Found
found p = Ok p

same-found : (p q : Token × ℕ) → found p ≡ found q → p ≡ q
same-found p q e = cc

pub same-item : (p q : Located) → Some p ≡ Some q → p ≡ q
same-item p q e = cc

-- ---- One token at an offset

-- a token begins in the text of which it is one
begins-in : (text : Text) (ps : List Located) (z : Text) (k : ℕ) (t : Located) → AreLocated text ps z → slice_get ps k ≡ Some t → length text ≤ t.index + length z
begins-in text [] z k t a is = absurd cc
begins-in text (p ∷ ps) z zero t (then_token {n = n} {here = here} h e d l a) is =
    let same : p.index ≡ t.index = ap (λ (x : Located). x.index) (same-item p t is) in
    omega (arith, offset-is text here p.index (p.token, n) l e, end-length here z (skip-end start z here h))
begins-in text (p ∷ ps) z (suc k) t (then_token {n = n} {here = here} {rest = rest} h e d l a) is =
    let size = ap (λ (y : Text). length y) d in
    omega (arith, begins-in text ps rest k t a is, length-drop n here, end-length here z (skip-end start z here h))

-- a token there has bytes
abbrev HasBytes : Text → ℕ → Type 0
HasBytes text offset = (x : Token) (n : ℕ) → front (drop offset text) ≡ Ok (x, n) → 0 < n

has_bytes : (left : List Located) (text : Text) (s : Span) → IsNext left text s.start s.end → HasBytes text s.start
has_bytes [] text s next = λ x n e.
    absurd (not_both (front (drop s.start text)) bad_byte (x, n) (ap (λ (y : Text). front y) (drop_all s.start text (omega (arith, next.0))) ∙ front_empty) e)
has_bytes (p ∷ left) text s next = λ x n e.
    let long : s.end - s.start ≡ n = ap (λ (q : Token × ℕ). q.1) (same-found (p.token, s.end - s.start) (x, n) (sym next.1 ∙ e)) in
    omega (arith, long, next.2)

-- those after a token that has bytes begin after it
later-begins :
    (text : Text) (p : Located) (ps : List Located) (z : Text) (k : ℕ) (t : Located) → AreLocated text (p ∷ ps) z → slice_get ps k ≡ Some t → HasBytes text p.index → p.index ≡ t.index → ⊥
later-begins text p ps z k t (then_token {n = n} {here = here} {rest = rest} h e d l a) is some same =
    let size = ap (λ (y : Text). length y) d in
    let more : 0 < n = some p.token n (ap (λ (y : Text). front y) l ∙ e) in
    let within : 0 < length here = front-within here p.token n e in
    omega (arith, begins-in text ps rest k t a is, offset-is text here p.index (p.token, n) l e, length-drop n here, within)
  where
    front-within : (z : Text) (x : Token) (m : ℕ) → front z ≡ Ok (x, m) → 0 < length z
    front-within [] x m e = absurd (not_both (front []) bad_byte (x, m) front_empty e)
    front-within (b ∷ z) x m e = omega arith

one-index :
    (text : Text) (ps : List Located) (z : Text) (j k : ℕ) (s t : Located) → AreLocated text ps z → slice_get ps j ≡ Some s → slice_get ps k ≡ Some t → HasBytes text s.index → s.index ≡ t.index → j ≡ k
one-index text [] z j k s t a first second some same = absurd cc
one-index text (p ∷ ps) z zero zero s t a first second some same = refl
one-index text (p ∷ ps) z zero (suc k) s t a first second some same =
    let is : p ≡ s = same-item p s first in
    absurd (later-begins text p ps z k t a second (subst (HasBytes text) (ap (λ (x : Located). x.index) (sym is)) some) (ap (λ (x : Located). x.index) is ∙ same))
one-index text (p ∷ ps) z (suc j) zero s t a first second some same =
    let is : p ≡ t = same-item p t second in
    let at : p.index ≡ s.index = ap (λ (x : Located). x.index) is ∙ sym same in
    absurd (later-begins text p ps z j s a first (subst (HasBytes text) (sym at) some) at)
one-index text (p ∷ ps) z (suc j) (suc k) s t (then_token {rest = rest} h e d l a) first second some same =
    ap (λ (i : ℕ). suc i) (one-index text ps rest j k s t a first second some same)

pub one_begin : (text : Text) (ps : List Located) (s : Span) (left : List Located) (j k : ℕ) → AreLocated text ps (after_mark text) → IsNext left text s.start s.end
    → IsTokenAt ps s.start j → IsTokenAt ps s.start k → j ≡ k
one_begin text ps s left j k located next a b =
    one-index text ps (after_mark text) j k a.0 b.0 located a.1 b.1 (subst (HasBytes text) (sym a.2) (has_bytes left text s next)) (a.2 ∙ sym b.2)

-- ---- Operations that are not shown

module _ (text : Text) (library : Library) (position : Position) (operation : Operation) where
  pub nowhere_shown : IsNowhere text library position → IsUnshownAt text library position operation
  nowhere_shown none = λ declared x shown. none declared shown.span shown.at

  module _ (span : Span) (at : IsAt text library position span) (ps : List Located) (located : AreLocated text ps (after_mark text)) where
    -- no token is at the position, as at the end of the text
    pub no_token : HasNoToken ps span.start → IsUnshownAt text library position operation
    no_token none = λ declared x shown.
        let same : shown.tokens ≡ ps = located-unique text shown.tokens ps (after_mark text) shown.located located in
        let there : IsTokenAt ps span.start shown.begin =
        subst (λ (k : ℕ). IsTokenAt ps k shown.begin) (one_start text library position shown.span span shown.at at)
        (subst (λ (qs : List Located). IsTokenAt qs shown.span.start shown.begin) same shown.there) in
        none shown.begin there

    -- a token of the operation is not there
    pub no_tokens : (begin : ℕ) → IsTokenAt ps span.start begin → IsUnshownAmong text ps begin operation → IsUnshownAt text library position operation
    no_tokens begin first none = λ declared x shown.
        let same : shown.tokens ≡ ps = located-unique text shown.tokens ps (after_mark text) shown.located located in
        let there : IsTokenAt ps span.start shown.begin =
        subst (λ (k : ℕ). IsTokenAt ps k shown.begin) (one_start text library position shown.span span shown.at at)
        (subst (λ (qs : List Located). IsTokenAt qs shown.span.start shown.begin) same shown.there) in
        let one : shown.begin ≡ begin = one_begin text ps span (drop (length at.placed - length at.here) at.placed) shown.begin begin located at.next there first in
        none x (subst (λ (k : ℕ). IsShownAmong text ps k operation x) one (subst (λ (qs : List Located). IsShownAmong text qs shown.begin operation x) same shown.shown))

-- the tokens of an operation, from one at an offset on, as those from a position on
pub shown_there :
    {E : Type 0} (text : Text) (span : Span) (ps : List Located) (operation : Operation) (begin : ℕ) (r : Result (Option Shown) E) → AreLocated text ps (after_mark text) → IsTokenAt ps span.start begin
    → IfOk r (λ o. MatchOption o (IsUnshownAmong text ps begin operation) (IsShownAmong text ps begin operation))
    → IfOk r (λ o. (library : Library) → (position : Position) → IsAt text library position span → IsShownOrNot text library position operation o)
shown_there text span ps operation begin (Err e) located there h = tt
shown_there text span ps operation begin (Ok None) located there h = λ library position at. no_tokens text library position operation span at ps located begin there h
shown_there text span ps operation begin (Ok (Some x)) located there h = λ library position at.
    record { span = span; at = at; tokens = ps; located = located; begin = begin; there = there; shown = h }

-- ---- Stops

module _ (text : Text) (i : Inputs) (stop : FoundStop) (o : Option Operation) (position : Position) (operation : Operation) (there : IsStopPosition i stop position) (is : o ≡ Some operation) where
  pub unshown : IsUnshownAt text i.library position operation → IsUnshown text i stop o
  unshown none = inr (inr (record { position = position; position_is = there; operation = operation; operation_is = is; nowhere = none }))

  pub shown_or_not :
      {E : Type 0} (library : Library) (span : Span) (r : Result (Option Shown) E) → library ≡ i.library → IsAt text library position span
      → IfOk r (λ x. (lib : Library) → (p : Position) → IsAt text lib p span → IsShownOrNot text lib p operation x) → IfOk r (λ x. MatchOption x (IsUnshown text i stop o) (IsOperationShown text i stop o))
  shown_or_not library span (Err e) same at h = tt
  shown_or_not library span (Ok None) same at h = unshown (h i.library position (subst (λ (l : Library). IsAt text l position span) same at))
  shown_or_not library span (Ok (Some x)) same at h = record {
    position = position;
    position_is = there;
    operation = operation;
    operation_is = is;
    shown = h i.library position (subst (λ (l : Library). IsAt text l position span) same at);
  }

-- what is found of an operation, and what is said where nothing is
pub shown_some : {A E : Type 0} (N : Type 0) (P : A → Type 0) (r : Result (Option A) E) → IfOk r (λ o. MatchOption o N P) → IfOk r (λ o. IfSome o P)
shown_some N P (Err e) h = tt
shown_some N P (Ok None) h = tt
shown_some N P (Ok (Some x)) h = h

pub shown_none : {A E : Type 0} (N : Type 0) (P : A → Type 0) (r : Result (Option A) E) → IfOk r (λ o. MatchOption o N P) → IfOk r (λ o. IfNone o N)
shown_none N P (Err e) h = tt
shown_none N P (Ok None) h = h
shown_none N P (Ok (Some x)) h = tt
