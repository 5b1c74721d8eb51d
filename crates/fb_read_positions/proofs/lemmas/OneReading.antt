-- A text has one list of tokens, each at one offset, so what is not found among them is not there. A text that is refused
-- declares nothing.
use Rattle.fb_types.proofs.Common.{◌≡◌, ◌+◌, ◌-◌, ℕ, List, [], ◌∷◌, length, drop, Option, Some, None, Ok, Err, refl, sym, ap, subst, ◌∙◌, arith, length-drop, Name}
use Rattle.fb_types.specs.declared.library.Library.{Library}
use Rattle.fb_read.specs.Blank.{Text, skip, start}
use Rattle.fb_read.specs.Front.{Found, TokenFault, bad_byte, bad_token, front}
use Rattle.fb_read.specs.Located.{AreLocated, no_more, then_token}
use Rattle.fb_read.specs.Parser.{syntax, too_deep}
use Rattle.fb_read.specs.Refusals.{IsFaultAt, IsNext}
use Rattle.fb_read.specs.Tokens.{Tokens, tokens_of, after_mark}
use Rattle.fb_read.specs.declared.refused.TextFault.{TextFault}
use Rattle.fb_read.specs.declared.refused.TextFault.TheVariants as text_fault
use Rattle.fb_read.specs.declared.token.Located.{Located}
use Rattle.fb_read.specs.declared.token.Span.{Span}
use Rattle.fb_read.specs.declared.token.Token.{Token}
use Rattle.fb_read.specs.declared.token.Token.TheVariants as token
use Rattle.fb_read.proofs.lemmas.texts.WholeLaws.{nothing-faulty, nothing-parsed, read-short}
use Rattle.fb_read.proofs.lemmas.tokens.TokenLaws.{first-located, front_empty, tokens-located}
use Rattle.fb_read_positions.specs.Resumed.{Leaves, Refuses}
use Rattle.fb_read_positions.specs.Spans.{DeclaresNothing, IsAt, IsNamed, IsNowhere, name_at}
use Rattle.fb_read_positions.specs.Walks.{to_position}
use Rattle.fb_read_positions.specs.declared.position.Position.{Position}
use Rattle.fb_read_positions.proofs.lemmas.EndsOfWalks.{nothing_read}

abbrev found : Token × ℕ → Found
found p = Ok p

same-found : (p q : Token × ℕ) → found p ≡ found q → p ≡ q
same-found p q e = cc

pub not_both : (o : Found) (f : TokenFault) (p : Token × ℕ) → o ≡ Err f → o ≡ Ok p → ⊥
not_both o f p h e = cc

-- ---- One list of tokens

-- no token is at the end of a text
none_at_end : (z here : Text) (p : Token × ℕ) → skip start z ≡ Some [] → skip start z ≡ Some here → front here ≡ Ok p → ⊥
none_at_end z here p h k e =
    let none : here ≡ [] = cc in
    not_both (front here) bad_byte p (ap (λ (y : Text). front y) none ∙ front_empty) e

-- where a token begins
pub offset-is : (text here : Text) (i : ℕ) (p : Token × ℕ) → drop i text ≡ here → front here ≡ Ok p → i + length here ≡ length text
offset-is text [] i p d e = absurd (not_both (front []) bad_byte p front_empty e)
offset-is text (b ∷ here) i p d e =
    let long = ap (λ (y : Text). length y) d in
    omega (arith, length-drop i text)

same-token : (p q : Located) → p.token ≡ q.token → p.index ≡ q.index → p ≡ q
same-token p q t k = λ i. record { token = t i; index = k i }

pub located-unique : (text : Text) (ps qs : List Located) (z : Text) → AreLocated text ps z → AreLocated text qs z → ps ≡ qs
located-unique text [] [] z a b = refl
located-unique text [] (q ∷ qs) z (no_more h) (then_token {n = n} {here = here} k e d l b) = absurd (none_at_end z here (q.token, n) h k e)
located-unique text (p ∷ ps) [] z (then_token {n = n} {here = here} h e d l a) (no_more k) = absurd (none_at_end z here (p.token, n) k h e)
located-unique text (p ∷ ps) (q ∷ qs) z (then_token {n = m} {here = here} {rest = first} h e d l a) (then_token {n = n} {here = there} {rest = second} k f c j b) =
    let same : here ≡ there = cc in
    let one : (p.token, m) ≡ (q.token, n) = same-found (p.token, m) (q.token, n) (sym e ∙ ap (λ (y : Text). front y) same ∙ f) in
    let step : m ≡ n = ap (λ (x : Token × ℕ). x.1) one in
    let rest : first ≡ second = sym d ∙ ap (λ (y : Text). drop m y) same ∙ ap (λ (i : ℕ). drop i there) step ∙ c in
    let size : length here ≡ length there = ap (λ (y : Text). length y) same in
    let at : p.index ≡ q.index = omega (arith, offset-is text here p.index (p.token, m) l e, offset-is text there q.index (q.token, n) j f, size) in
    let more : ps ≡ qs = located-unique text ps qs first a (subst (λ (y : Text). AreLocated text qs y) (sym rest) b) in
    ap (λ (x : Located). x ∷ ps) (same-token p q (ap (λ (x : Token × ℕ). x.0) one) at) ∙ ap (λ (xs : List Located). q ∷ xs) more

-- ---- One place of a token

record AreSame (s t : Span) : Type 0 where
  starts : s.start ≡ t.start
  ends : s.end ≡ t.end

same-span : (left : List Located) (text : Text) (s t : Span) → IsNext left text s.start s.end → IsNext left text t.start t.end → AreSame s t
same-span [] text s t a b = record { starts = a.0 ∙ sym b.0; ends = a.1 ∙ sym b.1 }
same-span (p ∷ ps) text s t a b =
    let starts : s.start ≡ t.start = a.0 ∙ sym b.0 in
    let one : (p.token, s.end - s.start) ≡ (p.token, t.end - t.start) =
    same-found (p.token, s.end - s.start) (p.token, t.end - t.start) (sym a.1 ∙ ap (λ (k : ℕ). front (drop k text)) starts ∙ b.1) in
    let long : s.end - s.start ≡ t.end - t.start = ap (λ (x : Token × ℕ). x.1) one in
    record { starts = starts; ends = omega (arith, starts, long, a.2, b.2) }

named-as : (text : Text) (name : Option Name) (s t : Span) → AreSame s t → IsNamed text name s → IsNamed text name t
named-as text None s t same h = tt
named-as text (Some n) s t same h =
    let long : s.end - s.start ≡ t.end - t.start = omega (arith, same.starts, same.ends) in
    ap (λ (k : ℕ). front (drop k text)) (sym same.starts) ∙ h ∙ ap (λ (m : ℕ). found (token.Name n, m)) long

-- ---- What is at a position

module _ (text : Text) (library : Library) (position : Position) (ps : List Located) (located : AreLocated text ps (after_mark text)) where
  pub nowhere : Refuses (to_position position) ps → IsNowhere text library position
  nowhere none = λ declared span at.
      let same : at.placed ≡ ps = located-unique text at.placed ps (after_mark text) at.located located in
      none at.here (ap (λ (qs : List Located). to_position position (tokens_of qs)) (sym same) ∙ at.reached)

  -- the token there is the name, if one is asked for
  pub named_there : (left : ℕ) (span : Span) → Leaves (to_position position) ps left → IsNext (drop (length ps - left) ps) text span.start span.end → IsNamed text (name_at position library) span
      → IsAt text library position span
  named_there left span there next named = record {
    placed = ps;
    located = located;
    here = there.0;
    reached = there.1;
    next = subst (λ (n : ℕ). IsNext (drop (length ps - n) ps) text span.start span.end) (sym there.2) next;
    named = named;
  }

  -- the token of other bytes at the position
  next_there : (left : ℕ) (other : Span) → Leaves (to_position position) ps left → IsAt text library position other → IsNext (drop (length ps - left) ps) text other.start other.end
  next_there left other there at =
      let same : at.placed ≡ ps = located-unique text at.placed ps (after_mark text) at.located located in
      let here : at.here ≡ there.0 = nothing_read at.here there.0 tt (sym (ap (λ (qs : List Located). to_position position (tokens_of qs)) (sym same) ∙ at.reached) ∙ there.1) in
      let long : length at.here ≡ left = ap (λ (ts : Tokens). length ts) here ∙ there.2 in
      subst (λ (n : ℕ). IsNext (drop (length ps - n) ps) text other.start other.end) long
      (subst (λ (qs : List Located). IsNext (drop (length qs - length at.here) qs) text other.start other.end) same at.next)

  -- the token there is another one
  pub not_named : (left : ℕ) (span : Span) → Leaves (to_position position) ps left → IsNext (drop (length ps - left) ps) text span.start span.end → (IsNamed text (name_at position library) span → ⊥)
      → IsNowhere text library position
  not_named left span there next other_name = λ declared other at.
      other_name (named-as text (name_at position library) other span (same-span (drop (length ps - left) ps) text other span (next_there left other there at) next) at.named)

-- one token is at a position
pub one_start : (text : Text) (library : Library) (position : Position) (s t : Span) → IsAt text library position s → IsAt text library position t → s.start ≡ t.start
one_start text library position s t a b =
    let left = length b.here in
    (same-span (drop (length b.placed - left) b.placed) text s t (next_there text library position b.placed b.located left s (b.here, b.reached, refl) a) b.next).starts

-- ---- Texts that are refused

pub refused_declares_nothing : (why : TextFault) (text : Text) (begin end : ℕ) → IsFaultAt why text begin end → DeclaresNothing text
refused_declares_nothing text_fault.Byte text begin end h = nothing-faulty text bad_byte (first-located h.first)
refused_declares_nothing text_fault.Token text begin end h = nothing-faulty text bad_token (first-located h.first)
refused_declares_nothing text_fault.Syntax text begin end h = nothing-parsed text (tokens_of h.placed) (syntax h.left) (tokens-located h.located) h.refused
refused_declares_nothing text_fault.TooLong text begin end h = λ library declared. read-short text library declared h.long
refused_declares_nothing text_fault.Nesting text begin end h = nothing-parsed text (tokens_of h.placed) too_deep (tokens-located h.located) h.refused
