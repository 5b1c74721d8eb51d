-- What the reader of declarations says of a text by its result.
use Rattle.std.proofs.Common.{◌≡◌, ◌<◌, ◌-◌, ◌+◌, ℕ, zero, suc, Bool, true, false, eqb, List, [], ◌∷◌, Option, None, Some, IfSome, length, take, drop, refl, sym, ap, subst, ◌∙◌, arith}
use Rattle.std.proofs.lemmas.List.{drop-drop}
use Rattle.fb_read.specs.declared.error.ReadError.{ReadError}
use Rattle.fb_read.specs.declared.error.ReadError.TheVariants as error
use Rattle.fb_read.specs.declared.refused.Refusal.{Refusal}
use Rattle.fb_read.specs.declared.refused.TextFault.{TextFault}
use Rattle.fb_read.specs.declared.refused.TextFault.TheVariants as text_fault
use Rattle.fb_read.specs.declared.token.Located.{Located}
use Rattle.fb_read.specs.declared.token.Token.{Token}
use Rattle.fb_read.specs.Blank.{Text, skip, start}
use Rattle.fb_read.specs.Errors.{fault_number, number_of}
use Rattle.fb_read.specs.Front.{front}
use Rattle.fb_read.specs.Located.{AreLocated, no_more, then_token}
use Rattle.fb_read.specs.Refusals.{IsErrorAt, IsFaultAt, IsNestingAt, IsNext}
use Rattle.fb_read.specs.Tokens.{after_mark}
use Rattle.fb_read.proofs.lemmas.rules.NextLaws.{same-length}
use Rattle.fb_read.proofs.lemmas.tokens.PlaceLaws.{nothing-up-to, tokens-up-to}
use Rattle.fb_why.specs.declared.find.TextRefusal.{TextRefusal}
use Rattle.fb_read_positions.specs.declared.places.Place.{Place}
use Rattle.fb_why.specs.Faults.{Agrees, EndsAt, FindsFault, IsAfterToken, IsNoLibrary, IsShownFor, IsTextRefusal}
use Rattle.fb_read_positions.specs.Places.{IsPlace, IsStretch, line_at}

-- the error that is reported for a refusal agrees with it
agrees-at : (f : TextFault) (text : Text) (begin : ℕ) (fault : ReadError) (line : ℕ) → IsErrorAt f text begin fault → line ≡ line_at text begin → Agrees fault f line
agrees-at text_fault.Byte text begin fault line h l = subst (λ (e : ReadError). Agrees e text_fault.Byte line) (sym h) tt
agrees-at text_fault.Token text begin fault line h l = subst (λ (e : ReadError). Agrees e text_fault.Token line) (sym h) tt
agrees-at text_fault.Syntax text begin fault line h l = subst (λ (e : ReadError). Agrees e text_fault.Syntax line) (sym h) (sym l)
agrees-at text_fault.TooLong text begin fault line h l = subst (λ (e : ReadError). Agrees e text_fault.TooLong line) (sym h) tt
agrees-at text_fault.Nesting text begin fault line h l = subst (λ (e : ReadError). Agrees e text_fault.Nesting line) (sym h) tt

-- the text up to the end of the token that nests too deep is no library
nests-up-to : (text : Text) (begin end : ℕ) → IsNestingAt text begin end → IsNoLibrary (take end text)
nests-up-to text begin end h = record { tokens = tokens-up-to text begin end h; none = nothing-up-to text begin end h }

pub finds : (text : Text) (r : Refusal) (place : Place) → IsFaultAt r.fault text r.start r.end → IsPlace text place → IsShownFor text r.fault r.start r.end place
    → IsTextRefusal text (record { refusal = r; place = place })
finds text r place h l s fault e = record {
  is_place = l;
  found = r.fault;
  begin = r.start;
  end = r.end;
  agrees = agrees-at r.fault text r.start fault (line_at text r.start) e refl;
  applies = h;
  shown = s;
  up_to = λ n. nests-up-to text r.start r.end (subst (λ (w : TextFault). IsFaultAt w text r.start r.end) n h);
}

-- ---- The end of the last token

-- it is where the last of the tokens of an end of the text ends
ends : (text : Text) (p : Located) (ps : List Located) (z : Text) (begin end : ℕ) → AreLocated text (p ∷ ps) z → IsNext (drop (length ps) (p ∷ ps)) text begin end → EndsAt text end
ends text p [] z begin end (then_token {n = n} {here = here} {rest = rest} s f d l (no_more e)) next =
    let there : drop begin text ≡ here = ap (λ (k : ℕ). drop k text) next.0 ∙ l in
    let len : n ≡ end - begin = same-length (front here) p.token p.token n (end - begin) f (ap (λ (y : Text). front y) (sym there) ∙ next.1) in
    let sum : begin + n ≡ end = omega (arith, next.2) in
    let path : drop end text ≡ rest = ap (λ (k : ℕ). drop k text) (sym sum) ∙ sym (drop-drop n begin text) ∙ ap (λ (y : Text). drop n y) there ∙ d in
    record { token = p.token; begin = begin; some = next.2; within = next.3; is_token = next.1; blank = ap (λ (y : Text). skip start y) path ∙ e }
ends text p (q ∷ ps) z begin end (then_token {rest = rest} s f d l a) next = ends text q ps rest begin end a next

pub ends-last : (text : Text) (tokens : List Located) (begin end : ℕ) → AreLocated text tokens (after_mark text) → 0 < length tokens → IsNext (drop (length tokens - 1) tokens) text begin end
    → EndsAt text end
ends-last text [] begin end a some next = absurd (omega arith)
ends-last text (p ∷ ps) begin end a some next =
    let same : suc (length ps) - 1 ≡ length ps = omega arith in
    ends text p ps (after_mark text) begin end a (subst (λ (k : ℕ). IsNext (drop k (p ∷ ps)) text begin end) same next)

-- there is a token
pub some-tokens : (n : ℕ) (is_empty : Bool) → is_empty ≡ eqb n 0 → is_empty ≡ false → 0 < n
some-tokens zero is_empty e h = absurd (let no : true ≡ false = sym e ∙ h in cc)
some-tokens (suc n) is_empty e h = omega arith

pub after-token : (text : Text) (offset end : ℕ) (o : Option Place) → EndsAt (take offset text) end → IfSome o (λ at. IsStretch end end at) → IfSome o (IsAfterToken text offset)
after-token text offset end None e s = tt
after-token text offset end (Some at) e s = record { ends = subst (λ (k : ℕ). EndsAt (take offset text) k) (sym s.start_is) e; empty = s.end_is ∙ sym s.start_is }

-- what is reported for a fault of a text, with its number
error-for : (f : TextFault) (text : Text) (begin : ℕ) → (fault : ReadError) × IsErrorAt f text begin fault × (number_of fault ≡ Some (fault_number f))
error-for text_fault.Byte text begin = (error.Byte, refl, refl)
error-for text_fault.Token text begin = (error.Token, refl, refl)
error-for text_fault.Syntax text begin = (error.Syntax (line_at text begin), refl, refl)
error-for text_fault.TooLong text begin = (error.TooLong, refl, refl)
error-for text_fault.Nesting text begin = (error.Nesting, refl, refl)

-- a refusal of this number finds a fault of it
pub finds-numbered : (text : Text) (r : TextRefusal) (number : ℕ) → IsTextRefusal text r → fault_number r.refusal.fault ≡ number
    → (fault : ReadError) × (number_of fault ≡ Some number) × FindsFault text fault r.place
finds-numbered text r number h n =
    let w = error-for r.refusal.fault text r.refusal.start in
    (w.0, w.2 ∙ ap (λ (k : ℕ). Some k) n, h w.0 w.1)
