-- The place at which a position is shown.
use Rattle.fb_types.proofs.Common.{◌≡◌, ◌++◌, ◌∷◌, [], ◌+◌, ◌-◌, ◌<◌, ◌≤◌, ℕ, List, Option, Some, None, get_or, length, refl, sym, subst, arith, drop, take, is_some, false≢true, AllZip, take_more, IfSome, IsTrue}
use Rattle.fb_types.specs.declared.library.Library.{Library}
use Rattle.std.proofs.lemmas.Slice.Zip.{all_zipped_more}
use Rattle.fb_read.specs.Blank.{Text}
use Rattle.fb_read.specs.Refusals.{IsNext}
use Rattle.fb_read.specs.Tokens.{after_mark}
use Rattle.fb_read.specs.declared.token.Located.{Located}
use Rattle.fb_read.specs.declared.token.Span.{Span}
use Rattle.fb_read.proofs.lemmas.tokens.PrefixLaws.{next-after}
use Rattle.fb_read_positions.specs.Places.{IsPlace, IsPlaceFor, IsStretch, IsWithin}
use Rattle.fb_read_positions.specs.Spans.{DeclaresNothing, IsAt}
use Rattle.fb_read_positions.specs.declared.position.Position.{Position}
use Rattle.fb_read_positions.specs.declared.places.Place.{Place}

pub of_some : {A : Type 0} (P : A → Type 0) (o : Option A) (x : A) → o ≡ Some x → IfSome o P → P x
of_some {A} P o x is holds = subst (λ (y : Option A). IfSome y P) is holds

-- the bytes at a position are in the text, after its byte order mark
at-within : (text : Text) (library : Library) (p : Position) (s : Span) → IsAt text library p s → IsWithin text s.start s.end
at-within text library p s at =
    let k = length at.placed - length at.here in
    go (drop k at.placed) at.next (next-after text k s.start s.end at.placed (after_mark text) at.located at.next)
  where
    go : (left : List Located) → IsNext left text s.start s.end → length text ≤ s.start + length (after_mark text) → IsWithin text s.start s.end
    go [] next after = record { after = after; ordered = omega (arith, next.0, next.1); within = omega (arith, next.1) }
    go (q ∷ left) next after = record { after = after; ordered = omega (arith, next.2); within = next.3 }

pub placed :
    (text : Text) (library : Library) (p : Position) (s : Span) (place : Option Place) → IsAt text library p s → (IsWithin text s.start s.end → IsTrue (is_some place)) → IfSome place (IsPlace text)
    → IfSome place (λ l. IsStretch s.start s.end l) → IsPlaceFor text library (Some p) place
placed text library p s None at some located there = absurd (false≢true (some (at-within text library p s at)))
placed text library p s (Some place) at some located there = record { span = s; at = at; there = there; located = located }

pub found_at : (text : Text) (library : Library) (p : Position) (place : Option Place) → IsPlaceFor text library (Some p) place → IfSome place (IsPlace text)
found_at text library p None h = tt
found_at text library p (Some place) h = h.located

-- a text that declares nothing has no place
pub no_place : (text : Text) (library : Library) (p : Option Position) → DeclaresNothing text → IsPlaceFor text library p None
no_place text library None none = refl
no_place text library (Some p) none = λ declared span at. none library declared

-- ---- Places one after another

-- one place more
pub one_placed :
    (text : Text) (library : Library) (positions : List (Option Position)) (i : ℕ) (places more : List (Option Place)) (p : Option Position) (place : Option Place) → i < length positions
    → p ≡ get_or positions i p → more ≡ places ++ place ∷ [] → AllZip (IsPlaceFor text library) (take i positions) places → IsPlaceFor text library p place
    → AllZip (IsPlaceFor text library) (take (i + 1) positions) more
one_placed text library positions i places more p place within is added before here =
    let R = IsPlaceFor text library in
    let q = get_or positions i p in
    subst (λ (os : List (Option Place)). AllZip R (take (i + 1) positions) os) (sym added)
    (subst (λ (ps : List (Option Position)). AllZip R ps (places ++ place ∷ [])) (sym (take_more positions i p within))
    (all_zipped_more R (take i positions) places q place before (subst (λ (o : Option Position). R o place) is here)))
