-- The place of what is marked in an expression.
use Rattle.fb_types.proofs.Common.{◌≡◌, ◌∙◌, ℕ, List, Option, Some, None, MatchOption, refl, same_Some, sym, subst}
use Rattle.fb_types.specs.declared.library.Library.{Library}
use Rattle.fb_check.specs.declared.location.Location.{Location}
use Rattle.fb_read.specs.Blank.{Text}
use Rattle.fb_read.specs.Located.{AreLocated}
use Rattle.fb_read.specs.Tokens.{after_mark}
use Rattle.fb_read.specs.Whole.{IsLibraryText}
use Rattle.fb_read.specs.declared.token.Located.{Located}
use Rattle.fb_read_positions.specs.Places.{IsPlaceAt, IsPlaceFor}
use Rattle.fb_read_positions.specs.declared.places.Place.{Place}
use Rattle.fb_read_positions.specs.declared.position.Position.{Position}
use Rattle.fb_read_positions.proofs.lemmas.OneReading.{located-unique, one_start}
use Rattle.fb_why.specs.Marks.{IsAmong, IsMarkedPlace, IsNoToken, IsNoneAmong, IsRange, IsRangePlace, IsTokenAt, IsUnmarked, no_tokens, nothing_there}
use Rattle.fb_why.specs.Positions.{IsNowhereIf, position_of}
use Rattle.fb_why.specs.declared.marks.TokenRange.{TokenRange}
use Rattle.fb_why.proofs.lemmas.TokenOrder.{one_begin}

pub of_some : {A : Type 0} (N : Type 0) (P : A → Type 0) (o : Option A) (x : A) → o ≡ Some x → MatchOption o N P → P x
of_some {A} N P o x is h = subst (λ (z : Option A). MatchOption z N P) is h

pub of_none : {A : Type 0} (N : Type 0) (P : A → Type 0) (o : Option A) → o ≡ None → MatchOption o N P → N
of_none {A} N P o is h = subst (λ (z : Option A). MatchOption z N P) is h

-- the position of a place
pub position_placed : (text : Text) (library : Library) (o : Option Position) (place : Place) → IsPlaceFor text library o (Some place) → (p : Position) × (o ≡ Some p) × IsPlaceAt text library p place
position_placed text library None place holds = absurd (let differ : Some place ≡ None = holds in cc)
position_placed text library (Some p) place holds = (p, refl, holds)

-- ---- The place of what is marked

-- where nothing is at the position
pub nothing_marked : (text : Text) (library : Library) (location : Location) (o : Option Position) → IsLibraryText text library → position_of library location ≡ o → IsPlaceFor text library o None → IsUnmarked text location
nothing_marked text library location None read is none = record { library = library; read = read; unmarked = nothing_there (subst (λ (o : Option Position). IsNowhereIf text library o) (sym is) tt) }
nothing_marked text library location (Some p) read is none = record { library = library; read = read; unmarked = nothing_there (subst (λ (o : Option Position). IsNowhereIf text library o) (sym is) none) }

module _ (text : Text) (library : Library) (location : Location) (tokens : List Located) (range : TokenRange) (earlier : Place) (read : IsLibraryText text library)
    (located : AreLocated text tokens (after_mark text)) (placed : IsPlaceFor text library (position_of library location) (Some earlier)) (is : IsRange library location range) where
  -- tokens that are not all there, from whichever token the position has
  not_there : ((begin : ℕ) → IsTokenAt tokens earlier.start begin → IsNoneAmong text tokens begin range) → IsUnmarked text location
  not_there none =
      let at = position_placed text library (position_of library location) earlier placed in
      let from : IsPlaceAt text library at.0 earlier = at.2 in
      record {
        library = library;
        read = read;
        unmarked = no_tokens range is (λ position place position_is there.
            let same : position ≡ at.0 = same_Some position at.0 (sym position_is ∙ at.1) in
            let shown : IsRangePlace text library at.0 range place = subst (λ (p : Position). IsRangePlace text library p range place) same there in
            let list : shown.tokens ≡ tokens = located-unique text shown.tokens tokens (after_mark text) shown.located located in
            let starts : shown.span.start ≡ earlier.start = one_start text library at.0 shown.span from.span shown.at from.at ∙ sym from.there.start_is in
            let begins : IsTokenAt tokens earlier.start shown.begin =
            subst (λ (n : ℕ). IsTokenAt tokens n shown.begin) starts (subst (λ (ts : List Located). IsTokenAt ts shown.span.start shown.begin) list shown.there) in
            none shown.begin begins place (subst (λ (ts : List Located). IsAmong text ts shown.begin range place) list shown.among));
      }

  -- no token begins at the place
  pub no_begin : IsNoToken tokens earlier.start → IsUnmarked text location
  no_begin none = not_there (λ begin there. absurd (none begin there))

  -- what is marked at a location, from its place among the tokens
  pub marked_if : (begin : ℕ) (o : Option Place) → IsTokenAt tokens earlier.start begin → MatchOption o (IsNoneAmong text tokens begin range) (IsAmong text tokens begin range)
      → MatchOption o (IsUnmarked text location) (IsMarkedPlace text location)
  marked_if begin None there none =
      not_there (λ other begins place among.
      none place (subst (λ (n : ℕ). IsAmong text tokens n range place) (one_begin text tokens (after_mark text) earlier.start other begin located begins there) among))
  marked_if begin (Some p) there among =
      let at = position_placed text library (position_of library location) earlier placed in
      let from : IsPlaceAt text library at.0 earlier = at.2 in
      record {
        library = library;
        read = read;
        position = at.0;
        position_is = at.1;
        range = range;
        range_is = is;
        placed = record {
          span = from.span;
          at = from.at;
          tokens = tokens;
          located = located;
          begin = begin;
          there = subst (λ (n : ℕ). IsTokenAt tokens n begin) from.there.start_is there;
          among = among;
        };
      }
