-- The place at which a location of what was declared is shown.
use Rattle.fb_types.proofs.Common.{◌≡◌, ◌∷◌, ◌++◌, ◌+◌, ◌<◌, ◌||◌, [], ℕ, Bool, true, false, List, length, get_or, map, take, Option, Some, None, refl, sym, ◌∙◌, ap, subst, list_any, map-append, take_more, true≢false, inl, inr, All-cons, All-nil, AllZip, All, IfSome, MatchOption}
use Rattle.fb_types.specs.declared.library.Library.{Library}
use Rattle.std.proofs.lemmas.Slice.Zip.{AllZip-long}
use Rattle.fb_read.specs.Blank.{Text}
use Rattle.fb_read.specs.Whole.{IsLibraryText}
use Rattle.fb_read_positions.specs.declared.position.Position.{Position}
use Rattle.fb_read_positions.specs.Places.{IsPlaceFor}
use Rattle.fb_read_positions.specs.declared.places.Place.{Place}
use Rattle.fb_why.specs.Findings.{FindsInBytes}
use Rattle.fb_why.specs.Marks.{IsMarkedPlace, IsUnmarked, is_of_expression}
use Rattle.fb_why.specs.Places.{HasNoPlace, HasNoPlaceBy, IsCheckedPlaceIf, IsPlaceBy, IsPlaceOf, IsPlacedFinding}
use Rattle.fb_why.specs.Positions.{IsNowhereIf, position_of}
use Rattle.fb_why.specs.declared.place.PlacedFinding.{PlacedFinding}
use Rattle.fb_check.specs.declared.location.Location.{Location}
use Rattle.fb_why.specs.declared.location.FindingLocation.{FindingLocation}
use Rattle.fb_why.specs.declared.location.FindingLocation.TheVariants as found

-- ---- Findings with their places

-- what is found in the deployment or in the stimuli has no place in the declaration
in_inputs : (number : ℕ) (text : Text) (deploy stimuli : Option Text) (l : FindingLocation) → FindsInBytes number deploy stimuli l → HasNoPlace text l
in_inputs number text deploy stimuli (found.Text p) (inl w) = w.2
in_inputs number text deploy stimuli (found.Text p) (inr w) = w.2
in_inputs number text deploy stimuli (found.Check p) (inl w) = absurd w.2
in_inputs number text deploy stimuli (found.Check p) (inr w) = absurd w.2
in_inputs number text deploy stimuli (found.Deployment p) w = tt
in_inputs number text deploy stimuli (found.Stimuli p) w = tt

pub is_elsewhere :
    (number : ℕ) (text : Text) (deploy stimuli : Option Text) (N : Type 0) (o : Option PlacedFinding) → IfSome o (λ r. r.place ≡ None)
    → MatchOption o N (λ r. FindsInBytes number deploy stimuli r.finding.location) → IfSome o (IsPlacedFinding text)
is_elsewhere number text deploy stimuli N None h finds = tt
is_elsewhere number text deploy stimuli N (Some r) h finds =
    subst (λ (q : Option Place). MatchOption q (HasNoPlace text r.finding.location) (IsPlaceOf text r.finding.location)) (sym h) (in_inputs number text deploy stimuli r.finding.location finds)

-- a location that is about no expression is shown at its position
pub shown_for :
    (text : Text) (library : Library) (location : Location) (p : Option Position) (place : Option Place) → IsLibraryText text library → position_of library location ≡ p → is_of_expression location ≡ false
    → IsPlaceFor text library p place → IsCheckedPlaceIf text location place
shown_for text library location None place read is whole holds =
    subst (λ (q : Option Place). IsCheckedPlaceIf text location q) (sym holds)
    (subst (λ (b : Bool). HasNoPlaceBy b text location) (sym whole)
    (record { library = library; read = read; nowhere = subst (λ (o : Option Position). IsNowhereIf text library o) (sym is) tt }))
shown_for text library location (Some p) None read is whole holds =
    subst (λ (b : Bool). HasNoPlaceBy b text location) (sym whole)
    (record { library = library; read = read; nowhere = subst (λ (o : Option Position). IsNowhereIf text library o) (sym is) holds })
shown_for text library location (Some p) (Some x) read is whole holds =
    subst (λ (b : Bool). IsPlaceBy b text location x) (sym whole) (record { library = library; read = read; position = p; position_is = is; placed = holds })

-- what is marked in an expression
pub marked_for : (text : Text) (location : Location) (place : Option Place) → is_of_expression location ≡ true → MatchOption place (IsUnmarked text location) (IsMarkedPlace text location) → IsCheckedPlaceIf text location place
marked_for text location None whole holds = subst (λ (b : Bool). HasNoPlaceBy b text location) (sym whole) holds
marked_for text location (Some x) whole holds = subst (λ (b : Bool). IsPlaceBy b text location x) (sym whole) holds

same_tail : (b c : Bool) → b || c ≡ false → c ≡ false
same_tail true c h = absurd (true≢false h)
same_tail false c h = h

same_head : (b c : Bool) → b || c ≡ false → b ≡ false
same_head true c h = h
same_head false c h = refl

-- locations of which none is about an expression
pub all_shown :
    (text : Text) (library : Library) (ls : List Location) (os : List (Option Place)) → IsLibraryText text library → list_any is_of_expression ls ≡ false
    → AllZip (IsPlaceFor text library) (map (position_of library) ls) os → AllZip (IsCheckedPlaceIf text) ls os
all_shown text library [] [] read none holds = tt
all_shown text library [] (o ∷ os) read none holds = absurd holds
all_shown text library (l ∷ ls) [] read none holds = absurd holds
all_shown text library (l ∷ ls) (o ∷ os) read none holds =
    let whole = same_head (is_of_expression l) (list_any is_of_expression ls) none in
    let rest = same_tail (is_of_expression l) (list_any is_of_expression ls) none in
    (shown_for text library l (position_of library l) o read refl whole holds.0, all_shown text library ls os read rest holds.1)

abbrev pub locations : List PlacedFinding → List FindingLocation
locations rs = map (λ r. r.finding.location) rs

abbrev pub places : List PlacedFinding → List (Option Place)
places rs = map (λ r. r.place) rs

abbrev checked : List Location → List FindingLocation
checked ls = map (λ p. found.Check p) ls

same_first : (x y : FindingLocation) (xs ys : List FindingLocation) → x ∷ xs ≡ y ∷ ys → x ≡ y
same_first x y xs ys h = cc

same_rest : (x y : FindingLocation) (xs ys : List FindingLocation) → x ∷ xs ≡ y ∷ ys → xs ≡ ys
same_rest x y xs ys h = cc

-- places at which locations are shown
each_placed : (text : Text) (rs : List PlacedFinding) (ls : List Location) → locations rs ≡ checked ls → AllZip (IsCheckedPlaceIf text) ls (places rs) → All (IsPlacedFinding text) rs
each_placed text [] ls located holds = All-nil (IsPlacedFinding text)
each_placed text (r ∷ rs) [] located holds = absurd holds
each_placed text (r ∷ rs) (l ∷ ls) located holds =
    All-cons (IsPlacedFinding text) r rs
    (subst (λ (x : FindingLocation). MatchOption r.place (HasNoPlace text x) (IsPlaceOf text x)) (sym (same_first r.finding.location (found.Check l) (locations rs) (checked ls) located)) holds.0)
    (each_placed text rs ls (same_rest r.finding.location (found.Check l) (locations rs) (checked ls) located) holds.1)

pub all_placed :
    (text : Text) (rs : List PlacedFinding) (ls : List Location) (os : List (Option Place)) → locations rs ≡ checked ls → places rs ≡ os → AllZip (IsCheckedPlaceIf text) ls os → All (IsPlacedFinding text) rs
all_placed text rs ls os located placed holds =
    each_placed text rs ls located (subst (λ (qs : List (Option Place)). AllZip (IsCheckedPlaceIf text) ls qs) (sym placed) holds)

-- the same places of the positions of locations
pub of_positions :
    (text : Text) (library : Library) (ls : List Location) (ps : List (Option Position)) (os : List (Option Place)) → ps ≡ map (position_of library) ls → AllZip (IsPlaceFor text library) ps os
    → AllZip (IsPlaceFor text library) (map (position_of library) ls) os
of_positions text library ls ps os are holds = subst (λ (qs : List (Option Position)). AllZip (IsPlaceFor text library) qs os) are holds

pub as_many : (text : Text) (ls : List Location) (os qs : List (Option Place)) → AllZip (IsCheckedPlaceIf text) ls os → qs ≡ os → length qs ≡ length ls
as_many text ls os qs holds same = ap (λ (xs : List (Option Place)). length xs) same ∙ AllZip-long (IsCheckedPlaceIf text) ls os holds

-- ---- Findings one after another

-- one location more
pub located :
    (all more : List PlacedFinding) (r : PlacedFinding) (ls : List Location) (i : ℕ) (x : Location) → i < length ls → x ≡ get_or ls i x → more ≡ all ++ r ∷ []
    → r.finding.location ≡ found.Check x → locations all ≡ checked (take i ls) → locations more ≡ checked (take (i + 1) ls)
located all more r ls i x within is added there before =
    let at : PlacedFinding → FindingLocation = λ r. r.finding.location in
    let by : Location → FindingLocation = λ p. found.Check p in
    ap (map at) added ∙ map-append at all (r ∷ []) ∙ (λ k. before k ++ (there ∙ ap by is) k ∷ []) ∙ sym (map-append by (take i ls) (get_or ls i x ∷ []))
    ∙ ap (map by) (sym (take_more ls i x within))

-- one place more
pub placed_more :
    (all more : List PlacedFinding) (r : PlacedFinding) (os : List (Option Place)) (i : ℕ) (x : Option Place) → i < length os → x ≡ get_or os i x → more ≡ all ++ r ∷ []
    → r.place ≡ x → places all ≡ take i os → places more ≡ take (i + 1) os
placed_more all more r os i x within is added there before =
    let at : PlacedFinding → Option Place = λ r. r.place in
    ap (map at) added ∙ map-append at all (r ∷ []) ∙ (λ k. before k ++ (there ∙ is) k ∷ []) ∙ sym (take_more os i x within)
