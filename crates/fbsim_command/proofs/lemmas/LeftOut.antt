-- The warnings that are left out, and the lines of the others, one after another.
use Rattle.fbsim_command.proofs.lemmas.Common.{◌≡◌, ◌⊎◌, ℕ, zero, suc, ◌+◌, ◌<◌, ◌≤◌, ◌&&◌, ◌||◌, nat_lt, Bool, true, false, List, [], ◌∷◌, ◌++◌, append-nil, get_or, length, take, Option, if◌then◌else◌, inl, inr, refl, sym, ◌∙◌, ap, subst, arith, take_more, take_all, Library, Place, Given}
use Rattle.fb_types.proofs.Common.{nat_le, ap₂, cases_lt, le-leb, le-ltb, lt-leb, lt-ltb, list_any-append, sum_by-cons, list_any}
use Rattle.fb_types.specs.declared.deploy.Stimulus.{Stimulus}
use Rattle.std.proofs.Common.{sum}
use Rattle.std.proofs.lemmas.List.Sums.{sum_by_more}
use Rattle.fb_lint.specs.Positions.{position_of}
use Rattle.fb_lint.specs.declared.warning.Warning.{Warning}
use Rattle.fb_read_positions.specs.Places.{IsPlaceFor}
use Rattle.fbsim_command.specs.Joining.{IsLineOf}
use Rattle.fbsim_command.specs.Selecting.{is_selected}
use Rattle.fbsim_command.specs.WarningLines.{AreKept, AreLines, AreSorted, IsAdded, Naming, is_left_out}
use Rattle.fbsim_command.specs.declared.selectors.Sorting.{Sorting}
use Rattle.fbsim_command.proofs.lemmas.files.PlacedLines.{lines_push}

-- ---- Lines of files of block types

sums-rise : (lines : List ℕ) (a b : ℕ) → a ≤ b → sum (take a lines) ≤ sum (take b lines)
sums-rise lines zero b le = let none : sum (take 0 lines) ≡ 0 = refl in omega (arith, none)
sums-rise lines (suc a) zero le = absurd (omega (arith, le))
sums-rise [] (suc a) (suc b) le = let none : sum (take (suc a) []) ≡ 0 = refl in omega (arith, none)
sums-rise (x ∷ xs) (suc a) (suc b) le =
    let rest = sums-rise xs a b (omega (arith, le)) in
    let first = sum_by-cons (λ (k : ℕ). k) x (take a xs) in
    let second = sum_by-cons (λ (k : ℕ). k) x (take b xs) in
    omega (arith, rest, first, second)

-- a line of a file is among those of the first files
among : (lines : List ℕ) (t whole file own : ℕ) → IsLineOf lines whole file own → file < t → whole ≤ sum (take t lines)
among lines t whole file own is within =
    let one : sum (take (file + 1) lines) ≡ sum (take file lines) + get_or lines file 0 = sum_by_more (λ x. x) lines file 0 is.there in
    let more : sum (take (file + 1) lines) ≤ sum (take t lines) = sums-rise lines (file + 1) t (omega (arith, within)) in
    let last = is.last in
    let sum_is = is.sum_is in
    omega arith

-- or comes after them
past : (lines : List ℕ) (t whole file own : ℕ) → IsLineOf lines whole file own → t ≤ file → sum (take t lines) < whole
past lines t whole file own is beyond =
    let more : sum (take t lines) ≤ sum (take file lines) = sums-rise lines t file beyond in
    let first = is.first in
    let sum_is = is.sum_is in
    omega arith

pub in-types : (lines : List ℕ) (t whole file own : ℕ) → IsLineOf lines whole file own → nat_lt file t ≡ (nat_lt 0 whole && nat_le whole (sum (take t lines)))
in-types lines t whole file own is = go (cases_lt file t)
  where
    some : 0 < whole
    some = let first = is.first in let sum_is = is.sum_is in omega arith

    go : ((file < t) ⊎ (t ≤ file)) → nat_lt file t ≡ (nat_lt 0 whole && nat_le whole (sum (take t lines)))
    go (inl within) =
        lt-ltb file t within
        ∙ sym (ap₂ (λ (a b : Bool). a && b) (lt-ltb 0 whole some) (le-leb whole (sum (take t lines)) (among lines t whole file own is within)))
    go (inr beyond) =
        le-ltb file t beyond
        ∙ sym (ap₂ (λ (a b : Bool). a && b) (lt-ltb 0 whole some) (lt-leb whole (sum (take t lines)) (past lines t whole file own is beyond)))

-- ---- Warnings

or-false : (b : Bool) → (b || false) ≡ b
or-false true = refl
or-false false = refl

if-append : {A : Type 0} (b : Bool) (ks : List A) (v : A) (xs : List A) → (if b then ks else v ∷ ks) ++ xs ≡ (if b then ks ++ xs else v ∷ (ks ++ xs))
if-append true ks v xs = refl
if-append false ks v xs = refl

module _ (n : Naming) (given : Given) (s : Sorting) (library : Library) (stimuli : List Stimulus) where
  abbrev Kept : List Warning → List Warning → Type 0
  Kept ws kept = AreKept n given s library stimuli ws kept

  abbrev left : Warning → Option Place → Bool
  left w at = is_left_out n s library stimuli w at

  -- one more, which is left out or not
  kept-push :
      (ws : List Warning) (w : Warning) (at : Option Place) (kept : List Warning) → Kept ws kept → IsPlaceFor given.declaration library (position_of w) at
      → Kept (ws ++ w ∷ []) (kept ++ (if left w at then [] else w ∷ []))
  kept-push [] w at kept none placed = (at, [], placed, refl, ap (λ (ks : List Warning). ks ++ (if left w at then [] else w ∷ [])) none)
  kept-push (v ∷ ws) w at kept are placed =
      let more : List Warning = if left w at then [] else w ∷ [] in
      (are.0, are.1 ++ more, are.2, kept-push ws w at are.1 are.3 placed, ap (λ (ks : List Warning). ks ++ more) are.4 ∙ if-append (left v are.0) are.1 v more)

  abbrev pub Sorted : List Warning → List ℕ → Bool → Type 0
  Sorted ws text denied = AreSorted n given s library stimuli ws text denied

  pub sorted-left :
      (ws : List Warning) (i : ℕ) (d : Warning) (at : Option Place) (text : List ℕ) (denied : Bool) → i < length ws → IsPlaceFor given.declaration library (position_of (get_or ws i d)) at
      → left (get_or ws i d) at ≡ true → Sorted (take i ws) text denied → Sorted (take (i + 1) ws) text denied
  sorted-left ws i d at text denied within placed is_left before =
      let w = get_or ws i d in
      let same : before.kept ++ (if left w at then [] else w ∷ []) ≡ before.kept = ap (λ (b : Bool). before.kept ++ (if b then [] else w ∷ [])) is_left ∙ append-nil before.kept in
      subst (λ (vs : List Warning). Sorted vs text denied) (sym (take_more ws i d within)) (record {
        kept = before.kept;
        are_kept = subst (λ (ks : List Warning). Kept (take i ws ++ w ∷ []) ks) same (kept-push (take i ws) w at before.kept before.are_kept placed);
        lines = before.lines;
        is_denied = before.is_denied;
      })

  pub sorted-next :
      (ws : List Warning) (i : ℕ) (d : Warning) (at : Option Place) (old new : List ℕ) (denied now : Bool) (own : Library) → i < length ws
      → IsPlaceFor given.declaration library (position_of (get_or ws i d)) at → left (get_or ws i d) at ≡ false → own ≡ library → IsAdded n given own (get_or ws i d) old new
      → now ≡ (denied || is_selected s.denied.items library stimuli (get_or ws i d)) → Sorted (take i ws) old denied → Sorted (take (i + 1) ws) new now
  sorted-next ws i d at old new denied now own within placed is_left same_library is_added is before =
      let w = get_or ws i d in
      let added : IsAdded n given library w old new = subst (λ (l : Library). IsAdded n given l w old new) same_library is_added in
      let kept = before.kept ++ w ∷ [] in
      let test = is_selected s.denied.items library stimuli in
      let same : before.kept ++ (if left w at then [] else w ∷ []) ≡ kept = ap (λ (b : Bool). before.kept ++ (if b then [] else w ∷ [])) is_left in
      subst (λ (vs : List Warning). Sorted vs new now) (sym (take_more ws i d within)) (record {
        kept = kept;
        are_kept = subst (λ (ks : List Warning). Kept (take i ws ++ w ∷ []) ks) same (kept-push (take i ws) w at before.kept before.are_kept placed);
        lines = subst (λ (t : List ℕ). AreLines n given library kept t) (sym added.2) (lines_push n given library before.kept w old added.0 before.lines added.1);
        is_denied = is ∙ ap (λ (b : Bool). b || test w) before.is_denied ∙ ap (λ (b : Bool). list_any test before.kept || b) (sym (or-false (test w))) ∙ sym (list_any-append test before.kept (w ∷ []));
      })

  pub sorted-all : (ws : List Warning) (i : ℕ) (text : List ℕ) (denied : Bool) → length ws ≤ i → Sorted (take i ws) text denied → Sorted ws text denied
  sorted-all ws i text denied past are = subst (λ (vs : List Warning). Sorted vs text denied) (take_all i ws past) are
