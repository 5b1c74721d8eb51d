-- The resources that list names, by the indexes of the names in all lists.
use Rattle.fb_check.proofs.lemmas.Common.{◌≡◌, ◌||◌, ℕ, zero, suc, ◌+◌, Bool, true, false, cond, List, [], ◌∷◌, ◌++◌, length, map, Option, Some, None, Bor, refl, sym, ◌∙◌, ap, arith, flat_map, is_some, option_map, position, slice_get, list_any, true≢false, Name, same_name, among, Twice, Instance, ResourceEntry, each_at, each_from, unless, owners_in}
use Rattle.std.specs.BTreeMap as tree
use Rattle.fb_types.proofs.lemmas.names.NameLaws.{contains_from_any}
use Rattle.fb_types.proofs.lemmas.lists.Options.{none_from_is_some}
use Rattle.fb_types.proofs.lemmas.lists.Positions.{position-cons}
use Rattle.fb_types.proofs.lemmas.lists.TwiceLaws.{Twice-append_right, Twice-both}
use Rattle.fb_check_names.specs.Repeats.{further, last_index, later}
use Rattle.fb_check_names.specs.declared.location.NotMappedAt.TheVariants.{Unlisted}
use Rattle.fb_check_names.proofs.lemmas.Listing.{alike}
use Rattle.fb_check_names.proofs.lemmas.twice.Repeating.{at_last_index}
use Rattle.fb_check_names.specs.Indexes.{AreLastIndexes}
use Rattle.fb_check.specs.networks.Mapping.{owned, unlisted_by}
use Rattle.fb_check.specs.networks.NotMapped.{unlisted_at}

-- ---- The last index

is_later : (o : Option ℕ) (b : Bool) → is_some (later (further o) (cond b (Some zero) None)) ≡ (b || is_some o)
is_later None true = refl
is_later None false = refl
is_later (Some k) true = refl
is_later (Some k) false = refl

is_some-last : {A : Type 0} (p : A → Bool) (xs : List A) → is_some (last_index p xs) ≡ list_any p xs
is_some-last p [] = refl
is_some-last p (x ∷ xs) = is_later (last_index p xs) (p x) ∙ ap (λ b. p x || b) (is_some-last p xs)

first_of : (n : ℕ) (o : Option ℕ) → further (option_map (λ k. n + k) o) ≡ option_map (λ k. suc n + k) o
first_of n None = refl
first_of n (Some k) = let e : n + k + 1 ≡ suc n + k = omega arith in ap (λ i. Some i) e

later_further : (o a c : Option ℕ) → later (further (later o a)) c ≡ later (further o) (later (further a) c)
later_further None a c = refl
later_further (Some k) a c = refl

none_further : (o : Option ℕ) → later (option_map (λ k. 0 + k) o) None ≡ o
none_further None = refl
none_further (Some k) = let e : 0 + k ≡ k = omega arith in ap (λ i. Some i) e

-- in two lists, one after the other
last_index-append :
    {A : Type 0} (p : A → Bool) (xs ys : List A) → last_index p (xs ++ ys) ≡ later (option_map (λ k. length xs + k) (last_index p ys)) (last_index p xs)
last_index-append p [] ys = sym (none_further (last_index p ys))
last_index-append p (x ∷ xs) ys =
    let here : Option ℕ = cond (p x) (Some 0) None in
    let there : Option ℕ = option_map (λ k. length xs + k) (last_index p ys) in
    ap (λ (o : Option ℕ). later (further o) here) (last_index-append p xs ys)
    ∙ later_further there (last_index p xs) here
    ∙ ap (λ (o : Option ℕ). later o (later (further (last_index p xs)) here)) (first_of (length xs) (last_index p ys))

-- ---- What is at an index

owner_here : {A : Type 0} (k : ℕ) (xs : List A) (os : List ℕ) (j : ℕ) (x : A) → slice_get xs j ≡ Some x → slice_get (map (λ n. k) xs ++ os) j ≡ Some k
owner_here k [] os j x h = absurd (cc)
owner_here k (y ∷ ys) os zero x h = refl
owner_here k (y ∷ ys) os (suc j) x h = owner_here k ys os j x h

owner_past : {A : Type 0} (k : ℕ) (xs : List A) (os : List ℕ) (j : ℕ) → slice_get (map (λ n. k) xs ++ os) (length xs + j) ≡ slice_get os j
owner_past k [] os j = let e : 0 + j ≡ j = omega arith in ap (λ i. slice_get os i) e
owner_past k (x ∷ xs) os j =
    let e : length (x ∷ xs) + j ≡ suc (length xs + j) = omega arith in
    ap (λ i. slice_get (map (λ n. k) (x ∷ xs) ++ os) i) e ∙ owner_past k xs os j

owned_past : {A : Type 0} (k : ℕ) (xs : List A) (os : List ℕ) (o : Option ℕ) → owned (map (λ n. k) xs ++ os) (later (option_map (λ j. length xs + j) o) None) ≡ owned os o
owned_past k xs os None = refl
owned_past k xs os (Some j) = owner_past k xs os j

next_number : (k : ℕ) (o : Option ℕ) → option_map (λ i. k + 1 + i) o ≡ option_map (λ i. k + i) (option_map (λ i. i + 1) o)
next_number k None = refl
next_number k (Some i) = let e : k + 1 + i ≡ k + (i + 1) = omega arith in ap (λ i. Some i) e

-- where no name is listed twice, the first resource that lists a name
owned_is :
    (k : ℕ) (rs : List ResourceEntry) (n : Name) → ¬ (Twice (flat_map (λ r. r.instances) rs))
    → owned (each_from owners_in k rs) (last_index (same_name n) (flat_map (λ r. r.instances) rs)) ≡ option_map (λ i. k + i) (position (λ r. among r.instances n) rs)
owned_is k [] n once = refl
owned_is k (r ∷ rs) n once =
    let p : Name → Bool = same_name n in
    let is_there : ResourceEntry → Bool = λ r. among r.instances n in
    let xs : List Name = r.instances in
    let ys : List Name = flat_map (λ r. r.instances) rs in
    let os : List ℕ = each_from owners_in (k + 1) rs in
    let after : Option ℕ = option_map (λ i. i + 1) (position is_there rs) in
    ap (owned (map (λ n. k) xs ++ os)) (last_index-append p xs ys)
    ∙ (elim (list_any p xs) as
    (λ b. list_any p xs ≡ b → owned (map (λ n. k) xs ++ os) (later (option_map (λ j. length xs + j) (last_index p ys)) (last_index p xs)) ≡ option_map (λ i. k + i) (cond b (Some 0) after)) [
      | true ↦ λ e.
          let absent : list_any p ys ≡ false =
          not_both (list_any p ys) (λ f. once (Twice-both xs ys n (contains_from_any n xs e) (contains_from_any n ys f))) in
          let nowhere : last_index p ys ≡ None = none_from_is_some (last_index p ys) (is_some-last p ys ∙ absent) in
          ap (λ (o : Option ℕ). owned (map (λ n. k) xs ++ os) (later (option_map (λ j. length xs + j) o) (last_index p xs))) nowhere
          ∙ at_first k p xs os (is_some-last p xs ∙ e)
      | false ↦ λ e.
          let nowhere : last_index p xs ≡ None = none_from_is_some (last_index p xs) (is_some-last p xs ∙ e) in
          ap (λ (o : Option ℕ). owned (map (λ n. k) xs ++ os) (later (option_map (λ j. length xs + j) (last_index p ys)) o)) nowhere
          ∙ owned_past k xs os (last_index p ys)
          ∙ owned_is (k + 1) rs n (λ t. once (Twice-append_right xs ys t))
          ∙ next_number k (position is_there rs)
    ] refl)
    ∙ ap (option_map (λ i. k + i)) (sym (position-cons is_there r rs))
  where
    not_both : (b : Bool) → (b ≡ true → ⊥) → b ≡ false
    not_both true h = absurd (h refl)
    not_both false h = refl

    at_first :
        (k : ℕ) (p : Name → Bool) (xs : List Name) (os : List ℕ) → is_some (last_index p xs) ≡ true
        → owned (map (λ n. k) xs ++ os) (last_index p xs) ≡ Some (k + 0)
    at_first k p xs os h =
        elim (last_index p xs) as (λ o. last_index p xs ≡ o → is_some o ≡ true → owned (map (λ n. k) xs ++ os) o ≡ Some (k + 0)) [
          | None ↦ λ e g. absurd (true≢false (sym g))
          | Some j ↦ λ e g.
              let at = at_last_index p xs j e in
              let same : k ≡ k + 0 = omega arith in
              owner_here k xs os j at.0 at.1 ∙ ap (λ i. Some i) same
        ] refl h

same_number : (o : Option ℕ) → option_map (λ i. 0 + i) o ≡ o
same_number None = refl
same_number (Some i) = let e : 0 + i ≡ i = omega arith in ap (λ i. Some i) e

pub first_owner :
    (rs : List ResourceEntry) (n : Name) → ¬ (Twice (flat_map (λ r. r.instances) rs))
    → owned (each_at owners_in rs) (last_index (same_name n) (flat_map (λ r. r.instances) rs)) ≡ position (λ r. among r.instances n) rs
first_owner rs n once = owned_is 0 rs n once ∙ same_number (position (λ r. among r.instances n) rs)

-- ---- Instances that no resource lists

pub unlisted_are :
    (m : tree.BTreeMap (Bor Name) ℕ) (ns : List Name) (is : List Instance) → AreLastIndexes ns m → each_at (unlisted_by m) is ≡ each_at (unlisted_at ns) is
unlisted_are m ns is indexes =
    alike (unlisted_by m) (unlisted_at ns) is (λ j x at. ap (λ (b : Bool). unless b (Unlisted j)) (ap is_some (indexes x.name) ∙ is_some-last (same_name x.name) ns))
