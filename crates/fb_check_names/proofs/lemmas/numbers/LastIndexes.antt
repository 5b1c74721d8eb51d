-- Of names that differ, the last index of each is its index.
use Rattle.fb_types.proofs.Common.{◌≡◌, ℕ, ◌+◌, Bool, true, false, nat_eq, cond, List, [], ◌∷◌, length, Option, Some, None, Contains, Bor, refl, sym, ◌∙◌, ap, subst, inl, inr, position, option_map, BTreeMap, lookup, is_eq, eqb-true, true≢false, nil_from_length, Name, same_name, Twice}
use Rattle.fb_types.specs.NameOrder.{name_cmp}
use Rattle.fb_types.proofs.lemmas.lists.ByIndex.{element_of_index}
use Rattle.fb_types.proofs.lemmas.names.NameLaws.{same_from_same_name, same_name-Decides}
use Rattle.fb_types.proofs.lemmas.lists.Positions.{position-first, position-later}
use Rattle.fb_check_names.specs.Repeats.{IsPair, further, later, last_index, repeats}
use Rattle.fb_check_names.proofs.lemmas.Listing.{some_says}
use Rattle.fb_check_names.proofs.lemmas.twice.Repeating.{each_pair, once_of, pair_twice, at_last_index}
use Rattle.fb_check_names.specs.Indexes.{AreLastIndexes, IsIndex}

last_nowhere : (n : Name) (ns : List Name) → ¬ (Contains ns n) → last_index (same_name n) ns ≡ None
last_nowhere n ns absent =
    elim (last_index (same_name n) ns) as (λ o. last_index (same_name n) ns ≡ o → o ≡ None) [
      | None ↦ λ e. refl
      | Some k ↦ λ e.
          let at = at_last_index (same_name n) ns k e in
          absurd (absent (subst (λ (m : Name). Contains ns m) (sym (same_from_same_name n at.0 at.2)) (element_of_index ns k at.0 at.1)))
    ] refl

further_only : (o : Option ℕ) → later (further o) None ≡ option_map (λ i. i + 1) o
further_only None = refl
further_only (Some k) = refl

last_is_first : (n : Name) (ns : List Name) → ¬ (Twice ns) → last_index (same_name n) ns ≡ position (same_name n) ns
last_is_first n [] once = refl
last_is_first n (m ∷ ns) once =
    elim (same_name n m) as (λ b. same_name n m ≡ b → later (further (last_index (same_name n) ns)) (cond b (Some 0) None) ≡ position (same_name n) (m ∷ ns)) [
      | true ↦ λ e.
          let absent : ¬ (Contains ns n) = λ c. once (inl (subst (λ (k : Name). Contains ns k) (same_from_same_name n m e) c)) in
          ap (λ (o : Option ℕ). later (further o) (Some 0)) (last_nowhere n ns absent) ∙ sym (position-first (same_name n) m ns e)
      | false ↦ λ e.
          ap (λ (o : Option ℕ). later (further o) None) (last_is_first n ns (λ t. once (inr t))) ∙ further_only (position (same_name n) ns)
          ∙ sym (position-later (same_name n) m ns e)
    ] refl

pub index_of_last : (ns : List Name) (m : BTreeMap (Bor Name) ℕ) → AreLastIndexes ns m → ¬ (Twice ns) → IsIndex ns m
index_of_last ns m are once = record {
  once = once;
  index = λ n. are n ∙ last_is_first n ns once;
}

-- what it says of the names that their pairs are there, or not
pub pairs_say : (ns : List Name) (ps : List (ℕ × ℕ)) (n : ℕ) (b : Bool) → ps ≡ repeats same_name ns → n ≡ length ps → b ≡ nat_eq n 0 → b ≡ false → Twice ns
pairs_say ns ps n b all counted is some =
    some_says (IsPair ns) (repeats same_name ns) (pair_twice ns) (each_pair same_name same_name-Decides ns)
    (λ none. true≢false (sym (ap (λ m. nat_eq m 0) (counted ∙ ap length (all ∙ none))) ∙ sym is ∙ some))

pub no_pairs_say : (ns : List Name) (ps : List (ℕ × ℕ)) (n : ℕ) (b : Bool) → ps ≡ repeats same_name ns → n ≡ length ps → b ≡ nat_eq n 0 → b ≡ true → ¬ (Twice ns)
no_pairs_say ns ps n b all counted is none =
    once_of same_name same_name-Decides ns (sym all ∙ nil_from_length ps (sym counted ∙ eqb-true n 0 (sym is ∙ none)))

pub index_none : (m : BTreeMap (Bor Name) ℕ) → m.entries ≡ [] → IsIndex [] m
index_none m e = record {
  once = λ t. t;
  index = λ n. ap (lookup (λ (k : Bor Name). is_eq (name_cmp n k.now))) e;
}
