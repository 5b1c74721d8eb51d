-- E30 by number: the instances that are counted after a number of rounds are those with paths at most that deep.
use Rattle.fb_check.proofs.lemmas.Common.{◌≡◌, ℕ, zero, suc, ◌+◌, ◌<◌, List, [], ◌∷◌, map, length, Option, Some, None, refl, sym, ◌∙◌, ap, subst, arith, slice_get, option_map, option_and_then, unwrap_or, flat_map, ◌↔◌, IsTrue, nat_tests, slice_get-map, kind_of, Library, BlockType, CompositeType, Instance, Plan, TypeNumber, NetworkNumbers, Resolved, IsNetwork, IsResolved, each_or_none, type_number, kind_of_number}
use Rattle.fb_types.proofs.Common.{min, nat_lt, length-append, sum_by-cons, Path, network_of, inside, paths_inside, paths_of}
use Rattle.fb_types.specs.declared.library.Network.{Network}
use Rattle.std.specs.List.{sum_by}
use Rattle.fb_types.specs.declared.library.BlockType.TheVariants as block
use Rattle.fb_check_names.specs.declared.numbers.TypeNumber.TheVariants as number
use Rattle.fb_check.specs.networks.Counts.{inside_count, count_of, count_inside, no_count, counts_after}
use Rattle.fb_check_names.proofs.lemmas.Each.{each_parts}
use Rattle.fb_check.proofs.lemmas.networks.Lists.{past_both}
use Rattle.fb_check.proofs.lemmas.networks.Naming.{type_by_number}

-- ---- Counts

-- the paths inside an instance, if its type has a network
abbrev inner : ℕ → Library → Path → Option Network → List Path
inner steps lib p o = elim o [ None ↦ [] | Some net ↦ paths_inside steps lib p net ]

abbrev capped : ℕ → ℕ
capped n = min n 4097

-- The count of a composite type is that of the paths inside it of this depth, and no other type has any.
abbrev CountOf : Library → ℕ → Option BlockType → ℕ → Type 0
CountOf lib steps None c = c ≡ 0
CountOf lib steps (Some (block.Basic t)) c = c ≡ 0
CountOf lib steps (Some (block.Composite t)) c = (p : Path) → c ≡ capped (length (paths_inside steps lib p t.network))

pub record AreCounts (lib : Library) (steps : ℕ) (counts : List ℕ) : Type 0 where
  pub each : (k : ℕ) → CountOf lib steps (slice_get lib.blocks k) (unwrap_or (slice_get counts k) 0)

-- ---- A round

count_from_block :
    (lib : Library) (steps : ℕ) (o : Option BlockType) (c : ℕ) (p : Path) → CountOf lib steps o c
    → c ≡ capped (length (inner steps lib p (option_and_then network_of (option_map kind_of o))))
count_from_block lib steps None c p is = is
count_from_block lib steps (Some (block.Basic t)) c p is = is
count_from_block lib steps (Some (block.Composite t)) c p is = is p

count_from_number :
    (lib : Library) (steps : ℕ) (counts : List ℕ) (t : TypeNumber) (p : Path) → AreCounts lib steps counts
    → inside_count counts t ≡ capped (length (inner steps lib p (option_and_then network_of (kind_of_number lib t))))
count_from_number lib steps counts (number.Event k) p are = refl
count_from_number lib steps counts (number.Declared d) p are =
    count_from_block lib steps (slice_get lib.blocks d) (unwrap_or (slice_get counts d) 0) p (are.each d)

one_more : (a l s m : ℕ) → a ≡ capped l → capped s ≡ capped m → capped (a + 1 + s) ≡ capped (suc l + m)
one_more a l s m h g = omega arith

abbrev paths_from : ℕ → Library → Path → Instance → List Path
paths_from steps lib p i = (i.name ∷ p) ∷ inner steps lib (i.name ∷ p) (inside lib i)

instances_count :
    (lib : Library) (steps : ℕ) (counts : List ℕ) (p : Path) (is : List Instance) (ts : List TypeNumber) → AreCounts lib steps counts
    → each_or_none (λ i. type_number lib i.block_type) is ≡ Some ts → count_of counts ts ≡ capped (length (flat_map (paths_from steps lib p) is))
instances_count lib steps counts p [] ts are h =
    let none : [] ≡ ts = cc in ap (count_of counts) (sym none)
instances_count lib steps counts p (i ∷ is) ts are h =
    let r = each_parts (λ (i : Instance). type_number lib i.block_type) i is ts h in
    let f : TypeNumber → ℕ = λ t. inside_count counts t + 1 in
    let q : Path = i.name ∷ p in
    let inside_is : inside lib i ≡ option_and_then network_of (kind_of_number lib r.0) =
    ap (option_and_then network_of) (type_by_number lib i.block_type r.0 r.2) in
    let first : inside_count counts r.0 ≡ capped (length (inner steps lib q (inside lib i))) =
    count_from_number lib steps counts r.0 q are ∙ ap (λ (o : Option Network). capped (length (inner steps lib q o))) (sym inside_is) in
    let rest = instances_count lib steps counts p is r.1 are r.3 in
    ap (count_of counts) r.4
    ∙ ap capped (sum_by-cons f r.0 r.1)
    ∙ one_more (inside_count counts r.0) (length (inner steps lib q (inside lib i))) (sum_by f r.1) (length (flat_map (paths_from steps lib p) is)) first rest
    ∙ ap capped (sym (length-append (paths_from steps lib p i) (flat_map (paths_from steps lib p) is)))

pub network_count :
    (lib : Library) (steps : ℕ) (counts : List ℕ) (p : Path) (net : Network) (ts : List TypeNumber) → AreCounts lib steps counts
    → each_or_none (λ i. type_number lib i.block_type) net.instances ≡ Some ts → count_of counts ts ≡ capped (length (paths_inside (suc steps) lib p net))
network_count lib steps counts p net ts are h = instances_count lib steps counts p net.instances ts are h

-- counts by what is known of each block type's network
counts_of :
    (lib : Library) (plan : Plan) (r : Resolved) (steps : ℕ) (f : Option NetworkNumbers → ℕ) → IsResolved lib plan r → f None ≡ 0
    → ((t : CompositeType) (x : NetworkNumbers) → IsNetwork lib (Some t, t.network) x → (p : Path) → f (Some x) ≡ capped (length (paths_inside steps lib p t.network)))
    → AreCounts lib steps (map f r.blocks)
counts_of lib plan r steps f is none some = record {
  each = λ k.
      let Q : Option BlockType → Option (Option NetworkNumbers) → Type 0 = λ o p. CountOf lib steps o (unwrap_or (option_map f p) 0) in
      let P : Option ℕ → Type 0 = λ p. CountOf lib steps (slice_get lib.blocks k) (unwrap_or p 0) in
      subst P (sym (slice_get-map f r.blocks k))
      (elim (slice_get lib.blocks k) as (λ o. slice_get lib.blocks k ≡ o → Q o (slice_get r.blocks k)) [
        | None ↦ λ e. subst (λ (p : Option (Option NetworkNumbers)). Q None p) (sym (past_both r.blocks lib.blocks k is.counted e)) refl
        | Some b ↦ λ e. at_block lib plan r steps f is none some k b e
      ] refl);
}
  where
    at_block :
        (lib : Library) (plan : Plan) (r : Resolved) (steps : ℕ) (f : Option NetworkNumbers → ℕ) → IsResolved lib plan r → f None ≡ 0
        → ((t : CompositeType) (x : NetworkNumbers) → IsNetwork lib (Some t, t.network) x → (p : Path) → f (Some x) ≡ capped (length (paths_inside steps lib p t.network)))
        → (k : ℕ) (b : BlockType) → slice_get lib.blocks k ≡ Some b → CountOf lib steps (Some b) (unwrap_or (option_map f (slice_get r.blocks k)) 0)
    at_block lib plan r steps f is none some k (block.Basic t) e =
        ap (λ (p : Option (Option NetworkNumbers)). unwrap_or (option_map f p) 0) (is.basics k t e) ∙ none
    at_block lib plan r steps f is none some k (block.Composite t) e =
        let c = is.composites k t e in
        λ p. ap (λ (q : Option (Option NetworkNumbers)). unwrap_or (option_map f q) 0) c.1 ∙ some t c.0 c.2 p

counts_right : (lib : Library) (plan : Plan) (r : Resolved) (n : ℕ) → IsResolved lib plan r → AreCounts lib n (counts_after n r.blocks)
counts_right lib plan r zero is = counts_of lib plan r zero no_count is refl (λ t x _ p. refl)
counts_right lib plan r (suc n) is =
    let before = counts_right lib plan r n is in
    counts_of lib plan r (suc n) (count_inside (counts_after n r.blocks)) is refl
    (λ t x net p. network_count lib n (counts_after n r.blocks) p t.network x.types before net.types)

-- one more round of a loop
pub counts_more :
    (xs : List (Option NetworkNumbers)) (n : ℕ) (counts seen more : List ℕ) → counts ≡ counts_after n xs → seen ≡ counts → more ≡ map (count_inside seen) xs
    → more ≡ counts_after (n + 1) xs
counts_more xs n counts seen more h same e =
    let one : suc n ≡ n + 1 = omega arith in
    e ∙ ap (λ (cs : List ℕ). map (count_inside cs) xs) (same ∙ h) ∙ ap (λ n. counts_after n xs) one

pub counts_done : (xs : List (Option NetworkNumbers)) (n m : ℕ) (counts : List ℕ) → counts ≡ counts_after n xs → n ≡ m → counts ≡ counts_after m xs
counts_done xs n m counts h e = h ∙ ap (λ n. counts_after n xs) e

-- ---- The result

over_limit : (c n : ℕ) → c ≡ capped n → IsTrue (nat_lt 4096 c) ↔ (4096 < n)
over_limit c n e = (λ h. grind (arith, nat_tests), λ h. grind (arith, nat_tests))

-- the result of the counts after 16 rounds
pub counts_answer :
    (lib : Library) (plan : Plan) (r : Resolved) (xs : List (Option NetworkNumbers)) (counts seen : List ℕ) (ts : List TypeNumber) (c : ℕ) → xs ≡ r.blocks
    → counts ≡ counts_after 16 xs → seen ≡ counts → ts ≡ r.application.types → c ≡ count_of seen ts → IsResolved lib plan r
    → IsTrue (nat_lt 4096 c) ↔ (4096 < length (paths_of lib))
counts_answer lib plan r xs counts seen ts c blocks after same types says is =
    let counts_are : seen ≡ counts_after 16 r.blocks = same ∙ after ∙ ap (counts_after 16) blocks in
    over_limit c (length (paths_of lib))
    (says ∙ ap (λ (cs : List ℕ). count_of cs ts) counts_are ∙ ap (count_of (counts_after 16 r.blocks)) types
    ∙ network_count lib 16 (counts_after 16 r.blocks) [] lib.application.network r.application.types (counts_right lib plan r 16 is) is.application.types)
