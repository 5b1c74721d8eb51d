-- The networks of the first block types by numbers.
use Rattle.fb_check.proofs.lemmas.Common.{◌≡◌, ℕ, zero, suc, ◌<◌, ◌+◌, List, [], ◌∷◌, ◌++◌, length, get_or, Some, Option, refl, sym, ◌∙◌, ap, subst, arith, slice_get, slice_get_read, same_Some, instance_names, BlockType, CompositeType, Library, IsIndex, NetworkNumbers, each_at, each_from}
use Rattle.fb_types.proofs.Common.{length-append, slice_get_within}
use Rattle.fb_types.specs.declared.library.BlockType.TheVariants as block
use Rattle.fb_check_names.specs.declared.catalog.BlockIndexes.{BlockIndexes}
use Rattle.fb_check_names.specs.declared.catalog.Catalog.{Catalog}
use Rattle.fb_check_names.specs.PortKinds.{AreIndexesOf}
use Rattle.fb_check_names.specs.Types.{HasTypes}
use Rattle.fb_check_names.specs.Unknown.{AreBlocks, IsBlockNumbers}
use Rattle.fb_types.proofs.lemmas.lists.ByIndex.{slice_get-push, element_at}
use Rattle.fb_check_names.proofs.lemmas.numbers.Lookups.{block_indexes}
use Rattle.fb_check_names.proofs.lemmas.Listing.{none_left, none_right}

-- those of the first n types
pub record AreFirst (lib : Library) (n : ℕ) (all : List (Option NetworkNumbers)) : Type 0 where
  pub counted : length all ≡ n
  pub each : (k : ℕ) (o : Option NetworkNumbers) → slice_get all k ≡ Some o → (t : BlockType) → slice_get lib.blocks k ≡ Some t → IsBlockNumbers lib t o

pub first_none : (lib : Library) (all : List (Option NetworkNumbers)) → all ≡ [] → AreFirst lib 0 all
first_none lib all e =
    subst (λ (xs : List (Option NetworkNumbers)). AreFirst lib 0 xs) (sym e) (record { counted = refl; each = λ k o h t g. absurd (cc) })

first_more :
    (lib : Library) (n : ℕ) (t : BlockType) (o : Option NetworkNumbers) (all more : List (Option NetworkNumbers)) → slice_get lib.blocks n ≡ Some t
    → IsBlockNumbers lib t o → AreFirst lib n all → more ≡ all ++ o ∷ [] → AreFirst lib (n + 1) more
first_more lib n t o all more at is so_far grown =
    let P : ℕ → Option NetworkNumbers → Type 0 = λ k o. (t : BlockType) → slice_get lib.blocks k ≡ Some t → IsBlockNumbers lib t o in
    let here : P n o = λ u h. subst (λ (t : BlockType). IsBlockNumbers lib t o) (same_Some t u (sym at ∙ h)) is in
    subst (λ (xs : List (Option NetworkNumbers)). AreFirst lib (n + 1) xs) (sym grown) (record {
      counted = length-append all (o ∷ []) ∙ ap (λ n. n + 1) so_far.counted;
      each = slice_get-push P all o so_far.each (subst (λ (k : ℕ). P k o) (sym so_far.counted) here);
    })

-- the type that a loop over the types has reached
pub reached : (lib : Library) (bs : List BlockType) (n : ℕ) (b : BlockType) → bs ≡ lib.blocks → n < length bs → b ≡ get_or bs n b → slice_get lib.blocks n ≡ Some b
reached lib bs n b e h at = ap (λ (bs : List BlockType). slice_get bs n) (sym e) ∙ slice_get_read bs (length bs) n b refl h at

-- the step of a loop over the types
pub next_block :
    (lib : Library) (bs : List BlockType) (n : ℕ) (b : BlockType) (o : Option NetworkNumbers) (all more : List (Option NetworkNumbers)) → bs ≡ lib.blocks
    → n < length bs → b ≡ get_or bs n b → IsBlockNumbers lib b o → AreFirst lib n all → more ≡ all ++ o ∷ [] → AreFirst lib (n + 1) more
next_block lib bs n b o all more e h at is so_far grown = first_more lib n b o all more (reached lib bs n b e h at) is so_far grown

pub has_indexes : (lib : Library) (c : Catalog) (n : ℕ) (t : BlockType) → HasTypes lib c → slice_get lib.blocks n ≡ Some t → n < length c.blocks.items
has_indexes lib c n t has at = subst (λ (m : ℕ). n < m) (sym has.counted) (slice_get_within lib.blocks n t at)

-- the indexes of its ports and of its instances
pub composite_ports :
    (lib : Library) (c : Catalog) (n : ℕ) (t : CompositeType) (x : BlockIndexes) → HasTypes lib c → slice_get lib.blocks n ≡ Some (block.Composite t)
    → x ≡ get_or c.blocks.items n x → AreIndexesOf t.ports x.ports
composite_ports lib c n t x has at there =
    block_indexes lib c c.blocks.items n (block.Composite t) x t.ports has at refl (has_indexes lib c n (block.Composite t) has at) there refl

pub composite_instances :
    (lib : Library) (c : Catalog) (n : ℕ) (t : CompositeType) (x : BlockIndexes) → HasTypes lib c → slice_get lib.blocks n ≡ Some (block.Composite t)
    → x ≡ get_or c.blocks.items n x → IsIndex (instance_names t.network) x.instances
composite_instances lib c n t x has at there =
    (has.blocks n (block.Composite t) x at
    (slice_get_read c.blocks.items (length c.blocks.items) n x refl (has_indexes lib c n (block.Composite t) has at) there)).instances

pub first_all : (lib : Library) (n : ℕ) (all : List (Option NetworkNumbers)) → n ≡ length lib.blocks → AreFirst lib n all → AreBlocks lib all
first_all lib n all counted are =
    let there = λ (k : ℕ) (t : BlockType) (h : slice_get lib.blocks k ≡ Some t).
    element_at all k (subst (λ (n : ℕ). k < n) (sym (are.counted ∙ counted)) (slice_get_within lib.blocks k t h)) in
    record {
      counted = are.counted ∙ counted;
      basics = λ k t h.
          let o = there k (block.Basic t) h in
          o.1 ∙ ap (λ (o : Option NetworkNumbers). Some o) (are.each k o.0 o.1 (block.Basic t) h);
      composites = λ k t h.
          let o = there k (block.Composite t) h in
          let x = are.each k o.0 o.1 (block.Composite t) h in
          (x.0, o.1 ∙ ap (λ (o : Option NetworkNumbers). Some o) x.1, x.2);
    }

none_at_from : {A B : Type 0} (f : ℕ → A → List B) (xs : List A) (k j : ℕ) (x : A) → slice_get xs j ≡ Some x → each_from f k xs ≡ [] → f (k + j) x ≡ []
none_at_from f [] k j x at h = absurd (cc)
none_at_from {A} {B} f (y ∷ ys) k zero x at h =
    subst (λ (n : ℕ). f n x ≡ []) (omega arith) (subst (λ (z : A). f k z ≡ []) (same_Some y x at) (none_left (f k y) (each_from f (k + 1) ys) h))
none_at_from {A} {B} f (y ∷ ys) k (suc j) x at h =
    subst (λ (n : ℕ). f n x ≡ []) (omega arith) (none_at_from f ys (k + 1) j x at (none_right (f k y) (each_from f (k + 1) ys) h))

-- where nothing is listed, nothing is at an index
pub none_at_index : {A B : Type 0} (f : ℕ → A → List B) (xs : List A) (j : ℕ) (x : A) → slice_get xs j ≡ Some x → each_at f xs ≡ [] → f j x ≡ []
none_at_index f xs j x at h = subst (λ (n : ℕ). f n x ≡ []) (omega arith) (none_at_from f xs 0 j x at h)
