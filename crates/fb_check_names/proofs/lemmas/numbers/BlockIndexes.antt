-- The indexes of block types, one more at a time.
use Rattle.fb_types.proofs.Common.{◌≡◌, ℕ, zero, suc, ◌<◌, ◌+◌, List, [], ◌∷◌, ◌++◌, length, take, get_or, Some, sym, ◌∙◌, ap, append_assoc, subst, length-append, slice_get, take_more}
use Rattle.fb_types.specs.declared.library.BlockType.{BlockType}
use Rattle.fb_check_names.specs.declared.catalog.BlockIndexes.{BlockIndexes}
use Rattle.fb_check_names.specs.Catalog.{IsBlock}
use Rattle.fb_check_names.specs.GivenTwice.{AreBlocks, BlockTwice}

abbrev IsIt : BlockType → BlockIndexes → Type 0
IsIt t x = ¬ (BlockTwice t) → IsBlock t x

push_each :
    (ts : List BlockType) (xs : List BlockIndexes) (t : BlockType) (x : BlockIndexes) → length xs ≡ length ts
    → ((k : ℕ) (t : BlockType) (x : BlockIndexes) → slice_get ts k ≡ Some t → slice_get xs k ≡ Some x → IsIt t x) → IsIt t x
    → (k : ℕ) (u : BlockType) (y : BlockIndexes) → slice_get (ts ++ t ∷ []) k ≡ Some u → slice_get (xs ++ x ∷ []) k ≡ Some y → IsIt u y
push_each [] [] t x counted each is zero u y h g =
    let e : t ≡ u = cc in
    let f : x ≡ y = cc in
    subst (λ (u : BlockType). IsIt u y) e (subst (λ (y : BlockIndexes). IsIt t y) f is)
push_each [] [] t x counted each is (suc k) u y h g = absurd (cc)
push_each [] (z ∷ xs) t x counted each is k u y h g = absurd (cc)
push_each (s ∷ ts) [] t x counted each is k u y h g = absurd (cc)
push_each (s ∷ ts) (z ∷ xs) t x counted each is zero u y h g = each zero u y h g
push_each (s ∷ ts) (z ∷ xs) t x counted each is (suc k) u y h g =
    let same : length xs ≡ length ts = cc in
    push_each ts xs t x same (λ k. each (suc k)) is k u y h g

pub blocks_none : (ts : List BlockType) (xs : List BlockIndexes) → xs ≡ [] → AreBlocks (take zero ts) xs
blocks_none ts xs none = record {
  counted = ap length none;
  each = λ k t x h. absurd (cc);
}

pub blocks_more :
    (ts : List BlockType) (i : ℕ) (t : BlockType) (xs zs : List BlockIndexes) (x : BlockIndexes) → i < length ts → t ≡ get_or ts i t
    → AreBlocks (take i ts) xs → IsIt t x → zs ≡ xs ++ x ∷ [] → AreBlocks (take (i + 1) ts) zs
blocks_more ts i t xs zs x h e so_far is grown =
    let more : take (i + 1) ts ≡ take i ts ++ t ∷ [] = take_more ts i t h ∙ ap (λ (u : BlockType). take i ts ++ u ∷ []) (sym e) in
    let P : List BlockType → Type 0 = λ ts. AreBlocks ts zs in
    let Q : List BlockIndexes → Type 0 = λ zs. AreBlocks (take i ts ++ t ∷ []) zs in
    subst P (sym more) (subst Q (sym grown) (record {
      counted = length-append xs (x ∷ []) ∙ ap (λ n. n + 1) so_far.counted ∙ sym (length-append (take i ts) (t ∷ []));
      each = push_each (take i ts) xs t x so_far.counted so_far.each is;
    }))

-- ---- What is added one after another

-- three lists
pub after_two : {A : Type 0} (old first second third one two three : List A) → one ≡ old ++ first → two ≡ one ++ second → three ≡ two ++ third → three ≡ old ++ (first ++ (second ++ third))
after_two {A} old first second third one two three a b c =
    c ∙ ap (λ (xs : List A). xs ++ third) (b ∙ ap (λ (xs : List A). xs ++ second) a)
    ∙ append_assoc (old ++ first) second third ∙ append_assoc old first (second ++ third)

-- two lists
pub after_one : {A : Type 0} (old first second one two : List A) → one ≡ old ++ first → two ≡ one ++ second → two ≡ old ++ (first ++ second)
after_one {A} old first second one two a b = b ∙ ap (λ (xs : List A). xs ++ second) a ∙ append_assoc old first second
