-- One step down the trees, on the way to a block.
use Rattle.fb_types.proofs.Common.{◌≡◌, ℕ, ◌-◌, ◌<◌, ◌≤◌, List, [], ◌∷◌, length, get_or, take, drop, refl, ap, ◌∙◌, sym, arith, subst, none-some, same_Some, Option, Some, None, slice_get, slice_set}
use Rattle.std.proofs.lemmas.List.{take_rest}
use Rattle.std.specs.Option.{option_map, option_and_then}
use Rattle.fb_net.specs.Blocks.{components_of, own_of, with_components}
use Rattle.fb_net.specs.Trees.{block_at, own_at, put_back, put_at, Changed}
use Rattle.fb_net.specs.declared.block.Block.{Block}

pub block_at-nothing : (way : List ℕ) → block_at [] way ≡ None
block_at-nothing [] = refl
block_at-nothing (p ∷ []) = refl
block_at-nothing (p ∷ (q ∷ r)) = refl

module _ (blocks : List Block) (first : ℕ) (b : Block) (represents : slice_get blocks first ≡ Some b) where
  below : (rest : List ℕ) → 1 ≤ length rest → block_at blocks (first ∷ rest) ≡ block_at (components_of b) rest
  below [] more = absurd (omega (arith, more))
  below (next ∷ rest) more = ap (option_and_then (λ a. block_at (components_of a) (next ∷ rest))) represents

  put_below : (rest : List ℕ) (w : Block) → 1 ≤ length rest → put_at blocks (first ∷ rest) w ≡ slice_set blocks first (with_components b (put_at (components_of b) rest w))
  put_below [] w more = absurd (omega (arith, more))
  put_below (next ∷ rest) w more = ap (put_back blocks first (λ a. with_components a (put_at (components_of a) (next ∷ rest) w))) represents

-- a list of one and more, as it is matched
pub parted : (rest : List ℕ) → 1 ≤ length rest → get_or rest 0 0 ∷ take (length rest - 1) (drop 1 rest) ≡ rest
parted [] more = absurd (omega (arith, more))
parted (p ∷ ps) more = ap (λ qs. p ∷ qs) (take_rest (p ∷ ps) 1)

module _ {R : Type 0} (Ends : Block → R → Block → Type 0) (blocks : List Block) (first : ℕ) (rest : List ℕ) (b : Block) (represents : slice_get blocks first ≡ Some b) where
  -- the block at the end of the way becomes another one
  pub changed_here : (w : Block) (r : R) → length rest ≡ 0 → Ends b r w → Changed Ends blocks (first ∷ rest) r (slice_set blocks first w)
  changed_here w r none ends =
      let last : rest ≡ [] = no_more rest none in
      record {
        before = b;
        after = w;
        stood = ap (λ (ps : List ℕ). block_at blocks (first ∷ ps)) last ∙ represents;
        ends = ends;
        represents = sym (ap (λ (ps : List ℕ). put_at blocks (first ∷ ps) w) last);
      }
    where
      no_more : (ps : List ℕ) → length ps ≡ 0 → ps ≡ []
      no_more [] h = refl
      no_more (p ∷ ps) h = absurd (omega (arith, h))

  below_changed : (new : List Block) (r : R) → 1 ≤ length rest → Changed Ends (components_of b) rest r new → Changed Ends blocks (first ∷ rest) r (slice_set blocks first (with_components b new))
  below_changed new r more c =
      record {
        before = c.before;
        after = c.after;
        stood = below blocks first b represents rest more ∙ c.stood;
        ends = c.ends;
        represents = ap (λ cs. slice_set blocks first (with_components b cs)) c.represents ∙ sym (put_below blocks first b represents rest c.after more);
      }

  -- what happens among the components of a block happens in the trees
  pub changed_below : (inner new : List Block) (r : R) → 1 ≤ length rest → inner ≡ components_of b →
      Changed Ends inner (get_or rest 0 0 ∷ take (length rest - 1) (drop 1 rest)) r new → Changed Ends blocks (first ∷ rest) r (slice_set blocks first (with_components b new))
  changed_below inner new r more is c =
      below_changed new r more (subst (λ way. Changed Ends (components_of b) way r new) (parted rest more)
      (subst (λ cs. Changed Ends cs (get_or rest 0 0 ∷ take (length rest - 1) (drop 1 rest)) r new) is c))

-- ---- The block at the first index

pub first_there : (blocks : List Block) (first : ℕ) (rest : List ℕ) (b : Block) → block_at blocks (first ∷ rest) ≡ Some b → slice_get blocks first ≡ None → ⊥
first_there blocks first [] b stood none = none-some b (sym none ∙ stood)
first_there blocks first (next ∷ rest) b stood none =
    none-some b (sym (ap (option_and_then (λ a. block_at (components_of a) (next ∷ rest))) none) ∙ stood)

-- it is the one on the way, where the way goes no further
pub here_is : (blocks : List Block) (first : ℕ) (rest : List ℕ) (slot b : Block) → length rest < 1 → slice_get blocks first ≡ Some slot → block_at blocks (first ∷ rest) ≡ Some b → slot ≡ b
here_is blocks first [] slot b none represents stood = same_Some slot b (sym represents ∙ stood)
here_is blocks first (p ∷ ps) slot b none represents stood = absurd (omega (arith, none))

-- A block is on a way, of which an own part was found.
pub record StoodAt (blocks : List Block) (way : List ℕ) (own : Block) : Type 0 where
  pub block : Block
  pub is : block_at blocks way ≡ Some block
  pub own_is : own_of block ≡ own

pub stood_at : (blocks : List Block) (way : List ℕ) (own : Block) → own_at blocks way ≡ Some own → StoodAt blocks way own
stood_at blocks way own stood = of (block_at blocks way) refl stood
  where
    of : (o : Option Block) → block_at blocks way ≡ o → option_map own_of o ≡ Some own → StoodAt blocks way own
    of None is stood = absurd (none-some own stood)
    of (Some b) is stood = record { block = b; is = is; own_is = same_Some (own_of b) own stood }
