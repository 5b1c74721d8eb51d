-- The blocks of one resource as trees: a composite has a network of component blocks inside it (IEC 61499-1, 5.3).
use Rattle.std.specs.Prelude.{◌≡◌, ◌≢◌, ℕ, List, [], ◌∷◌, Option, Some, None, slice_get, slice_set}
use Rattle.std.specs.Option.{option_map, option_and_then}
use Rattle.fb_net.specs.Blocks.{components_of, with_components, own_of}
use Rattle.fb_net.specs.declared.block.Block.{Block}

-- The block on a way: the indexes of the blocks on the way to it, from the outermost. The first is its index among the trees.
abbrev pub block_at : List Block → List ℕ → Option Block
block_at blocks [] = None
block_at blocks (index ∷ []) = slice_get blocks index
block_at blocks (index ∷ (next ∷ rest)) = option_and_then (λ b. block_at (components_of b) (next ∷ rest)) (slice_get blocks index)

-- what belongs to the block on a way alone
abbrev pub own_at : List Block → List ℕ → Option Block
own_at blocks way = option_map own_of (block_at blocks way)

abbrev pub put_back : List Block → ℕ → (Block → Block) → Option Block → List Block
put_back blocks index f None = blocks
put_back blocks index f (Some b) = slice_set blocks index (f b)

-- the trees with another block on a way
abbrev pub put_at : List Block → List ℕ → Block → List Block
put_at blocks [] w = blocks
put_at blocks (index ∷ []) w = slice_set blocks index w
put_at blocks (index ∷ (next ∷ rest)) w = put_back blocks index (λ b. with_components b (put_at (components_of b) (next ∷ rest) w)) (slice_get blocks index)

-- The block on a way has become another one. Ends says what a block, a result and what the block has become have in common.
pub record Changed {R : Type 0} (Ends : Block → R → Block → Type 0) (old : List Block) (way : List ℕ) (r : R) (new : List Block) : Type 0 where
  pub before : Block
  pub after : Block
  pub stood : block_at old way ≡ Some before
  pub ends : Ends before r after
  pub represents : new ≡ put_at old way after

-- An own part rests on a way, and all others stay as they were.
pub record PutAlone (old : List Block) (way : List ℕ) (own : Block) (new : List Block) : Type 0 where
  pub here : own_at new way ≡ Some own
  pub elsewhere : (other : List ℕ) → other ≢ way → own_at new other ≡ own_at old other

-- A block that becomes one with the same components changes alone.
abbrev pub OthersStay : Type 0
OthersStay = (blocks : List Block) (way : List ℕ) (b w : Block) → block_at blocks way ≡ Some b → components_of w ≡ components_of b → PutAlone blocks way (own_of w) (put_at blocks way w)
