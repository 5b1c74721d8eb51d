-- The numbers of the networks inside block types.
use Rattle.fb_check.proofs.lemmas.Common.{◌≡◌, ℕ, Option, Some, None, refl, subst, slice_get, OwnedNetwork, Plan, BlockType, CompositeType, Library, IsNetwork, IsResolved, NetworkNumbers, Resolved}
use Rattle.fb_types.specs.declared.library.BlockType.TheVariants as block
use Rattle.fb_check.specs.types.Insides.{AreAllInside, AreInside}

pub all_inside : (lib : Library) (plan : Plan) (r : Resolved) → IsResolved lib plan r → AreAllInside lib r.blocks
all_inside lib plan r is = λ k t at. go k t at
  where
    go : (k : ℕ) (t : BlockType) → slice_get lib.blocks k ≡ Some t → (o : Option NetworkNumbers) × (slice_get r.blocks k ≡ Some o) × AreInside lib t o
    go k (block.Basic t) at = (None, is.basics k t at, tt)
    go k (block.Composite t) at = let x = is.composites k t at in (Some x.0, x.1, x.2)

-- the network inside a composite type, with its numbers
pub inside_numbers :
    (lib : Library) (t : CompositeType) (o : Option NetworkNumbers) (x : NetworkNumbers) → o ≡ Some x → AreInside lib (block.Composite t) o
    → (n : OwnedNetwork) × (n.1 ≡ t.network) × IsNetwork lib n x
inside_numbers lib t o x is inside = ((Some t, t.network), refl, subst (λ (q : Option NetworkNumbers). AreInside lib (block.Composite t) q) is inside)
