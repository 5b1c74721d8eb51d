-- What a block represents does not depend on its components.
use Rattle.fb_net.proofs.lemmas.Common.{Option, Some, [], subst, Kind, Composite, Path, System, own_of, Represents, Block, Block-F}
use Rattle.fb_types.specs.States as model
use Rattle.fb_net.specs.Blocks.{composite_with}
use Rattle.fb_net.specs.Worlds.{NodeRepresents}
use Rattle.fb_net.specs.declared.block.Block.TheViews.{out-Block}
use Rattle.fb_net.proofs.lemmas.opening.Components.{out_roll}

pub own_represents : (sys : System) (p : Path) (x : Block) (b : model.Block) → Represents sys p (own_of x) b → Represents sys p x b
own_represents sys p x b h =
    go (sys.kind p) (out-Block x) (subst (λ (y : Block-F Block). NodeRepresents (sys.kind p) y b.memory b.variables) (out_roll (composite_with [] (out-Block x))) h)
  where
    go : (k : Option Kind) (y : Block-F Block) → NodeRepresents k (composite_with [] y) b.memory b.variables → NodeRepresents k y b.memory b.variables
    go k (Block-F.Basic s) h = h
    go k (Block-F.Event s) h = h
    go (Some (Composite t)) (Block-F.Composite bs) h = h
    go k (Block-F.Composite bs) h = h
