use Rattle.fb_net.proofs.lemmas.Common.{◌≡◌, ◌∙◌, List, Option, Some, None, ap, subst, sym, ℕ, option_map, same_Some, Inputs, system_of, path_at, own_of, block_at, own_at, Represents, way_in, Block, Forest}
use Rattle.std.specs.Borrow.{Bor}
use Rattle.fb_types.specs.States as model
use Rattle.fb_net.specs.Worlds.{RepresentsAt}
use Rattle.fb_net.proofs.lemmas.opening.OwnParts.{own_represents}
use Rattle.fb_net.proofs.resource.Forest.block.Goals as goal

-- what is on the way of an instance
module _ (i : Inputs) (t : Forest) (k : ℕ) (seen : List Block) (way : List ℕ) (s : seen ≡ t.blocks) (w : way ≡ way_in i t.roots k)
    (o : Option (Bor Block)) (found : option_map (λ (b : Bor Block). b.now) o ≡ block_at seen way) (b : model.Block) (at : RepresentsAt i t.roots t.blocks k b) where
  own_is : option_map own_of (option_map (λ (b : Bor Block). b.now) o) ≡ Some at.own
  own_is = ap (option_map own_of) found ∙ ap (λ (bs : List Block). option_map own_of (block_at bs way)) s ∙ ap (λ (n : List ℕ). own_at t.blocks n) w ∙ at.stood

  none_is : o ≡ None → ⊥
  none_is none = let nothing : None ≡ Some at.own = subst (λ (p : Option (Bor Block)). option_map own_of (option_map (λ (b : Bor Block). b.now) p) ≡ Some at.own) none own_is in absurd cc

  here : (x : Bor Block) → o ≡ Some x → Represents (system_of i) (path_at (system_of i) k) x.now b
  here x is =
      let same : Some (own_of x.now) ≡ Some at.own = subst (λ (p : Option (Bor Block)). option_map own_of (option_map (λ (b : Bor Block). b.now) p) ≡ Some at.own) is own_is in
      own_represents (system_of i) (path_at (system_of i) k) x.now b (subst (λ (y : Block). Represents (system_of i) (path_at (system_of i) k) y b) (sym (same_Some _ _ same)) at.represents)

pub unreachable-requires : goal.unreachable-requires
unreachable-requires c =
    let stands = c.requires.stands in
    none_is c.args.system.now c.args.self.now c.args.instance c.as_slice.result.now _ c.as_slice.ensures c.way-index.ensures c.block_on.result c.block_on.ensures _
    (stands.whole.1.blocks c.args.instance c.requires.instance stands.here) c.in-None.is

pub returns : goal.returns
returns c = λ w is.
    here c.args.system.now c.args.self.now c.args.instance c.as_slice.result.now _ c.as_slice.ensures c.way-index.ensures c.block_on.result c.block_on.ensures _
    (is.blocks c.args.instance c.requires.instance c.requires.stands.here) c.in-Some.block c.in-Some.is
