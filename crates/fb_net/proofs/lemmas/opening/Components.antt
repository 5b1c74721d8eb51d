-- A block with other components, and one that has none.
use Rattle.fb_net.proofs.lemmas.Common.{◌≡◌, List, [], ◌∷◌, refl, sym, ap, ◌∙◌, rules, components_of, own_of, BasicState, Block, Block-F}
use Rattle.fb_net.specs.Blocks.{components_in, composite_with, with_components}
use Rattle.fb_event.specs.State.{State}
use Rattle.fb_net.specs.declared.block.Block.TheVariants as block
use Rattle.fb_net.specs.declared.block.Block.TheViews.{out-Block, roll-Block, the_lemmas}

pub out_roll : (x : Block-F Block) → out-Block (roll-Block x) ≡ x
out_roll x = search (rules, the_lemmas)

roll_out : (b : Block) → roll-Block (out-Block b) ≡ b
roll_out b = search (rules, the_lemmas)

in_composite : (x : Block-F Block) (bs cs : List Block) (c : Block) → components_in x ≡ c ∷ cs → components_in (composite_with bs x) ≡ bs
in_composite (Block-F.Basic b) bs cs c e = cc
in_composite (Block-F.Event b) bs cs c e = cc
in_composite (Block-F.Composite b) bs cs c e = refl

-- a block that has components can have others
pub components_of-with : (b : Block) (bs cs : List Block) (c : Block) → components_of b ≡ c ∷ cs → components_of (with_components b bs) ≡ bs
components_of-with b bs cs c e = ap components_in (out_roll (composite_with bs (out-Block b))) ∙ in_composite (out-Block b) bs cs c e

last_composite : (x : Block-F Block) (bs : List Block) → composite_with [] (composite_with bs x) ≡ composite_with [] x
last_composite (Block-F.Basic b) bs = refl
last_composite (Block-F.Event b) bs = refl
last_composite (Block-F.Composite b) bs = refl

-- the components are not a block's own
pub own_of-with : (b : Block) (bs : List Block) → own_of (with_components b bs) ≡ own_of b
own_of-with b bs = ap (λ x. roll-Block (composite_with [] x)) (out_roll (composite_with bs (out-Block b))) ∙ ap roll-Block (last_composite (out-Block b) bs)

-- ---- Leaves

out_basic : (s : BasicState) → out-Block (block.Basic s) ≡ Block-F.Basic s
out_basic s = search (rules, the_lemmas)

out_event : (s : State) → out-Block (block.Event s) ≡ Block-F.Event s
out_event s = search (rules, the_lemmas)

-- the own part of a leaf is the whole block
pub own_basic : (s : BasicState) → out-Block (own_of (block.Basic s)) ≡ Block-F.Basic s
own_basic s = out_roll (composite_with [] (out-Block (block.Basic s))) ∙ ap (composite_with []) (out_basic s)

pub own_event : (s : State) → out-Block (own_of (block.Event s)) ≡ Block-F.Event s
own_event s = out_roll (composite_with [] (out-Block (block.Event s))) ∙ ap (composite_with []) (out_event s)

pub leaf_basic : (s : BasicState) → components_of (block.Basic s) ≡ []
leaf_basic s = ap components_in (out_basic s)

pub leaf_event : (s : State) → components_of (block.Event s) ≡ []
leaf_event s = ap components_in (out_event s)

pub basic_rolled : (d : Block) (s : BasicState) → out-Block d ≡ Block-F.Basic s → d ≡ block.Basic s
basic_rolled d s is = sym (roll_out d) ∙ ap roll-Block (is ∙ sym (out_basic s)) ∙ roll_out (block.Basic s)

pub event_rolled : (d : Block) (s : State) → out-Block d ≡ Block-F.Event s → d ≡ block.Event s
event_rolled d s is = sym (roll_out d) ∙ ap roll-Block (is ∙ sym (out_event s)) ∙ roll_out (block.Event s)
