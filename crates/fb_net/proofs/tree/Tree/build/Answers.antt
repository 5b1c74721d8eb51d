use Rattle.fb_types.proofs.Common.{◌≡◌, ◌<◌, ℕ, List, arith, length, sym, subst, length-map, system_of, opening_state, world_of}
use Rattle.fb_net.specs.declared.block.Block.{Block}
use Rattle.fb_net.specs.Opening.{AreGrown, AreRooted, CoversAll}
use Rattle.fb_net.proofs.lemmas.blocks.Charts.{no_charts}
use Rattle.fb_net.proofs.lemmas.opening.BlockWays.{forest_is, top_deep}
use Rattle.fb_net.proofs.tree.Tree.build.Goals as goal

pub blocks_of-requires-clause-charts : goal.blocks_of-requires-clause-charts
blocks_of-requires-clause-charts c = no_charts c.args.system.now c.new-charts.result c.new-charts.ensures.empty

pub blocks_of-requires-clause-deep : goal.blocks_of-requires-clause-deep
blocks_of-requires-clause-deep c = rw c.as_slice.ensures (top_deep c.args.system.now c.args.resource _ _ c.in_ok-roots.ensures)

pub invariant_of-result : goal.invariant_of-result
invariant_of-result c =
    let i = c.args.system.now in
    let alone = c.in_ok-index_shells.ensures.alone in
    let grown : AreGrown i 17 c.in_ok-roots.roots.instances c.in_ok-blocks.blocks =
    subst (λ (ks : List ℕ). AreGrown i 17 ks c.in_ok-blocks.blocks) c.as_slice.ensures c.in_ok-blocks.ensures.grown in
    let same : length (system_of i).resource_names ≡ length i.plan.resources = length-map i.plan.resources (λ x. x.name) in
    let few = c.facts.ensures.limits.few_resources in
    let within : c.args.resource < length (system_of i).resource_names = c.requires in
    let is : c.index_shells.new.forest.resource ≡ c.args.resource = alone.resource in (
      omega (arith, same, few, within, is),
      ∣ record {
        inputs = i;
        accepted = c.facts.ensures.accepted;
        world = world_of (opening_state (system_of i)) c.args.resource;
        represents =
            forest_is i c.index_shells.new.forest c.args.resource c.in_ok-roots.roots.instances c.facts.ensures.accepted c.facts.ensures.numbered alone.resource
            (subst (λ (ps : List ℕ). AreRooted i c.args.resource ps c.in_ok-roots.roots.instances) (sym alone.roots) c.in_ok-roots.ensures)
            (subst (λ (bs : List Block). AreGrown i 17 c.in_ok-roots.roots.instances bs) (sym alone.blocks) grown)
            c.in_ok-index_shells.ensures.has_shells
            (subst (λ h. CoversAll i c.args.resource h) (sym alone.held) c.in_ok-held.ensures);
      } ∣₁,
    )

pub returns-clause-opened : goal.returns-clause-opened
returns-clause-opened c =
    let i = c.args.system.now in
    let alone = c.in_ok-index_shells.ensures.alone in
    let grown : AreGrown i 17 c.in_ok-roots.roots.instances c.in_ok-blocks.blocks =
    subst (λ (ks : List ℕ). AreGrown i 17 ks c.in_ok-blocks.blocks) c.as_slice.ensures c.in_ok-blocks.ensures.grown in
    forest_is i c.index_shells.new.forest c.args.resource c.in_ok-roots.roots.instances c.facts.ensures.accepted c.facts.ensures.numbered alone.resource
    (subst (λ (ps : List ℕ). AreRooted i c.args.resource ps c.in_ok-roots.roots.instances) (sym alone.roots) c.in_ok-roots.ensures)
    (subst (λ (bs : List Block). AreGrown i 17 c.in_ok-roots.roots.instances bs) (sym alone.blocks) grown)
    c.in_ok-index_shells.ensures.has_shells
    (subst (λ h. CoversAll i c.args.resource h) (sym alone.held) c.in_ok-held.ensures)

pub returns-clause-resource : goal.returns-clause-resource
returns-clause-resource c = c.in_ok-index_shells.ensures.alone.resource
