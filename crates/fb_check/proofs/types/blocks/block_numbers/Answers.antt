use Rattle.fb_check.proofs.lemmas.Common.{◌≡◌, ◌++◌, [], List, length, Some, ℕ, Bor, append_assoc, refl, sym, ◌∙◌, ap, subst, arith, same_Some, slice_get_read, Name, CompositeType, BlockType, Input, Output, Inside, Declared, unknown_in_network, unknown_withs, unknown_in_block, UnknownName}
use Rattle.fb_types.proofs.Common.{BTreeMap}
use Rattle.fb_types.specs.declared.library.BlockType.TheVariants as block
use Rattle.fb_check_names.specs.PortKinds.{AreIndexesOf}
use Rattle.fb_check_names.proofs.lemmas.Listing.{none_right}
use Rattle.fb_check.proofs.lemmas.types.BlockNumbers.{composite_ports, composite_instances, has_indexes}
use Rattle.fb_check_names.specs.Unknown.{IsBlockNumbers}
use Rattle.fb_check.proofs.types.blocks.block_numbers.Goals as goal

pub push_in_basic-requires-clause-index : goal.push_in_basic-requires-clause-index
push_in_basic-requires-clause-index c = c.requires.index ∙ ap (λ (b : BlockType). Some b) c.in-Basic.is

pub index-indexes-requires : goal.index-indexes-requires
index-indexes-requires c =
    let types = c.args.types.now in
    omega (arith, has_indexes types.library.now types.catalog.now c.args.block c.args.declared.now c.requires.types.has c.requires.index, types.catalog.now.blocks.ok.0)

pub new-interface-requires : goal.new-interface-requires
new-interface-requires c =
    let types = c.args.types.now in
    let ds = types.catalog.now.blocks.items in
    let t = block.Composite c.in-Composite.composite in
    let at = c.requires.index ∙ ap (λ (b : BlockType). Some b) c.in-Composite.is in
    (c.requires.types.has.blocks c.args.block t c.index-indexes.result.now at
    (slice_get_read ds (length ds) c.args.block c.index-indexes.result.now refl (has_indexes types.library.now types.catalog.now c.args.block t c.requires.types.has at) c.index-indexes.ensures)).ports

pub network_numbers-requires-clause-scope : goal.network_numbers-requires-clause-scope
network_numbers-requires-clause-scope c =
    let at = c.requires.index ∙ ap (λ (b : BlockType). Some b) c.in-Composite.is in
    record {
      boundary = λ y e.
          subst (λ (y : Bor CompositeType × Bor (BTreeMap (Bor Name) ℕ)). AreIndexesOf y.0.now.ports y.1.now) (same_Some _ y e)
          (composite_ports _ _ _ _ c.index-indexes.result.now c.requires.types.has at c.index-indexes.ensures);
      instances = composite_instances _ _ _ _ c.index-indexes.result.now c.requires.types.has at c.index-indexes.ensures;
    }

pub returns-in_ok-numbers-in-Composite-clause-listed : goal.returns-in_ok-numbers-in-Composite-clause-listed
returns-in_ok-numbers-in-Composite-clause-listed c =
    let lib = c.args.types.now.library.now in
    let t = c.in-Composite.composite in
    let b = c.args.block in
    let ins = unknown_withs b Input t.ports in
    let outs = unknown_withs b Output t.ports in
    let inside = unknown_in_network lib (Inside b) (Some t, t.network) in
    let f0 = c.args.found.now.items in
    let first = c.in_ok-push_in_withs-in-Composite.ensures ∙ ap (λ (d : Declared). f0 ++ (unknown_withs b Input d.ports ++ unknown_withs b Output d.ports)) c.new-interface.ensures in
    subst (λ (d : BlockType). c.network_numbers.new.found.items ≡ f0 ++ unknown_in_block lib b d) (sym c.in-Composite.is)
    (c.in_ok-numbers-in-Composite.ensures.listed ∙ ap (λ (xs : List UnknownName). xs ++ inside) first ∙ append_assoc f0 (ins ++ outs) inside
    ∙ ap (λ (xs : List UnknownName). f0 ++ xs) (append_assoc ins outs inside))

pub returns-in_ok-numbers-in-Composite-clause-numbers : goal.returns-in_ok-numbers-in-Composite-clause-numbers
returns-in_ok-numbers-in-Composite-clause-numbers c =
    let lib = c.args.types.now.library.now in
    let t = c.in-Composite.composite in
    let p = t.ports in
    let ins = unknown_withs c.args.block Input p in
    let outs = unknown_withs c.args.block Output p in
    let inside = unknown_in_network lib (Inside c.args.block) (Some t, t.network) in
    let x = c.in_ok-numbers-in-Composite.numbers in
    subst (λ (d : BlockType). unknown_in_block lib c.args.block d ≡ [] → IsBlockNumbers lib d (Some x)) (sym c.in-Composite.is)
    (λ h. (x, refl, c.in_ok-numbers-in-Composite.ensures.numbers (none_right outs inside (none_right ins (outs ++ inside) h))))
