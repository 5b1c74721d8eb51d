use Rattle.fb_check.proofs.lemmas.Common.{◌++◌, length, append_assoc, refl, sym, ◌∙◌, ap, arith, slice_get_read, BasicType, Input, Output, Declared, unknown_withs}
use Rattle.fb_types.specs.declared.library.BlockType.TheVariants as block
use Rattle.fb_check.specs.types.Unknowns.{unknown_in_chart}
use Rattle.fb_check.proofs.lemmas.types.GrowingLists.{and_added, all_added}
use Rattle.fb_check.proofs.lemmas.types.BlockNumbers.{has_indexes}
use Rattle.fb_check.proofs.types.basics.push_in_basic.Goals as goal

pub index-indexes-requires : goal.index-indexes-requires
index-indexes-requires c =
    let types = c.args.types.now in
    omega (arith, has_indexes types.library.now types.catalog.now c.args.block (block.Basic c.args.basic.now) c.requires.types.has c.requires.index, types.catalog.now.blocks.ok.0)

pub new-scope-requires : goal.new-scope-requires
new-scope-requires c =
    let types = c.args.types.now in
    let ds = types.catalog.now.blocks.items in
    let t = block.Basic c.args.basic.now in
    c.requires.types.has.blocks c.args.block t c.index-indexes.result.now c.requires.index
    (slice_get_read ds (length ds) c.args.block c.index-indexes.result.now refl (has_indexes types.library.now types.catalog.now c.args.block t c.requires.types.has c.requires.index) c.index-indexes.ensures)

pub returns : goal.returns
returns c =
    let b = c.args.block in
    let t = c.args.basic.now in
    let s = c.new-scope.result in
    let ins = unknown_withs b Input t.ports in
    let outs = unknown_withs b Output t.ports in
    let f0 = c.args.found.now.items in
    let withs = ap (λ (x : BasicType). unknown_withs b Input x.ports ++ unknown_withs b Output x.ports) (sym c.new-scope.ensures)
    ∙ ap (λ (d : Declared). unknown_withs b Input d.ports ++ unknown_withs b Output d.ports) (sym c.interface.ensures) in
    and_added c.and.result c.push_in_withs-withs.result c.push_in_chart.result f0 c.push_in_withs-withs.new.found.items c.push_in_chart.new.found.items (ins ++ outs)
    (unknown_in_chart s b) _
    (ap (λ (x : BasicType). ins ++ (outs ++ unknown_in_chart x b)) (sym c.new-scope.ensures) ∙ sym (append_assoc ins outs (unknown_in_chart s b)))
    c.and.ensures
    (all_added c.push_in_withs-withs.result f0 c.push_in_withs-withs.new.found.items _ (ins ++ outs) withs c.push_in_withs-withs.ensures)
    c.push_in_chart.ensures
