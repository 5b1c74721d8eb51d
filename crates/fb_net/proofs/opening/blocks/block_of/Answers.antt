use Rattle.fb_types.proofs.Common.{◌≡◌, Some, sym, ◌∙◌, ap, option_map, slice_get, kind_of}
use Rattle.fb_types.specs.declared.library.Library.{Library}
use Rattle.fb_types.specs.declared.library.BlockType.TheVariants as block
use Rattle.fb_net.proofs.lemmas.opening.BlockOpened.{typed}
use Rattle.fb_net.proofs.opening.blocks.block_of.Goals as goal

pub unreachable-requires : goal.unreachable-requires
unreachable-requires c =
    typed c.args.system.now c.args.instance (slice_get c.args.system.now.library.blocks c.in-Declared.index) c.facts.ensures.accepted c.requires.instance
    (c.in-None.ensures.value ∙ ap (λ (l : Library). slice_get l.blocks c.in-Declared.index) c.library.ensures) c.in-Declared.ensures

pub basic_of-requires-clause-index : goal.basic_of-requires-clause-index
basic_of-requires-clause-index c =
    ap (λ (l : Library). slice_get l.blocks c.in-Declared.index) (sym c.library.ensures) ∙ sym c.in-Some-Basic.ensures.value ∙ ap Some c.in-Some-Basic.field-0-is

pub basic_of-requires-clause-kind : goal.basic_of-requires-clause-kind
basic_of-requires-clause-kind c =
    let i = c.args.system.now in
    let there : slice_get i.library.blocks c.in-Declared.index ≡ Some (block.Basic c.in-Some-Basic.block) =
    ap (λ (l : Library). slice_get l.blocks c.in-Declared.index) (sym c.library.ensures) ∙ sym c.in-Some-Basic.ensures.value ∙ ap Some c.in-Some-Basic.field-0-is in
    sym c.in-Declared.ensures ∙ ap (option_map kind_of) there
