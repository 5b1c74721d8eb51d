use Rattle.fb_types.proofs.Common.{◌∙◌, ap, find, same_name, type_name}
use Rattle.fb_types.specs.declared.library.BlockType.{BlockType}
use Rattle.fb_types.proofs.lemmas.names.NameLaws.{find-named}
use Rattle.fb_draw.proofs.network.find_type.Goals as goal

pub returns : goal.returns
returns c =
    c.block_named.ensures ∙ ap (find (λ (b : BlockType). same_name (type_name b) c.args.name.now)) c.as_slice.ensures
    ∙ find-named type_name c.args.name.now c.args.library.now.blocks
