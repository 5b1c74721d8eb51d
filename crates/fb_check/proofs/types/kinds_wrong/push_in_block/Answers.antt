use Rattle.fb_types.proofs.Common.{subst}
use Rattle.fb_types.specs.declared.library.BlockType.{BlockType}
use Rattle.fb_check.specs.types.Insides.{AreInside}
use Rattle.fb_check.proofs.lemmas.types.NumberedKinds.{inside_numbers}
use Rattle.fb_check.proofs.types.kinds_wrong.push_in_block.Goals as goal

pub push_wrong_parameters-requires : goal.push_wrong_parameters-requires
push_wrong_parameters-requires c =
    let lib = c.args.library.now in
    inside_numbers lib c.in-Composite-Some.composite c.args.numbers.now c.in-Composite-Some.numbers c.in-Composite-Some.is-1
    (subst (λ (d : BlockType). AreInside lib d c.args.numbers.now) c.in-Composite-Some.is-0 c.requires.numbers)
