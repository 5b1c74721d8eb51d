use Rattle.fb_ecc.proofs.lemmas.Acceptance.{sound_in_declaration}
use Rattle.fb_ecc.proofs.program.Program.of.Goals as goal

pub layout_of-requires : goal.layout_of-requires
layout_of-requires c = (sound_in_declaration c.args.block.now c.requires).variables
