use Rattle.fb_types.proofs.Common.{◌<◌, length, refl, arith, slice_get_read, slice_get_within}
use Rattle.fb_system.proofs.interfaces.Interfaces.of_block.Goals as goal

pub returns : goal.returns
returns c = λ library t are h.
    let all = c.args.self.now.blocks in
    let x = c.index-as_slice-block.result in
    let within : c.args.block < length library.blocks = slice_get_within library.blocks c.args.block t h in
    are.blocks.each c.args.block t x h
    (slice_get_read all (length all) c.args.block x refl (omega (arith, are.blocks.counted, within)) (rw c.as_slice.ensures at c.index-as_slice-block.is))
