use Rattle.fb_check.proofs.lemmas.Common.{◌≡◌, List, Option, Some, None, length, sym, ◌∙◌, ap, subst, refl, arith, slice_get, slice_get_read, BlockType, NetworkNumbers, kinds_wrong_in_block}
use Rattle.fb_check_names.proofs.lemmas.Listing.{each_done_of, each_more}
use Rattle.fb_check.proofs.lemmas.networks.SearchLoops.{at_element}
use Rattle.fb_check.specs.types.Insides.{AreInside}
use Rattle.fb_check.proofs.types.kinds_wrong.push_in_blocks.Goals as goal

pub bounds-indexes-block : goal.bounds-indexes-block
bounds-indexes-block c =
    let same : length c.as_slice-blocks.result.now ≡ length c.args.library.now.blocks = ap (λ (ts : List BlockType). length ts) c.as_slice-blocks.ensures in
    omega (arith, c.requires.indexes.counted, c.loop-block-test.true, same)

pub returns-in_default : goal.returns-in_default
returns-in_default c =
    let k = c.loop-block.block in
    let t = c.index-blocks-block.result in
    let at = ap (λ (ts : List BlockType). slice_get ts k) (sym c.as_slice-blocks.ensures) ∙ at_element c.as_slice-blocks.result.now k t c.loop-block-test.true c.index-blocks-block.is in
    let there = c.requires.numbers k t at in
    absurd (let no : Some there.0 ≡ None = sym there.1 ∙ sym c.in_default.ensures.value in cc)

pub push_in_block-requires : goal.push_in_block-requires
push_in_block-requires c =
    let lib = c.args.library.now in
    let k = c.loop-block.block in
    let t = c.index-blocks-block.result in
    let same : length c.as_slice-blocks.result.now ≡ length lib.blocks = ap (λ (ts : List BlockType). length ts) c.as_slice-blocks.ensures in
    let at = ap (λ (ts : List BlockType). slice_get ts k) (sym c.as_slice-blocks.ensures) ∙ at_element c.as_slice-blocks.result.now k t c.loop-block-test.true c.index-blocks-block.is in
    let there = c.requires.numbers k t at in
    let is : there.0 ≡ c.in-Some.numbers.now = let e : Some there.0 ≡ Some c.in-Some.numbers.now = sym there.1 ∙ sym c.in-Some.ensures.value in cc in
    record {
      indexes = c.requires.indexes.blocks k t c.index-indexes-block.result at
          (slice_get_read c.args.indexes.now (length c.args.indexes.now) k c.index-indexes-block.result refl (omega (arith, c.requires.indexes.counted, c.loop-block-test.true, same)) c.index-indexes-block.is);
      numbers = subst (λ (o : Option NetworkNumbers). AreInside lib t o) is there.2;
    }

pub loop-block-preserved : goal.loop-block-preserved
loop-block-preserved c =
    each_more (kinds_wrong_in_block c.args.library.now) c.as_slice-blocks.result.now c.loop-block.block c.index-blocks-block.result c.loop-block.found.items c.push_in_block.new.found.items _
    c.loop-block-test.true c.index-blocks-block.is c.in_ok-push_in_block.ensures c.loop-block.invariant

pub returns : goal.returns
returns c =
    each_done_of (kinds_wrong_in_block c.args.library.now) c.as_slice-blocks.result.now c.args.library.now.blocks c.loop-block.block _ c.loop-block.found.items c.as_slice-blocks.ensures
    c.loop-block-test.false c.loop-block.invariant
