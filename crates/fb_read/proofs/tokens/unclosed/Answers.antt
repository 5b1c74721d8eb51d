use Rattle.std.proofs.Common.{refl, arith}
use Rattle.fb_read.proofs.lemmas.tokens.TextEnds.{end-length}
use Rattle.fb_read.proofs.lemmas.tokens.TokenLaws.{unclosed-in}
use Rattle.fb_read.proofs.tokens.unclosed.Goals as goal

pub overflow_sub-before : goal.overflow_sub-before
overflow_sub-before c = end-length c.args.rest.now c.args.text.now c.requires.end

pub overflow_add-start : goal.overflow_add-start
overflow_add-start c = let fits = end-length c.args.rest.now c.args.text.now c.requires.end in omega arith

pub returns : goal.returns
returns c =
    rw c.none.ensures
    (unclosed-in c.args.text.now c.args.rest.now c.open_comment.result _ c.requires.end c.open_comment.ensures.within c.open_comment.ensures.there c.open_comment.ensures.none refl)
