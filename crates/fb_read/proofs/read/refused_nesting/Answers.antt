use Rattle.std.proofs.Common.{◌+◌, ◌-◌, length, arith}
use Rattle.fb_read.specs.Refusals.{IsFirstDeep}
use Rattle.fb_read.proofs.lemmas.texts.RefusalLaws.{first-front, front-deep, over-deep}
use Rattle.fb_read.proofs.read.refused_nesting.Goals as goal

pub returns-in-Ok : goal.returns-in-Ok
returns-in-Ok c =
    let first : IsFirstDeep c.args.tokens.now c.in-Ok.len = first-front c.args.tokens.now c.args.most c.in-Ok.len (rw c.front_of.ensures at c.in-Ok.ensures) in
    over-deep c.args.text.now c.args.tokens.now c.requires.short c.requires.located c.in-Ok.len (length c.args.tokens.now - (length c.args.tokens.now - c.in-Ok.len + 1)) c.refused_before.result
    (front-deep c.args.tokens.now c.args.most c.requires.deep) first (omega (arith, first.0.0, first.0.1)) c.refused_before.ensures
