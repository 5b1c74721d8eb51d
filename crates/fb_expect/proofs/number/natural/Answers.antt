use Rattle.std.proofs.Common.{◌<◌, length, sym, arith}
use Rattle.fb_expect.proofs.lemmas.texts.Digits.{over}
use Rattle.fb_expect.proofs.number.natural.Goals as goal

pub returns-then-value-most-clause-value : goal.returns-then-value-most-clause-value
returns-then-value-most-clause-value c =
    let text = c.args.text.now in
    let i = c.loop-byte.byte-index in
    let within : i < length text = omega arith in
    let digit = c.from-digit.ensures in
    let more = c.if-value-most.true in
    over c.args.most text i c.loop-byte.value within (sym c.loop-byte.invariant.sum) (omega (arith, digit, more))
