use Rattle.fb_types.proofs.Common.{◌+◌, ◌-◌, length, drop, refl, arith, length-drop, length-take}
use Rattle.fb_read.proofs.tokens.faulty.Goals as goal

pub returns-in-Token : goal.returns-in-Token
returns-in-Token c =
    let n = length-drop c.args.index c.args.text.now in
    let m = length-take (length c.args.text.now - c.args.index) (drop c.args.index c.args.text.now) in
    rw (c.in-Token.is, c.none-in-Token.ensures) (c.args.index + c.faulty_len.result, omega arith, omega arith, refl)
