use Rattle.std.proofs.Common.{◌≡◌, ◌∙◌, length, sym, arith}
use Rattle.fb_net.proofs.lemmas.emitting.Emitting.{carried_only}
use Rattle.fb_net.proofs.taking.emit.carried_values.Goals as goal

pub returns-in-Some : goal.returns-in-Some
returns-in-Some c =
    let one : length c.args.indexes.now ≡ 1 = omega (arith, c.in-len1.len_at_least, c.in-len1.len_below) in
    c.one.ensures ∙ sym (carried_only c.args.instance c.args.indexes.now c.args.values.now c.in-Some.value.now one c.in-Some.ensures.value)
