use Rattle.std.proofs.Common.{◌≡◌, true, false, sym, ap, ◌∙◌}
use Rattle.fbsim_command.specs.Joining.{is_open}
use Rattle.fbsim_command.proofs.lemmas.files.OpenLaws.{passed-all, passed-more, passed-open}
use Rattle.fbsim_command.proofs.join.up_to_open.Goals as goal

pub returns-then-is_open : goal.returns-then-is_open
returns-then-is_open c =
    let v = c.index-texts-i.result in
    let left : is_open v.items ≡ true = sym (ap is_open c.as_slice.ensures.value) ∙ sym c.is_open.ensures ∙ c.if-is_open.true in
    passed-open c.args.texts.now c.loop-i.i v c.loop-i-test.true c.index-texts-i.is left c.loop-i.invariant

pub loop-i-preserved : goal.loop-i-preserved
loop-i-preserved c =
    let v = c.index-texts-i.result in
    let closed : is_open v.items ≡ false = sym (ap is_open c.as_slice.ensures.value) ∙ sym c.is_open.ensures ∙ c.if-is_open.false in
    passed-more c.args.texts.now c.loop-i.i v c.loop-i-test.true c.index-texts-i.is closed c.loop-i.invariant

pub returns : goal.returns
returns c = passed-all c.args.texts.now c.loop-i.i c.loop-i-test.false c.loop-i.invariant
