use Rattle.fb_types.proofs.Common.{◌∙◌, subst, sym, arith, take_all}
use Rattle.std.proofs.lemmas.List.Elements.{All-more}
use Rattle.fb_resource.specs.Posts.{IsMessage}
use Rattle.fb_resource.specs.Resources.{IsFor}
use Rattle.fb_tests.proofs.tests.parts.chain.are_for.Goals as goal

pub loop-message-preserved : goal.loop-message-preserved
loop-message-preserved c =
    let P = IsFor c.args.system.now c.args.resource.now in
    let m = c.message-item.result in
    let k = c.loop-message.message-index in
    let one : P m = record {
      message = subst (IsMessage c.args.system.now) (sym c.message-item.is) (c.requires.messages k m c.loop-message-test.true);
      here = sym c.resource.ensures ∙ c.if-resource-number.false ∙ sym c.requires.number;
      later = omega (arith, c.if-message-clock.false, c.clock.ensures);
    } in
    All-more P c.args.messages.now k m c.loop-message-test.true c.loop-message.invariant (subst P c.message-item.is one)

pub returns : goal.returns
returns c = λ h. rw (take_all c.loop-message.message-index c.args.messages.now (omega arith)) at c.loop-message.invariant
