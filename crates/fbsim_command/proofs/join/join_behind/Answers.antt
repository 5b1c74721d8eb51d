use Rattle.std.proofs.Common.{◌∙◌, ap}
use Rattle.fb_read.specs.Tokens.{after_mark}
use Rattle.fbsim_command.proofs.lemmas.files.OpenLaws.{joined-all, joined-more}
use Rattle.fbsim_command.proofs.join.join_behind.Goals as goal

pub loop-text-preserved : goal.loop-text-preserved
loop-text-preserved c =
    joined-more c.args.all.now.items c.loop-text.all.items c.push.new.self.items c.extend_from_slice.new.self.items c.after_mark.result.now c.args.texts.now c.loop-text.text-index c.text-item.result
    c.loop-text-test.true c.text-item.is c.in_ok-push.ensures.items (c.after_mark.ensures.value ∙ ap after_mark c.as_slice.ensures.value) c.in_ok-extend_from_slice.ensures.items c.loop-text.invariant

pub returns : goal.returns
returns c = joined-all c.args.all.now.items c.loop-text.all.items c.args.texts.now c.loop-text.text-index c.loop-text-test.false c.loop-text.invariant
