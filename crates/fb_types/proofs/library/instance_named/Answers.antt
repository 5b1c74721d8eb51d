use Rattle.fb_types.proofs.Common.{sym, ◌∙◌, find, at_drop_all, same_name, Instance}
use Rattle.fb_types.proofs.lemmas.lists.LoopSteps.{found_here, found_later}
use Rattle.fb_types.proofs.library.instance_named.Goals as goal

pub returns-then-is : goal.returns-then-is
returns-then-is c =
    found_here (λ (x : Instance). same_name x.name c.args.name.now) _ _ _ c.loop-instance-test.true c.instance-item.is c.loop-instance.invariant
    (sym c.is.ensures ∙ c.if-is.true)

pub loop-instance-preserved : goal.loop-instance-preserved
loop-instance-preserved c =
    found_later (λ (x : Instance). same_name x.name c.args.name.now) _ _ _ c.loop-instance-test.true c.instance-item.is c.loop-instance.invariant
    (sym c.is.ensures ∙ c.if-is.false)

pub returns : goal.returns
returns c =
    sym (c.loop-instance.invariant ∙ at_drop_all (find (λ (x : Instance). same_name x.name c.args.name.now)) c.args.instances.now c.loop-instance.instance-index c.loop-instance-test.false)
