use Rattle.fb_types.proofs.Common.{sym, ◌∙◌, find, at_drop_all, same_name}
use Rattle.fb_types.specs.declared.library.Algorithm.{Algorithm}
use Rattle.fb_types.proofs.lemmas.lists.LoopSteps.{found_here, found_later}
use Rattle.fb_stop.proofs.before.algorithm_named.Goals as goal

pub returns-then-is : goal.returns-then-is
returns-then-is c =
    found_here (λ (x : Algorithm). same_name x.name c.args.name.now) _ _ _ c.loop-algorithm-test.true c.algorithm-item.is c.loop-algorithm.invariant
    (sym c.is.ensures ∙ c.if-is.true)

pub loop-algorithm-preserved : goal.loop-algorithm-preserved
loop-algorithm-preserved c =
    found_later (λ (x : Algorithm). same_name x.name c.args.name.now) _ _ _ c.loop-algorithm-test.true c.algorithm-item.is c.loop-algorithm.invariant
    (sym c.is.ensures ∙ c.if-is.false)

pub returns : goal.returns
returns c =
    sym (c.loop-algorithm.invariant ∙ at_drop_all (find (λ (x : Algorithm). same_name x.name c.args.name.now)) c.args.algorithms.now c.loop-algorithm.algorithm-index c.loop-algorithm-test.false)
