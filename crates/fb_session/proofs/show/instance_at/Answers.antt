use Rattle.fb_types.proofs.Common.{below_more, ◌∙◌, arith, both_ways, Decides-eqb, slice_eq-Decides}
use Rattle.fb_session.proofs.show.instance_at.Goals as goal

pub loop-instance-preserved : goal.loop-instance-preserved
loop-instance-preserved c =
    below_more _ _ c.loop-instance.invariant
    (λ same. both_ways _ c.if-eq.false ((slice_eq-Decides Decides-eqb c.path.result.now c.args.path.now c.eq.result c.eq.ensures).1 (c.path.ensures ∙ same)))

pub returns-clause-none : goal.returns-clause-none
returns-clause-none c = λ k within. c.loop-instance.invariant k (omega (arith, within, c.count-instance-end.ensures))
