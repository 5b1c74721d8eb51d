use Rattle.fb_types.proofs.Common.{below_more, sym, ◌∙◌, arith, both_ways, Decides-eqb, slice_eq-Decides}
use Rattle.fbsim_command.proofs.known.instance_at.Goals as goal

pub loop-instance-preserved : goal.loop-instance-preserved
loop-instance-preserved c =
    below_more _ _ c.loop-instance.invariant
    (λ same. both_ways _ c.if-eq.false ((slice_eq-Decides Decides-eqb c.path.result.now c.args.path.now c.eq.result c.eq.ensures).1 (c.path.ensures ∙ sym same)))

pub returns-clause-none : goal.returns-clause-none
returns-clause-none c = λ i within. c.loop-instance.invariant i (omega (arith, within, c.count-instance-end.ensures))
