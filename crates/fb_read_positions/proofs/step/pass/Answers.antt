use Rattle.fb_types.proofs.Common.{ℕ, ◌∙◌, err_from_is_err_and}
use Rattle.fb_read.proofs.lemmas.rules.CountedLoops.{one_more, no_more}
use Rattle.fb_read_positions.specs.Walks.{pass}
use Rattle.fb_read_positions.proofs.lemmas.ReadingLoops.{fault_at, from_start, pass_fault, pass_more}
use Rattle.fb_read_positions.proofs.step.pass.Goals as goal

pub loop-turn-init : goal.loop-turn-init
loop-turn-init c = from_start (λ (n : ℕ). pass c.args.steps.now n c.args.cursor.now) c.args.count

pub returns-in_err-take_all : goal.returns-in_err-take_all
returns-in_err-take_all c =
    let p = err_from_is_err_and c.from_residual.result c.from_residual.ensures.1 in
    rw (p.1, p.2)
    (fault_at _ _ _ _ (one_more (λ (n : ℕ). pass c.args.steps.now n c.loop-turn.cursor) _ c.loop-turn._turn c.loop-turn-test.true c.loop-turn.invariant)
    (pass_fault c.args.steps.now _ c.loop-turn.cursor _ _ c.in_err-take_all.ensures))

pub loop-turn-preserved : goal.loop-turn-preserved
loop-turn-preserved c =
    one_more (λ (n : ℕ). pass c.args.steps.now n c.loop-turn.cursor) _ c.loop-turn._turn c.loop-turn-test.true c.loop-turn.invariant
    ∙ pass_more c.args.steps.now _ c.loop-turn.cursor _ c.in_ok-take_all.ensures

pub returns : goal.returns
unfolding pass
returns c = no_more (λ (n : ℕ). pass c.args.steps.now n c.loop-turn.cursor) _ c.loop-turn._turn c.loop-turn-test.false c.loop-turn.invariant
