use Rattle.fb_types.proofs.Common.{ℕ, ◌∙◌, err_from_is_err_and}
use Rattle.fb_read.proofs.lemmas.rules.CountedLoops.{one_more, no_more}
use Rattle.fb_read_positions.specs.Walks.{pass, pass_actions}
use Rattle.fb_read_positions.proofs.lemmas.PassedTokens.{action_fault, action_more, comma_fault}
use Rattle.fb_read_positions.proofs.lemmas.ReadingLoops.{fault_at, from_start}
use Rattle.fb_read_positions.proofs.step.pass_actions.Goals as goal

pub loop-turn-init : goal.loop-turn-init
loop-turn-init c = from_start (λ (n : ℕ). pass_actions n c.args.cursor.now) c.args.count

pub returns-in_err-past_action : goal.returns-in_err-past_action
returns-in_err-past_action c =
    let p = err_from_is_err_and c.from_residual.result c.from_residual.ensures.1 in
    rw (p.1, p.2)
    (fault_at _ _ _ _ (one_more (λ (n : ℕ). pass_actions n c.loop-turn.cursor) _ c.loop-turn._turn c.loop-turn-test.true c.loop-turn.invariant)
    (action_fault _ c.loop-turn.cursor _ _ c.in_err-past_action.ensures))

pub returns-in_err-expect : goal.returns-in_err-expect
returns-in_err-expect c =
    let p = err_from_is_err_and c.from_residual-in_err-expect.result c.from_residual-in_err-expect.ensures.1 in
    rw (p.1, p.2)
    (fault_at _ _ _ _ (one_more (λ (n : ℕ). pass_actions n c.loop-turn.cursor) _ c.loop-turn._turn c.loop-turn-test.true c.loop-turn.invariant)
    (comma_fault _ c.loop-turn.cursor _ _ _ c.in_ok-past_action.ensures c.in_err-expect.ensures))

pub loop-turn-preserved : goal.loop-turn-preserved
loop-turn-preserved c =
    one_more (λ (n : ℕ). pass_actions n c.loop-turn.cursor) _ c.loop-turn._turn c.loop-turn-test.true c.loop-turn.invariant
    ∙ action_more _ c.loop-turn.cursor _ _ c.in_ok-past_action.ensures c.in_ok-expect.ensures

pub returns : goal.returns
unfolding pass
returns c = no_more (λ (n : ℕ). pass_actions n c.loop-turn.cursor) _ c.loop-turn._turn c.loop-turn-test.false c.loop-turn.invariant
