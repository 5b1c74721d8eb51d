use Rattle.std.proofs.Common.{◌≡◌, ◌-◌, suc, sym, ◌∙◌, arith}
use Rattle.fb_inspect.proofs.walk.steps.TickSteps.step.Goals as goal

pub returns-clause-used : goal.returns-clause-used
returns-clause-used c =
    let left = c.left_at-left.result in
    let one : left ≡ suc (left - 1) = omega arith in
    sym c.left_at-left.ensures ∙ one
