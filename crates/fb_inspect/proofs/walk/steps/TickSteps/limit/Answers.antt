use Rattle.fb_inspect.proofs.lemmas.Common.{◌+◌, ◌-◌, ℕ, Some, ap, ◌∙◌, Left, most}
use Rattle.fb_inspect.proofs.walk.steps.TickSteps.limit.Goals as goal

pub returns-clause-left : goal.returns-clause-left
returns-clause-left c =
    let left_as : ℕ → Left = λ n. record { tick = Some c.args.tick; left = n; least = c.args.self.now.least } in
    ap left_as
    (c.in-Some.ensures.left ∙ ap (λ (n : ℕ). (n + c.args.steps) - most) c.left_at.ensures)
