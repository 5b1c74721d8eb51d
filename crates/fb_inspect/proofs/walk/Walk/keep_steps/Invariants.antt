use Rattle.fb_inspect.proofs.lemmas.Common.{◌+◌, ◌≤◌, All, take, most}
use Rattle.fb_inspect.proofs.walk.Walk.keep_steps.Given as goal

-- the first resources kept within the steps
abbrev pub invariant-loop-own : goal.invariant-loop-own
invariant-loop-own l = All (λ s. most ≤ s.least + l.steps) (take l.own-index l.self.steps.items)
