use Rattle.fb_lint.proofs.lemmas.Common.{◌≡◌, drop, choices_of}
use Rattle.fb_lint.specs.Constants.{condition_divides}
use Rattle.fb_lint.proofs.constants.condition_divides.Given as goal

-- the conditions before do not divide by 0
abbrev pub invariant-loop-choice : goal.invariant-loop-choice
invariant-loop-choice l = condition_divides (choices_of l.choices) ≡ condition_divides (choices_of (drop l.choice-index l.choices))
