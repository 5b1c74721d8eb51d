use Rattle.std.proofs.Common.{◌≡◌, drop}
use Rattle.fb_check.specs.types.Trees.{arguments_of}
use Rattle.fb_lint.specs.Constants.{some_divides}
use Rattle.fb_lint.proofs.constants.+division.Given as goal

-- the arguments before do not divide by 0
abbrev pub invariant-some_divides-loop-argument : goal.invariant-some_divides-loop-argument
invariant-some_divides-loop-argument l =
    some_divides (arguments_of l.argument-items) ≡ some_divides (arguments_of (drop l.argument-index l.argument-items))
