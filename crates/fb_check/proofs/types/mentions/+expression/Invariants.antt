use Rattle.fb_check.proofs.lemmas.Common.{◌≡◌, ◌++◌, drop, arguments_of, meant_all}
use Rattle.fb_types.specs.Unknown.{mentions_all}
use Rattle.fb_check.proofs.types.mentions.+expression.Given as goal

-- with what the rest names, all is there
abbrev pub invariant-push_arguments-loop-argument : goal.invariant-push_arguments-loop-argument
invariant-push_arguments-loop-argument l =
    meant_all l.all.items ++ mentions_all (arguments_of (drop l.argument-index l.argument-items)) ≡ meant_all l.fn.all.items ++ mentions_all (arguments_of l.argument-items)
