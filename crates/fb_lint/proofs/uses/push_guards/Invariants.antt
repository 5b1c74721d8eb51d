use Rattle.fb_lint.proofs.lemmas.Common.{◌≡◌, ◌++◌, drop, flat_map, guard_mentions, meant_all}
use Rattle.fb_lint.proofs.uses.push_guards.Given as goal

-- with what the rest adds, all is there
abbrev pub invariant-loop-transition : goal.invariant-loop-transition
invariant-loop-transition l = meant_all l.mentions.items ++ flat_map guard_mentions (drop l.transition-index l.transitions) ≡ meant_all l.fn.mentions.items ++ flat_map guard_mentions l.transitions
