use Rattle.std.proofs.Common.{◌≡◌, drop, map}
use Rattle.fb_why.specs.Tokens.{past, past_each}
use Rattle.fb_why.proofs.tokens.+past.Given as goal

-- the token after the rest is that after all
abbrev pub invariant-past_each-loop-argument : goal.invariant-past_each-loop-argument
invariant-past_each-loop-argument l = past_each (map past (drop l.argument-index l.arguments)) l.token ≡ past_each (map past l.arguments) l.first
