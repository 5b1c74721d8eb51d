use Rattle.fb_read.proofs.lemmas.Common.{◌≡◌, ◌-◌, many_after, many_from}
use Rattle.fb_read.proofs.rule.many_after.Given as goal

abbrev pub invariant-loop-turn : goal.invariant-loop-turn
invariant-loop-turn g l = many_after g.T.Rule.parser l.end l.fn.found l.fn.cursor ≡ many_from g.T.Rule.parser l.end (l._turn-end - l._turn) l.found l.cursor
