use Rattle.fb_read.proofs.lemmas.Common.{◌≡◌, ◌-◌, run_after, run_from}
use Rattle.fb_read.proofs.rule.run_after.Given as goal

abbrev pub invariant-loop-turn : goal.invariant-loop-turn
invariant-loop-turn g l = run_after g.T.Rule.parser l.begin l.fn.found l.fn.cursor ≡ run_from g.T.Rule.parser l.begin (l._turn-end - l._turn) l.found l.cursor
