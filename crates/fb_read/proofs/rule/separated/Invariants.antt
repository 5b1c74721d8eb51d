use Rattle.fb_read.proofs.lemmas.Common.{◌≡◌, ◌-◌, separated, separated_from}
use Rattle.fb_read.proofs.rule.separated.Given as goal

abbrev pub invariant-loop-turn : goal.invariant-loop-turn
invariant-loop-turn g l = separated g.T.Rule.parser l.fn.cursor ≡ separated_from g.T.Rule.parser (l._turn-end - l._turn) l.found l.cursor
