use Rattle.fb_types.proofs.Common.{sym, ◌∙◌, Contains-get_or}
use Rattle.fb_why.proofs.explanation.look_up.Goals as goal

pub returns-then-is_called-clause-named : goal.returns-then-is_called-clause-named
returns-then-is_called-clause-named c = sym c.is_called.ensures ∙ c.if-is_called.true

pub returns-then-is_called-clause-whole : goal.returns-then-is_called-clause-whole
returns-then-is_called-clause-whole c = Contains-get_or c.args.table.now c.loop-explanation.explanation-index _ c.loop-explanation-test.true
