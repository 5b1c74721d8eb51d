use Rattle.fb_types.proofs.Common.{arith}
use Rattle.fb_session.proofs.lemmas.Showing.{listed_end, listed_turn}
use Rattle.fb_session.proofs.show.put_values.Goals as goal

pub loop-index-preserved : goal.loop-index-preserved
loop-index-preserved c =
    listed_turn c.args.variables.now c.args.values.now c.loop-index.index c.index-variables-index.result _ c.loop-index.text.items c.put_variable.new.text.items _
    c.loop-index-test.true (omega (arith, c.requires, c.loop-index-test.true)) c.index-variables-index.is c.in_ok-put_variable.ensures c.loop-index.invariant

pub returns : goal.returns
returns c =
    listed_end c.args.variables.now c.args.values.now c.loop-index.index c.loop-index.text.items _ (omega (arith, c.loop-index-test.false)) c.loop-index.invariant
