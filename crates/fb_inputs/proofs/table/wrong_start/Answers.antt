use Rattle.fb_inputs.proofs.lemmas.Common.{pos, sym, ◌∙◌, LatencyDraft}
use Rattle.fb_inputs.proofs.lemmas.deployments.Tested.{order_done, order_here, order_on}
use Rattle.fb_inputs.proofs.table.wrong_start.Goals as goal

abbrev blank : LatencyDraft
blank = record { start = pos 0; ticks = pos 0 }

pub returns-then-not-follows : goal.returns-then-not-follows
returns-then-not-follows c =
    order_here c.args.table.now c.loop-entry.entry c.loop-entry.last blank c.loop-entry-test.true c.loop-entry.invariant (sym c.follows.ensures ∙ c.if-not-follows.true)

pub loop-entry-preserved : goal.loop-entry-preserved
loop-entry-preserved c =
    rw c.start_of.ensures (order_on c.args.table.now c.loop-entry.entry c.loop-entry.last blank c.loop-entry-test.true c.loop-entry.invariant (sym c.follows.ensures ∙ c.if-not-follows.false))

pub returns : goal.returns
returns c = order_done c.args.table.now c.loop-entry.entry c.loop-entry.last c.loop-entry-test.false c.loop-entry.invariant
