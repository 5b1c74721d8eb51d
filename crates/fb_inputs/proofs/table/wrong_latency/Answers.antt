use Rattle.fb_inputs.proofs.lemmas.Common.{pos, sym, ◌∙◌, LatencyDraft, has_latency}
use Rattle.fb_inputs.proofs.lemmas.deployments.Tested.{failing_done, failing_here, failing_on}
use Rattle.fb_inputs.proofs.table.wrong_latency.Goals as goal

abbrev blank : LatencyDraft
blank = record { start = pos 0; ticks = pos 0 }

pub returns-then-not-has_latency : goal.returns-then-not-has_latency
returns-then-not-has_latency c =
    failing_here has_latency c.args.table.now c.loop-entry.entry blank c.loop-entry-test.true c.loop-entry.invariant (sym c.has_latency.ensures ∙ c.if-not-has_latency.true)

pub loop-entry-preserved : goal.loop-entry-preserved
loop-entry-preserved c =
    failing_on has_latency c.args.table.now c.loop-entry.entry blank c.loop-entry-test.true c.loop-entry.invariant (sym c.has_latency.ensures ∙ c.if-not-has_latency.false)

pub returns : goal.returns
returns c = failing_done has_latency c.args.table.now c.loop-entry.entry c.loop-entry-test.false c.loop-entry.invariant
