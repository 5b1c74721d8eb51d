use Rattle.std.proofs.Common.{◌∙◌}
use Rattle.fb_link.proofs.lemmas.EarliestIs.{earliest_none, earliest_taken, earliest_kept, earliest_all, earliest_within}
use Rattle.fb_link.proofs.arrivals.earliest.Goals as goal
use Rattle.fb_link.proofs.arrivals.earliest.Goals.{then-from-entry, else-from-entry}

pub loop-entry-init : goal.loop-entry-init
loop-entry-init c = earliest_none _ _ _ c.arrival_by-least.ensures.value

pub loop-entry-preserved : goal.loop-entry-preserved
loop-entry-preserved c =
    elim c.if-from-entry.branch [
      | then-from-entry w ↦
          earliest_taken _ _ _ _ _ _ _ c.entries-entry-items.ensures.table c.entries-entry-items.ensures.value c.loop-entry-test.true w.if-from-entry.true
          (w.least-is ∙ w.min-least.ensures) c.loop-entry.invariant
      | else-from-entry w ↦ earliest_kept _ _ _ _ _ _ _ c.loop-entry-test.true w.if-from-entry.false w.least-is c.loop-entry.invariant
    ]

pub returns : goal.returns
returns c =
    let is = earliest_all _ _ _ _ _ c.entries-entry-items.ensures.value c.loop-entry-test.false c.loop-entry.invariant in
    let within = earliest_within _ _ _ c.entries-entry-items.ensures.table is in
    record { value = is; later = within.0; soon = within.1 }
