use Rattle.fb_types.proofs.Common.{length, All, system_of}
use Rattle.fb_system.specs.Lines.{BelongsTo}
use Rattle.fb_trace.proofs.lemmas.lines.MarkedRuns.{IsMarkedTo}
use Rattle.fb_trace.proofs.marks.marked_text.Given as goal

abbrev pub invariant-loop-first : goal.invariant-loop-first
invariant-loop-first l = record {
  marked : IsMarkedTo l.system l.form l.lines l.marks.items l.text.items l.page.waiting l.rest;
  belong : All (BelongsTo (system_of l.system)) l.rest;
}

abbrev pub decreases-loop-first : goal.decreases-loop-first
decreases-loop-first l = length l.rest
