use Rattle.fb_inspect.proofs.lemmas.Common.{◌≡◌, ◌++◌, List, length, system_of, IsNext, EmitsGo}
use Rattle.fb_types.specs.declared.run.Emission as run
use Rattle.fb_inspect.proofs.walk.trail.Trail.emit_all.Given as goal

-- the first of the emissions are in the lines that were read
abbrev pub invariant-loop-emission : goal.invariant-loop-emission
invariant-loop-emission g l = record {
  next : IsNext (system_of l.fixed.table.now.system.now) l.fixed.form l.line.key.tick l.self.reading.line.items l.self.reading.next;
  charts : l.self.marks.charts ≡ l.fn.self.marks.charts;
  came : (es : List run.Emission) × (l.fn.emits ≡ es ++ l.emits)
      × EmitsGo (system_of l.fixed.table.now.system.now) l.fixed.form l.line es l.fn.self l.self (g.R.Read.remaining l.fn.input) (g.R.Read.remaining l.input);
}

abbrev pub decreases-loop-emission : goal.decreases-loop-emission
decreases-loop-emission g l = length l.emits
