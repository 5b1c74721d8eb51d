use Rattle.fb_types.proofs.Common.{◌≤◌, ◌-◌, List, drop, length, Inputs}
use Rattle.fb_types.specs.declared.run.Form.{Form}
use Rattle.fb_types.specs.declared.run.Line.{Line}
use Rattle.fb_trace.specs.Marks.{AreMarked}
use Rattle.fb_sim.proofs.lemmas.text.Cutting.{IsPassing}
use Rattle.fb_sim.proofs.rounds.join_texts.passed.Given as goal

abbrev pub invariant-loop-count : goal.invariant-loop-count
invariant-loop-count l = record {
  within : l.count ≤ length l.marks;
  passing : (i : Inputs) (form : Form) (lines : List Line) → AreMarked i form l.before l.marks lines → IsPassing i form l.tick l.before lines l.end (drop l.count l.marks);
}

abbrev pub decreases-loop-count : goal.decreases-loop-count
decreases-loop-count l = length l.marks - l.count
