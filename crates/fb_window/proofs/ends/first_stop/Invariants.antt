use Rattle.fb_types.proofs.Common.{◌≡◌, ◌<◌, Some}
use Rattle.fb_types.specs.declared.run.StopMark.{StopMark}
use Rattle.fb_window.proofs.lemmas.lines.FoundLines.{FirstOf}
use Rattle.fb_window.proofs.ends.first_stop.Given as goal

abbrev pub invariant-loop-index : goal.invariant-loop-index
invariant-loop-index l = record {
  first_of : FirstOf l.resources l.index l.first;
  placed : (m : StopMark) → l.first ≡ Some m → m.resource < l.index;
}
