use Rattle.fb_types.proofs.Common.{◌≡◌, ◌≤◌, [], length, All}
use Rattle.fb_check.specs.Stimuli.{AreAllBadUpTo, IsBadAt}
use Rattle.fb_check.proofs.lemmas.StimulusRows.{AreGoodUpTo}
use Rattle.fb_check.proofs.stimuli.rows_by.Given as goal

abbrev pub invariant-loop-row : goal.invariant-loop-row
invariant-loop-row l = record {
  within : l.row ≤ length l.stimuli;
  each : All (IsBadAt l.library l.stimuli) l.found.items;
  all : AreAllBadUpTo l.row l.library l.stimuli l.found.items;
  rows : l.found.items ≡ [] → AreGoodUpTo l.row l.library l.stimuli l.rows;
}
