use Rattle.fb_check.proofs.lemmas.Common.{◌≡◌, Some, take, each_or_none, slot_of}
use Rattle.fb_check.proofs.stimuli.slots_of.Given as goal

abbrev pub invariant-loop-index : goal.invariant-loop-index
invariant-loop-index l = each_or_none (slot_of l.directory l.inputs l.stimulus) (take l.index l.settings) ≡ Some l.slots
