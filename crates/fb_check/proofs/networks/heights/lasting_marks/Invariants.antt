use Rattle.fb_check.proofs.lemmas.Common.{◌≡◌, ℕ}
use Rattle.fb_check.specs.networks.Heights.{marks_after}
use Rattle.fb_check.proofs.lemmas.networks.Lasting.{count_set}
use Rattle.fb_check.proofs.networks.heights.lasting_marks.Given as goal

abbrev pub invariant-rounds : goal.invariant-rounds
invariant-rounds l = (r : ℕ) × (l.marks.items ≡ marks_after r l.blocks)

abbrev pub decreases-rounds : goal.decreases-rounds
decreases-rounds l = count_set l.marks.items
