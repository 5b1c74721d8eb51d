use Rattle.fb_check.proofs.lemmas.Common.{◌≡◌, true, length}
use Rattle.fb_types.proofs.Common.{◌-◌}
use Rattle.fb_check.specs.networks.Heights.{mark_at}
use Rattle.fb_check.proofs.lemmas.networks.Lasting.{LeadHere, count_set}
use Rattle.fb_check.proofs.networks.heights.walk.Given as goal

abbrev pub invariant-steps : goal.invariant-steps
invariant-steps l = record {
  marked : mark_at l.marks l.block ≡ true;
  counted : length l.seen ≡ length l.blocks;
  lead : LeadHere l.blocks l.marks l.seen l.block;
}

-- each step comes to one more type
abbrev pub decreases-steps : goal.decreases-steps
decreases-steps l = length l.seen - count_set l.seen
