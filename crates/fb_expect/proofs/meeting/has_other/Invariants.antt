use Rattle.fb_types.proofs.Common.{◌≡◌, length, nat_eq, slice_split}
use Rattle.fb_expect.specs.Patterns.{are_as, has_value}
use Rattle.fb_expect.proofs.meeting.has_other.Given as goal

abbrev pub invariant-loop-word : goal.invariant-loop-word
invariant-loop-word l =
    has_value l.name (λ other. are_as l.demand l.comparison l.found other) (slice_split (nat_eq 32) l.words)
    ≡ has_value l.name (λ other. are_as l.demand l.comparison l.found other) (slice_split (nat_eq 32) l.rest)

abbrev pub decreases-loop-word : goal.decreases-loop-word
decreases-loop-word l = length l.rest
