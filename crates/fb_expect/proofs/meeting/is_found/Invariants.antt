use Rattle.fb_types.proofs.Common.{◌≡◌, length, nat_eq, list_any, slice_split}
use Rattle.fb_expect.specs.Patterns.{is_right_for, is_value_of}
use Rattle.fb_expect.proofs.meeting.is_found.Given as goal

abbrev pub invariant-loop-word : goal.invariant-loop-word
invariant-loop-word l =
    list_any (is_value_of l.condition.variable (is_right_for l.condition l.demand (slice_split (nat_eq 32) l.words))) (slice_split (nat_eq 32) l.words)
    ≡ list_any (is_value_of l.condition.variable (is_right_for l.condition l.demand (slice_split (nat_eq 32) l.words))) (slice_split (nat_eq 32) l.rest)

abbrev pub decreases-loop-word : goal.decreases-loop-word
decreases-loop-word l = length l.rest
