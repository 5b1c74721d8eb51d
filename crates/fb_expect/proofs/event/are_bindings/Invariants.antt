use Rattle.fb_types.proofs.Common.{◌≡◌, length, nat_eq, list_all, slice_split}
use Rattle.fb_expect.specs.Words.{is_binding}
use Rattle.fb_expect.proofs.event.are_bindings.Given as goal

abbrev pub invariant-loop-word : goal.invariant-loop-word
invariant-loop-word l = list_all is_binding (slice_split (nat_eq 32) l.words) ≡ list_all is_binding (slice_split (nat_eq 32) l.rest)

abbrev pub decreases-loop-word : goal.decreases-loop-word
decreases-loop-word l = length l.rest
