use Rattle.fb_types.proofs.Common.{◌≡◌, length, nat_eq, list_all, slice_split}
use Rattle.fb_expect.specs.Words.{is_name}
use Rattle.fb_expect.proofs.names.is_path.Given as goal

abbrev pub invariant-loop-name : goal.invariant-loop-name
invariant-loop-name l = list_all is_name (slice_split (nat_eq 46) l.text) ≡ list_all is_name (slice_split (nat_eq 46) l.rest)

abbrev pub decreases-loop-name : goal.decreases-loop-name
decreases-loop-name l = length l.rest
