use Rattle.std.proofs.Common.{◌≡◌, ℕ, ◌-◌, ◌<◌, length}
use denote.Text.{Utf8}
use denote.Shadow.{shadow}
use Rattle.fb_deploy_positions.specs.Entries.{named_member}
use Rattle.fb_deploy_positions.specs.Values.{after_value, members_from, members_of}
use Rattle.fb_deploy_positions.proofs.values.member_named.Given as goal

abbrev pub invariant-members : goal.invariant-members
invariant-members l =
    shadow (Utf8 l.rest)
    × (m : ℕ) × (length l.rest < m)
    × (named_member (l.fn.depth - 1) l.fn.name (members_of l.fn.depth l.fn.text)
    ≡ named_member (l.fn.depth - 1) l.fn.name (members_from (after_value (l.fn.depth - 1)) m l.rest))

abbrev pub decreases-members : goal.decreases-members
decreases-members l = length l.rest
