use Rattle.std.proofs.Common.{◌≡◌, ℕ, ◌+◌, ◌*◌, ◌<◌, ◌≤◌, length}
use denote.Text.{Utf8}
use denote.Shadow.{shadow}
use Rattle.fb_deploy_positions.specs.Values.{after_items, after_members, after_value}
use Rattle.fb_deploy_positions.proofs.values.+value.Given as goal

abbrev pub decreases-after_items : goal.decreases-after_items
decreases-after_items l = 2 * l.depth + 2

abbrev pub decreases-after_members : goal.decreases-after_members
decreases-after_members l = 2 * l.depth + 2

abbrev pub decreases-after_value : goal.decreases-after_value
decreases-after_value l = 2 * l.depth + 1

abbrev pub invariant-after_items-items : goal.invariant-after_items-items
invariant-after_items-items l =
    shadow (Utf8 l.rest) × (length l.rest ≤ length l.fn.text)
    × ((n : ℕ) → length l.fn.text < n → (m : ℕ) × (length l.rest < m)
    × (after_items (after_value l.fn.depth) n l.fn.text ≡ after_items (after_value l.fn.depth) m l.rest))

abbrev pub decreases-after_items-items : goal.decreases-after_items-items
decreases-after_items-items l = length l.rest

abbrev pub invariant-after_members-members : goal.invariant-after_members-members
invariant-after_members-members l =
    shadow (Utf8 l.rest) × (length l.rest ≤ length l.fn.text)
    × ((n : ℕ) → length l.fn.text < n → (m : ℕ) × (length l.rest < m)
    × (after_members (after_value l.fn.depth) n l.fn.text ≡ after_members (after_value l.fn.depth) m l.rest))

abbrev pub decreases-after_members-members : goal.decreases-after_members-members
decreases-after_members-members l = length l.rest
