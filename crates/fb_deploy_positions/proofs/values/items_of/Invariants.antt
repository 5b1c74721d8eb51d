use Rattle.std.proofs.Common.{◌≡◌, ℕ, ◌-◌, ◌<◌, ◌++◌, length, map}
use denote.Text.{Utf8}
use denote.Shadow.{shadow}
use Rattle.fb_deploy_positions.specs.Values.{after_value, items_from, items_of}
use Rattle.fb_deploy_positions.proofs.values.items_of.Given as goal

abbrev pub invariant-items : goal.invariant-items
invariant-items l =
    shadow (Utf8 l.rest)
    × (m : ℕ) × (length l.rest < m)
    × (items_of l.fn.depth l.fn.text ≡ map (λ r. r.now) l.found.items ++ items_from (after_value (l.fn.depth - 1)) m l.rest)

abbrev pub decreases-items : goal.decreases-items
decreases-items l = length l.rest
