use Rattle.std.proofs.Common.{◌≡◌, ℕ, ◌<◌, ◌≤◌, ◌++◌, length, suc}
use denote.Text.{Utf8}
use denote.Shadow.{shadow}
use Rattle.toml.specs.Parse.{skip_bom}
use Rattle.fb_deploy_positions.specs.Statements.{statements_from}
use Rattle.fb_deploy_positions.specs.Views.{statements_view}
use Rattle.fb_deploy_positions.proofs.reading.statements_of.Given as goal

abbrev pub invariant-lines : goal.invariant-lines
invariant-lines l =
    shadow (Utf8 l.rest) × (length l.rest ≤ length l.fn.text)
    × (m : ℕ) × (length l.rest < m)
    × (statements_from (suc (length l.fn.text)) (skip_bom l.fn.text) ≡ statements_view l.found.items ++ statements_from m l.rest)

abbrev pub decreases-lines : goal.decreases-lines
decreases-lines l = length l.rest
