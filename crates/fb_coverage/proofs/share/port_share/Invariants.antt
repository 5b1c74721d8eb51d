use Rattle.fb_types.proofs.Common.{◌≡◌, ◌∷◌, ℕ, [], drop, system_of, Path}
use Rattle.fb_coverage.specs.Listed.{listed}
use Rattle.fb_coverage.specs.Shares.{counted_row, none_counted, with_rows}
use Rattle.fb_coverage.proofs.share.port_share.Given as goal

-- with the rows of the rest, all are counted
abbrev pub invariant-loop-instance : goal.invariant-loop-instance
invariant-loop-instance l =
    let sys = system_of l.system in
    let row = λ (k : ℕ) (p : Path). counted_row l.system.library sys l.marks k p ∷ [] in
    with_rows l.share (listed row l.instance (drop l.instance sys.paths)) ≡ with_rows none_counted (listed row 0 sys.paths)
