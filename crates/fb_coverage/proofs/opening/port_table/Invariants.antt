use Rattle.fb_types.proofs.Common.{◌≡◌, map, take, system_of}
use Rattle.fb_coverage.specs.Openings.{port_row}
use Rattle.fb_coverage.proofs.opening.port_table.Given as goal

-- the rows of the first instances
abbrev pub invariant-loop-instance : goal.invariant-loop-instance
invariant-loop-instance l = l.table.rows ≡ map (port_row (system_of l.system) l.side) (take l.instance (system_of l.system).paths)
