use Rattle.fb_types.proofs.Common.{◌≡◌, system_of}
use Rattle.fb_inspect.specs.walk.Walking.{AreRows}
use Rattle.fb_inspect.proofs.walk.ahead.Ahead.gather.Given as goal

-- the lines up to here were read
abbrev pub invariant-loop : goal.invariant-loop
invariant-loop g l =
    (AreRows (system_of l.fixed.table.now.system.now) l.fixed.form l.first l.self.rows.items l.self.text.items (g.R.Read.remaining l.fn.input) (g.R.Read.remaining l.input))
    × (l.self.excess ≡ l.fn.self.excess)
