use Rattle.fb_system.proofs.lemmas.Common.{◌≡◌, ◌+◌, length, system_of, IsSourceRowAt, HasRows, Keeps}
use Rattle.fb_system.proofs.ends_of.add_sources.Given as goal

abbrev pub invariant-loop-variable : goal.invariant-loop-variable
invariant-loop-variable l = record {
  kept : Keeps l.fn.rows l.rows;
  count : length l.rows ≡ length l.fn.rows + l.variable;
  added : HasRows (IsSourceRowAt (system_of l.system) l.instance l.is_output) l.rows (length l.fn.rows) (length l.rows);
}
