use Rattle.fb_system.proofs.lemmas.Common.{◌≡◌, ◌+◌, length, system_of, IsRowAt, HasRows, Keeps}
use Rattle.fb_system.proofs.heads_of.add_rows.Given as goal

abbrev pub invariant-loop-event : goal.invariant-loop-event
invariant-loop-event l = record {
  kept : Keeps l.fn.rows l.rows;
  count : length l.rows ≡ length l.fn.rows + l.event;
  added : HasRows (IsRowAt (system_of l.system) l.instance l.taken) l.rows (length l.fn.rows) (length l.rows);
}
