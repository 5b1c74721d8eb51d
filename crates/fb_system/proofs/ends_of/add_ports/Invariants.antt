use Rattle.fb_system.proofs.lemmas.Common.{◌≡◌, ◌+◌, length, IsPortRowAt, HasRows, Keeps}
use Rattle.fb_system.proofs.ends_of.add_ports.Given as goal

abbrev pub invariant-loop-event : goal.invariant-loop-event
invariant-loop-event l = record {
  kept : Keeps l.fn.rows l.rows;
  count : length l.rows ≡ length l.fn.rows + l.event;
  added : HasRows (IsPortRowAt l.system l.instance l.is_output) l.rows (length l.fn.rows) (length l.rows);
}
