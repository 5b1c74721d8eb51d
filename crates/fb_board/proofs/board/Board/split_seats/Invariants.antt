use Rattle.std.proofs.Common.{◌≡◌, ◌+◌, All, vec_len}
use Rattle.fb_board.specs.declared.board.TheConstants.{MAX_SEATS}
use Rattle.fb_board.specs.Models.{IsNewSeatOf, AreNumbered}
use Rattle.fb_board.proofs.board.Board.split_seats.Given as goal

abbrev pub invariant-loop : goal.invariant-loop
invariant-loop g l = record {
  same_board : l.opener-inside.seat.table_id ≡ l.initial.opener-inside.seat.table_id;
  same_room : l.opener-inside.done ≡ l.initial.opener-inside.done;
  same_jobs : l.opener-inside.seat.me.0.jobs ≡ l.initial.opener-inside.seat.me.0.jobs;
  spare : l.opener-inside.seat.me.0.spare + l.counter ≡ MAX_SEATS;
  count : vec_len l.seats ≡ l.counter;
  new : All (IsNewSeatOf l.self) l.seats.items;
  numbered : AreNumbered l.seats.items;
}
