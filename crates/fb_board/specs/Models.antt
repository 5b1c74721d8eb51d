-- What contracts see of a board, of its opener and of its seats.
-- This project's own profile: no clause of IEC 61499 speaks of a claim board.
use Rattle.std.specs.Prelude.{◌≡◌, ℕ, ◌+◌, ◌-◌, List, length, slice_get, Some, None, IsTrue}
use Rattle.atomic_table.specs.Seated.{TableId}
use Rattle.fb_board.specs.declared.board.TheConstants.{MAX_SEATS}
use Rattle.fb_board.specs.declared.rule.View.{View}
use Rattle.fb_board.specs.View.{new_seat_view}

-- which board it is, and the jobs that it was opened with
pub record BoardModel (J : Type 0) : Type 0 where
  pub id : TableId
  pub jobs : List J

-- which board the seat is of, and what it knows
pub record SeatModel (J : Type 0) : Type 0 where
  pub board : TableId
  pub knows : View J

-- which board it opened, for how many done values it has room, and what it knows
pub record OpenerModel (J : Type 0) : Type 0 where
  pub board : TableId
  pub room : ℕ
  pub knows : View J

module _ {J : Type 0} where
  abbrev pub board_model : TableId → List J → BoardModel J
  board_model id jobs = record { id = id; jobs = jobs }

  abbrev pub seat_model : TableId → View J → SeatModel J
  seat_model board knows = record { board = board; knows = knows }

  abbrev pub opener_model : TableId → ℕ → View J → OpenerModel J
  opener_model board room knows = record { board = board; room = room; knows = knows }

  -- the seat is one of this board's
  abbrev pub IsSeatOf : BoardModel J → SeatModel J → Type 0
  IsSeatOf board seat = (seat.board ≡ board.id) × (seat.knows.jobs ≡ board.jobs)

  -- it is one of this board's, and has no slip
  abbrev pub IsIdleSeatOf : BoardModel J → SeatModel J → Type 0
  IsIdleSeatOf board seat = (seat.board ≡ board.id) × (seat.knows.jobs ≡ board.jobs) × (seat.knows.slip ≡ None)

  -- it is one of this board's, has no slip, and is dry
  abbrev pub IsDrySeatOf : BoardModel J → SeatModel J → Type 0
  IsDrySeatOf board seat = (seat.board ≡ board.id) × (seat.knows.jobs ≡ board.jobs) × (seat.knows.slip ≡ None) × IsTrue seat.knows.dry

  -- it is one of this board's, and took no step yet
  abbrev pub IsNewSeatOf : BoardModel J → SeatModel J → Type 0
  IsNewSeatOf board seat = (seat.board ≡ board.id) × (seat.knows ≡ new_seat_view seat.knows.seat board.jobs)

  -- the seats are numbered in their order, from 1
  abbrev pub AreNumbered : List (SeatModel J) → Type 0
  AreNumbered seats = (i : ℕ) (seat : SeatModel J) → slice_get seats i ≡ Some seat → seat.knows.seat ≡ i + 1

  -- the opener of this board, with room for what is made of each of its jobs
  abbrev pub IsOpenerOf : BoardModel J → OpenerModel J → Type 0
  IsOpenerOf board opener = (opener.board ≡ board.id) × (opener.room ≡ length board.jobs)

  -- how many seats were split off it
  abbrev pub seats_of : OpenerModel J → ℕ
  seats_of opener = MAX_SEATS - opener.knows.spare
