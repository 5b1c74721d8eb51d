use Rattle.std.proofs.Common.{All, ap, arith, subst, sym, ◌∙◌}
use Rattle.std.proofs.lemmas.List.Elements.{All-drop}
use Rattle.fb_board.specs.Models.{BoardModel, IsIdleSeatOf, IsNewSeatOf, SeatModel}
use Rattle.fb_phase.proofs.crew.Crew.begin.Goals as goal

new_is_idle : {J : Type 0} (board : BoardModel J) (seat : SeatModel J) → IsNewSeatOf board seat → IsIdleSeatOf board seat
new_is_idle board seat new = (new.0, rw new.1, rw new.1)

-- the seats that are left are new, and the share shows their board
pub shifts-requires-after_bounds : goal.shifts-requires-after_bounds
shifts-requires-after_bounds g c κs within =
    let board = c.in_ok-board.board in
    let seats = c.in_ok-board.seats.items in
    let idle : All (IsIdleSeatOf board) seats = λ k d few. new_is_idle board _ (c.in_ok-board.ensures.seats.1 k d few) in
    let left : All (IsIdleSeatOf board) c.remove-seat.new.self.items = rw c.remove-seat.ensures.items (All-drop (IsIdleSeatOf board) 1 seats idle) in
    rw c.in-Ok.ensures.ok left

pub returns : goal.returns
returns g c = ap (λ b. b.jobs) c.in-Ok.ensures.ok ∙ c.in_ok-board.ensures.jobs

-- each seat is the calling thread's or that of a shift, and each shift was called or is late
pub invariant_of-result : goal.invariant_of-result
invariant_of-result g c =
    let board = c.in_ok-board.board in
    let seats = c.in_ok-board.ensures.seats in
    let all = c.in_ok-board.seats.ok.0 in
    let some = c.requires.few_workers.0 in
    let counted = c.in_ok-board.ensures.counted in
    let others = c.remove-seat.ensures.len in
    let made = c.in_ok-shifts.ensures in
    let apart = c.in_ok-late.ensures.tail_len in
    let first = c.in_ok-late.ensures.len in
    let called = c.len-called.ensures in
    let kept = c.call-kept.ensures in
    let back = c.len-4.ensures in
    let late = c.in_ok-append.ensures.len in
    let room = c.in_ok-home.ensures.exact in
    let count = c.len-2.ensures in
    let own = new_is_idle board _ (subst (λ s. IsNewSeatOf board s) (sym c.remove-seat.ensures.value) (seats.1 0 c.remove-seat.result (let n = seats.0 in omega arith))) in (
      rw c.in-Ok.ensures.ok c.in_ok-board.ensures.opener,
      rw c.in-Ok.ensures.ok own,
      (let n = seats.0 in omega arith),
      c.in_ok-home.ensures.items,
      omega arith,
    )
