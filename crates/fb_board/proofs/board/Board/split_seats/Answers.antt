use Rattle.std.proofs.Common.{rules, All, ◌≡◌, ◌+◌, ℕ, List, [], ◌∷◌, ◌++◌, refl, sym, ap, ◌∙◌, subst, arith, length, ⊎_elim}
use Rattle.std.proofs.lemmas.List.Elements.{All-push}
use Rattle.std.proofs.lemmas.Option.{slice_get_within}
use Rattle.std.specs.Vec.{vec_len}
use Rattle.fb_board.specs.declared.rule.View.{View}
use Rattle.fb_board.specs.Models.{SeatModel, IsNewSeatOf, AreNumbered}
use Rattle.fb_board.specs.View.{new_seat_view}
use Rattle.fb_board.proofs.lemmas.Counts.{slice_get_push}
use Rattle.fb_board.proofs.lemmas.StepsReveal.{splits}
use Rattle.fb_board.proofs.board.Board.split_seats.Goals as goal

-- a new seat's view, by its own number
new_view : {J : Type 0} (view : View J) (n : ℕ) (old jobs : List J) → view ≡ new_seat_view n old → old ≡ jobs → view ≡ new_seat_view view.seat jobs
new_view view n old jobs is same = is ∙ (ap (λ k. new_seat_view k old) (sym (ap (λ v. v.seat) is)) ∙ ap (λ l. new_seat_view view.seat l) same)

-- one more seat with the next number
numbered_more : {J : Type 0} (seats : List (SeatModel J)) (seat : SeatModel J) → AreNumbered seats → seat.knows.seat ≡ length seats + 1 → AreNumbered (seats ++ seat ∷ [])
numbered_more seats seat before is i it at = ⊎_elim (before i it)
    (λ (t : (i ≡ length seats) × (seat ≡ it)). ap (λ s. s.knows.seat) (sym t.1) ∙ (is ∙ ap (λ n. n + 1) (sym t.0))) (slice_get_push seats seat it i at)

pub split_seat-seat-requires : goal.split_seat-seat-requires
split_seat-seat-requires g c = (
  c.loop.invariant.same_board ∙ (ap (λ o. o.board) c.opener.view_is ∙ (c.requires.own ∙ sym (ap (λ b. b.id) c.self.view_is))),
  search rules,
  splits _ _ _ _ (let spare = c.loop.invariant.spare in omega arith),
)

pub loop-init : goal.loop-init
loop-init g c = let none = ap length c.in_ok-seats.ensures.items in record {
  same_board = refl;
  same_room = refl;
  same_jobs = refl;
  spare = let spare = ap (λ o. o.knows.spare) c.opener.view_is ∙ c.requires.spare in omega arith;
  count = c.in_ok-seats.ensures.len;
  new = λ k d low. absurd (omega arith);
  numbered = λ i seat at. let low = slice_get_within _ i seat at in absurd (omega arith);
}

pub loop-preserved : goal.loop-preserved
loop-preserved g c =
    let count : vec_len c.loop.seats ≡ c.loop.counter = c.loop.invariant.count in
    let same : vec_len c.loop.seats ≡ length c.loop.seats.items = search rules in
    let spare = c.loop.invariant.spare in
    let board = c.split_seat-seat.ensures.3 ∙ (c.loop.invariant.same_board ∙ (ap (λ o. o.board) c.opener.view_is ∙ c.requires.own)) in
    let jobs = c.loop.invariant.same_jobs ∙ (ap (λ o. o.knows.jobs) c.opener.view_is ∙ c.requires.knows_jobs) in
    let view = ap (λ me. me.0) c.split_seat-seat.ensures.4 in record {
      same_board = c.split_seat-seat.ensures.0 ∙ c.loop.invariant.same_board;
      same_room = c.loop.invariant.same_room;
      same_jobs = ap (λ me. me.0.jobs) c.split_seat-seat.ensures.2 ∙ c.loop.invariant.same_jobs;
      spare = let left = ap (λ me. me.0.spare) c.split_seat-seat.ensures.2 in omega arith;
      count = c.in_ok-push.ensures.len ∙ ap (λ n. n + 1) count;
      new = subst (λ l. All (IsNewSeatOf c.args.self.now) l) (sym c.in_ok-push.ensures.items)
          (All-push (IsNewSeatOf c.args.self.now) _ _ c.loop.invariant.new (board, new_view _ _ _ _ view jobs));
      numbered = subst (λ l. AreNumbered l) (sym c.in_ok-push.ensures.items)
          (numbered_more _ _ c.loop.invariant.numbered (let number = ap (λ v. v.seat) view in omega arith));
    }

pub returns-clause-board : goal.returns-clause-board
returns-clause-board g c = c.loop.invariant.same_board ∙ ap (λ o. o.board) c.opener.view_is

pub returns-clause-room : goal.returns-clause-room
returns-clause-room g c = ap (λ v. v.cap) c.loop.invariant.same_room ∙ ap (λ o. o.room) c.opener.view_is

pub returns-clause-seats : goal.returns-clause-seats
returns-clause-seats g c =
    (let count = c.loop.invariant.count in let end = c.loop-test.false in let within = c.loop.auto.counter-end in omega arith, c.loop.invariant.new)

pub returns-clause-numbered : goal.returns-clause-numbered
returns-clause-numbered g c = c.loop.invariant.numbered

pub returns-clause-counted : goal.returns-clause-counted
returns-clause-counted g c =
    let spare = c.loop.invariant.spare in let end = c.loop-test.false in let within = c.loop.auto.counter-end in omega arith

pub invariant_of-opener : goal.invariant_of-opener
invariant_of-opener g c = ap (λ v. v.items) c.loop.invariant.same_room ∙ c.opener.invariant
