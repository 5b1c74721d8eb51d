-- What follows from the rule of a board, in one state that meets it.
use Rattle.std.proofs.Common.{◌≡◌, ◌≢◌, ◌⊎◌, ℕ, ◌+◌, ◌<◌, ◌≤◌, true, false, List, length, sum_by, slice_get, Option, Some, None, option_to_list, Contains, IsTrue, sym, ap, ◌∙◌, inl, inr, arith, lt_of_not-le}
use Rattle.std.proofs.lemmas.Option.{slice_get_within}
use mathlib.Core.Logic.{dite}
use native.Mathlib.Decide.{dec_le, ℕ_discrete}
use Rattle.fb_board.specs.declared.rule.View.{View}
use Rattle.fb_board.specs.declared.board.TheConstants.{MAX_SEATS}
use Rattle.fb_board.specs.View.{times_drawn, times_back, times_out, dryness}
use Rattle.fb_board.specs.Claims.{BoardState, Knows, MeetsRule, draw_count, drawn_count, flag}
use Rattle.fb_board.specs.Laws.{IsWaiting, IsOut, IsBack}
use Rattle.fb_board.proofs.lemmas.Counts.{sum_split, sum_at, sum_two, find_one, sum_few, below_yes, below_no, below_some, below_one, times, hit_here, hit_else, times_some, times_contained, times_none}

-- a slip is there once
pub out_once : (slip : Option ℕ) (k : ℕ) → slip ≡ Some k → times k (option_to_list slip) ≡ 1
out_once slip k is =
    let same : times k (option_to_list slip) ≡ times k (option_to_list (Some k)) = ap (λ o. times k (option_to_list o)) is in
    let here = hit_here k in omega arith

-- and nothing else is
out_is : (slip : Option ℕ) (k : ℕ) → times k (option_to_list slip) ≡ 1 → slip ≡ Some k
out_is None k once = absurd (omega arith)
out_is (Some x) k once = dite (ℕ_discrete x k) (λ same. ap Some same) (λ ne. let else = hit_else k x ne in absurd (omega arith))

dryness_few : {J : Type 0} (v : View J) → dryness v ≤ 1
dryness_few v = elim v.dry as (λ dry. dryness record v { dry = dry } ≤ 1) [ true ↦ omega arith | false ↦ omega arith ]

module _ {J D : Type 0} {does : J → D → Type 0} {jobs : List J} (s : BoardState J D) (rule : MeetsRule does jobs s) where
  -- how often all seats together drew k
  drawn_below : (k : ℕ) → k < drawn_count s jobs → sum_by (times_drawn k) s.views ≡ 1
  drawn_below k reached = rule.once k ∙ below_yes k (drawn_count s jobs) reached

  drawn_beyond : (k : ℕ) → drawn_count s jobs ≤ k → sum_by (times_drawn k) s.views ≡ 0
  drawn_beyond k beyond = rule.once k ∙ below_no k (drawn_count s jobs) beyond

  drawn_one : (k : ℕ) → sum_by (times_drawn k) s.views ≤ 1
  drawn_one k = let once = rule.once k in let one = below_one k (drawn_count s jobs) in omega arith

  drawn_some : (k : ℕ) → 1 ≤ sum_by (times_drawn k) s.views → k < drawn_count s jobs
  drawn_some k some_drew = below_some k (drawn_count s jobs) (let once = rule.once k in omega arith)

  -- what was drawn was put back or is out
  back_or_out : (k : ℕ) → sum_by (times_drawn k) s.views ≡ sum_by (times_back k) s.views + sum_by (times_out k) s.views
  back_or_out k = sum_split (times_drawn k) (times_back k) (times_out k) s.views (λ seat v at. rule.parted seat v at k)

  pub dry_few : sum_by dryness s.views ≤ MAX_SEATS + 1
  dry_few = let at_most_all = sum_few dryness dryness_few s.views in let few = rule.seats.few in omega arith

  -- no seat put back a number that nobody drew
  pub not_back : (k : ℕ) → draw_count s ≤ k → sum_by (times_back k) s.views ≡ 0
  not_back k beyond = let none_drew = drawn_beyond k (omega arith) in let parts = back_or_out k in omega arith

  module _ (seat : ℕ) (v : View J) (at : Knows s seat v) where
    pub drawn_few : length v.drawn ≤ length jobs
    drawn_few = let mine = sum_at (λ u. length u.drawn) s.views seat v at in let all = rule.together in omega arith

    -- a number that no draw reached is not in its list
    pub undrawn : (k : ℕ) → drawn_count s jobs ≤ k → ¬ Contains v.drawn k
    undrawn k beyond =
        let mine = sum_at (times_drawn k) s.views seat v at in let none_drew = drawn_beyond k beyond in
        times_none k v.drawn (omega arith)

    -- if it drew k, it drew it once, and no other seat did
    pub drawn_once : (k : ℕ) → Contains v.drawn k → times_drawn k v ≡ 1
    drawn_once k mine =
        let mine_some = times_contained k v.drawn mine in let mine_few = sum_at (times_drawn k) s.views seat v at in
        let one = drawn_one k in omega arith

    pub alone : (k : ℕ) → Contains v.drawn k → (other : ℕ) (w : View J) → other ≢ seat → Knows s other w → ¬ Contains w.drawn k
    alone k mine other w ne there theirs =
        let mine_some = times_contained k v.drawn mine in let theirs_some = times_contained k w.drawn theirs in
        let both = sum_two (times_drawn k) s.views other seat w v ne there at in let one = drawn_one k in omega arith

    pub one_seat : (k other : ℕ) (w : View J) → Knows s other w → Contains v.drawn k → Contains w.drawn k → seat ≡ other
    one_seat k other w there mine theirs =
        dite (ℕ_discrete other seat) (λ e. sym e) (λ ne. absurd (alone k mine other w ne there theirs))

    -- if it is dry, every number was drawn
    pub all_drawn : IsTrue v.dry → (k : ℕ) → k < length jobs → (other : ℕ) × (w : View J) × Knows s other w × Contains w.drawn k
    all_drawn dry k room =
        let all_reached = rule.at_least seat v at dry in let found = find_one (times_drawn k) s.views (drawn_below k (omega arith)) in
        (found.0, found.1, found.2, times_some k found.1.drawn (let one = found.3 in omega arith))

    -- the number of its slip was drawn, and no seat put it back
    pub slip_drawn : (k : ℕ) → v.slip ≡ Some k → k < drawn_count s jobs
    slip_drawn k out = drawn_some k
        (let one = out_once v.slip k out in let mine = sum_at (times_out k) s.views seat v at in let parts = back_or_out k in omega arith)

    pub slip_not_back : (k : ℕ) → v.slip ≡ Some k → sum_by (times_back k) s.views ≡ 0
    slip_not_back k out =
        let one = out_once v.slip k out in let mine = sum_at (times_out k) s.views seat v at in
        let parts = back_or_out k in let most = drawn_one k in omega arith

    -- the flag of a number that it put back is 1
    pub back_raised : (k : ℕ) → Contains v.back k → flag s k ≡ 1
    back_raised k back =
        let mine_some = times_contained k v.back back in let mine = sum_at (times_back k) s.views seat v at in
        let parts = back_or_out k in let most = drawn_one k in let reached = drawn_some k (omega arith) in
        let flag_is = rule.flags k (omega arith) in omega arith

  -- a number that was drawn is out with one seat, or home
  drawn_index : (k : ℕ) (job : J) → slice_get jobs k ≡ Some job → k < draw_count s → IsOut s k ⊎ IsBack s k does job
  drawn_index k job there reached =
      let room = slice_get_within jobs k job there in
      let found = find_one (times_drawn k) s.views (drawn_below k (omega arith)) in
      let seat : ℕ = found.0 in let v : View J = found.1 in let at : Knows s seat v = found.2 in
      let drawn = times_some k v.drawn (let one = found.3 in omega arith) in
      let parts = rule.parted seat v at k in let once : times_drawn k v ≡ 1 = found.3 in
      dite (ℕ_discrete (times_out k v) 0)
      (λ not_out.
      let back = times_some k v.back (omega arith) in let raised = back_raised seat v at k back in let done = rule.home k job there raised in
      inr record {
        raised = raised;
        seat = seat;
        view = v;
        here = at;
        drawn = drawn;
        back = back;
        others = alone seat v at k drawn;
        done = done.0;
        slot = done.1;
        does_job = done.2;
      })
      (λ out.
      let slip = out_is v.slip k (omega arith) in
      inl record {
        lowered = rule.flags k room ∙ slip_not_back seat v at k slip;
        seat = seat;
        view = v;
        here = at;
        drawn = drawn;
        slip = slip;
        others = alone seat v at k drawn;
      })

  -- each number waits, is out with one seat, or is home
  pub index : (k : ℕ) (job : J) → slice_get jobs k ≡ Some job → IsWaiting s k job ⊎ (IsOut s k ⊎ IsBack s k does job)
  index k job there = dite (dec_le (draw_count s) k)
      (λ beyond. inl record {
        lowered = rule.flags k (slice_get_within jobs k job there) ∙ not_back k beyond;
        undrawn = λ seat v at. undrawn seat v at k (omega arith);
        slot = rule.waiting k job there beyond;
      })
      (λ no. inr (drawn_index k job there (lt_of_not-le no)))
