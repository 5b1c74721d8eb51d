-- Each step at a board keeps its rule: the opening, the split, the draw that finds a number, the draw that finds none,
-- and putting back.
use Rattle.std.proofs.Common.{◌≡◌, ◌≢◌, ℕ, zero, suc, ◌+◌, ◌%◌, ◌^◌, ◌<◌, ◌≤◌, false, List, [], ◌∷◌, ◌++◌, map, replicate, length, get_or, set, min, sum_by, slice_get, Some, None, option_to_list, IsTrue, sym, refl, ap, ◌∙◌, subst, ⊎_elim, arith, le_refl, length-set, length-append, get_or-set_other, get_or-set_same, mod-eq_of_lt, true≢false}
use Rattle.std.proofs.lemmas.List.Sums.{sum_by_push}
use Rattle.std.proofs.lemmas.Option.{slice_get_within}
use mathlib.Core.Logic.{dite}
use mathlib.Core.Option.{some, none, some-injective, some-ne-none}
use native.Mathlib.Decide.{ℕ_discrete}
use lib.ListN.{get_elem?, length-replicate, get_or-replicate, length-map}
use Rattle.atomic_table.specs.Table.{keeps, takes, gives, stepped, opening}
use Rattle.atomic_table.proofs.Lists.{at_set, set_here, set_else, at_map}
use Rattle.fb_board.specs.declared.rule.SlotContent.{SlotContent}
use Rattle.fb_board.specs.declared.rule.SlotContent.TheVariants.{Waiting, Home}
use Rattle.fb_board.specs.declared.rule.View.{View}
use Rattle.fb_board.specs.declared.board.TheConstants.{MAX_JOBS}
use Rattle.fb_board.specs.View.{opener_view, view_after_split, split_off_view, view_after_draw, view_after_dry_draw, view_after_put_back, times_drawn, times_back, times_out, dryness}
use Rattle.fb_board.specs.Claims.{BoardState, Knows, AreSeats, MeetsRule, draw_count, drawn_count, flag}
use Rattle.fb_board.proofs.lemmas.Counts.{sum_set, sum_keep, sum_sole, at_from_slice_get, at_push, below, below_no, below_suc, times, times_push, hit, hit_here, hit_else}
use Rattle.fb_board.proofs.lemmas.OneState.{dry_few, not_back, slip_drawn, slip_not_back}

module _ {J : Type 0} where
  -- what holds of each view but one, and of that one after a step, holds of all views after it
  others_stay : (K : ℕ → View J → Type 0) (views : List (View J)) (seat : ℕ) (w : View J) → K seat w → ((j : ℕ) (u : View J) → get_elem? views j ≡ some u → K j u)
      → (j : ℕ) (u : View J) → get_elem? (set views seat w) j ≡ some u → K j u
  others_stay K views seat w mine others j u there = ⊎_elim
      (λ (t : (j ≡ seat) × (w ≡ u)). subst (λ i. K i u) (sym t.0) (subst (K seat) t.1 mine))
      (λ (t : (j ≢ seat) × (get_elem? views j ≡ some u)). others j u t.1) (at_set views seat j w u there)

  -- and of one more view
  and_one : (K : ℕ → View J → Type 0) (views : List (View J)) (w : View J) → K (length views) w → ((j : ℕ) (u : View J) → get_elem? views j ≡ some u → K j u)
      → (j : ℕ) (u : View J) → get_elem? (views ++ w ∷ []) j ≡ some u → K j u
  and_one K views w new others j u there = ⊎_elim (others j u)
      (λ (t : (j ≡ length views) × (w ≡ u)). subst (λ i. K i u) (sym t.0) (subst (K (length views)) t.1 new)) (at_push views w u j there)

  -- a step that leaves a seat's number, its spare seats and its jobs
  seats_stay : {jobs : List J} (views : List (View J)) (seats : AreSeats jobs views) (seat : ℕ) (v w : View J) → get_elem? views seat ≡ some v
      → w.seat ≡ v.seat → w.spare ≡ v.spare → w.jobs ≡ v.jobs → AreSeats jobs (set views seat w)
  seats_stay {jobs} views seats seat v w at same_seat same_spare same_jobs = record {
    few = (let spare = sum_keep (λ u. u.spare) views seat v w at same_spare in let count = length-set views seat w in let few = seats.few in omega arith);
    numbered = others_stay (λ i u. u.seat ≡ i) views seat w (same_seat ∙ seats.numbered seat v at) seats.numbered;
    one_opener = others_stay (λ i u. 0 < u.spare → i ≡ 0) views seat w (λ more. seats.one_opener seat v at (omega arith)) seats.one_opener;
    knows_jobs = others_stay (λ _ u. u.jobs ≡ jobs) views seat w (same_jobs ∙ seats.knows_jobs seat v at) seats.knows_jobs;
  }

  -- a seat is split off the opener
  seats_split : {jobs : List J} (views : List (View J)) (seats : AreSeats jobs views) (seat : ℕ) (v : View J) → get_elem? views seat ≡ some v → 0 < v.spare
      → AreSeats jobs (set views seat (view_after_split v) ++ split_off_view v ∷ [])
  seats_split {jobs} views seats seat v at more =
      let w : View J = view_after_split v in let new : View J = split_off_view v in let left : List (View J) = set views seat w in
      let opener = seats.one_opener seat v at more in let few = seats.few in let count = length-set views seat w in
      let none_else : (j : ℕ) (u : View J) → j ≢ seat → get_elem? views j ≡ some u → u.spare ≡ 0
      = λ j u ne there. dite (ℕ_discrete u.spare 0) (λ none. none) (λ some_spare. absurd (ne (seats.one_opener j u there (omega arith) ∙ sym opener))) in
      let spare : sum_by (λ u. u.spare) views ≡ v.spare = sum_sole (λ u. u.spare) views seat v at none_else in
      let number : new.seat ≡ length left = omega arith in
      let all : (K : ℕ → View J → Type 0) → K seat w → K (length left) new → ((j : ℕ) (u : View J) → get_elem? views j ≡ some u → K j u)
      → (j : ℕ) (u : View J) → get_elem? (left ++ new ∷ []) j ≡ some u → K j u
      = λ K mine theirs others. and_one K left new theirs (others_stay K views seat w mine others) in
      record {
        few = (let cut = sum_set (λ u. u.spare) views seat v w at in let push = sum_by_push (λ (u : View J). u.spare) left new in let one_more = length-append left (new ∷ []) in omega arith);
        numbered = all (λ i u. u.seat ≡ i) (seats.numbered seat v at) number seats.numbered;
        one_opener = all (λ i u. 0 < u.spare → i ≡ 0) (λ _. opener) (λ none. absurd (omega arith)) seats.one_opener;
        knows_jobs = all (λ _ u. u.jobs ≡ jobs) (seats.knows_jobs seat v at) (seats.knows_jobs seat v at) seats.knows_jobs;
      }

module _ {J D : Type 0} {does : J → D → Type 0} {jobs : List J} (s : BoardState J D) (rule : MeetsRule does jobs s) (seat : ℕ) (v : View J) (at : Knows s seat v) where
  -- the words after one more draw: word 0 does not turn over, and no flag changes
  abbrev drawn_words : List ℕ
  drawn_words = set s.words 0 ((draw_count s + 1) % 2 ^ 64)

  count_after : get_or drawn_words 0 0 ≡ draw_count s + 1
  count_after =
      let at_most = rule.at_most in let few_jobs = rule.few_jobs in let few_dry = dry_few s rule in let words = rule.words in
      let small : draw_count s + 1 < 2 ^ 64 = omega arith in
      get_or-set_same s.words 0 ((draw_count s + 1) % 2 ^ 64) 0 (omega arith) ∙ mod-eq_of_lt small

  flag_after : (x : ℕ) → get_or drawn_words (x + 1) 0 ≡ flag s x
  flag_after x = get_or-set_other s.words 0 (x + 1) ((draw_count s + 1) % 2 ^ 64) 0 (λ e. omega arith)

  module _ (held : List (ℕ × SlotContent J D)) (wet : v.dry ≡ false) where
    -- a draw that finds a number
    pub draw_keeps : (job : J) → v.slip ≡ None → draw_count s < length jobs
        → MeetsRule does jobs (stepped s 0 ((draw_count s + 1) % 2 ^ 64) seat held (view_after_draw v (draw_count s)) (takes (draw_count s) (Waiting job)))
    draw_keeps job idle room =
        let k : ℕ = draw_count s in let w : View J = view_after_draw v k in let count = count_after in
        let before : drawn_count s jobs ≡ k = omega arith in let after : min (length jobs) (get_or drawn_words 0 0) ≡ k + 1 = omega arith in
        record {
          words = length-set s.words 0 ((k + 1) % 2 ^ 64) ∙ rule.words;
          slots = length-set s.homes k none ∙ rule.slots;
          few_jobs = rule.few_jobs;
          seats = seats_stay s.views rule.seats seat v w at refl refl refl;
          at_most = (let dry = sum_keep dryness s.views seat v w at refl in omega arith);
          at_least = others_stay (λ _ u. IsTrue u.dry → length jobs ≤ get_or drawn_words 0 0) s.views seat w
              (λ dry. absurd (true≢false (sym dry ∙ wet))) (λ i u there dry. let least = rule.at_least i u there dry in omega arith);
          once = λ x. (
              let sum = sum_set (times_drawn x) s.views seat v w at in let was = rule.once x in let push = times_push x v.drawn k in let next = below_suc x k in
              let old : below x (drawn_count s jobs) ≡ below x k = ap (below x) before in
              let new : below x (min (length jobs) (get_or drawn_words 0 0)) ≡ below x (k + 1) = ap (below x) after in omega arith
              );
          together = (let sum = sum_set (λ u. length u.drawn) s.views seat v w at in let was = rule.together in let push = length-append v.drawn (k ∷ []) in omega arith);
          parted = others_stay (λ _ u. (x : ℕ) → times_drawn x u ≡ times_back x u + times_out x u) s.views seat w
              (λ x. let was = rule.parted seat v at x in let none_out : times_out x v ≡ 0 = ap (λ o. times x (option_to_list o)) idle in
              let push = times_push x v.drawn k in omega arith)
              rule.parted;
          flags = λ x below_n. (let sum = sum_keep (times_back x) s.views seat v w at refl in let was = rule.flags x below_n in let flag_is = flag_after x in omega arith);
          home = λ x i there raised. (
              let flag_is = flag_after x in let flag_was = rule.flags x (slice_get_within jobs x i there) in let none_back = not_back s rule k (le_refl k) in
              let ne : x ≢ k = λ e. (let same : sum_by (times_back x) s.views ≡ sum_by (times_back k) s.views = ap (λ y. sum_by (times_back y) s.views) e in omega arith) in
              let was = rule.home x i there (sym flag_is ∙ raised) in (was.0, set_else s.homes k x none ne ∙ was.1, was.2)
              );
          waiting = λ x i there beyond. (let ne : x ≢ k = λ e. omega arith in set_else s.homes k x none ne ∙ rule.waiting x i there (omega arith));
        }

    -- a draw that finds none
    pub dry_draw_keeps : length jobs ≤ draw_count s → MeetsRule does jobs (stepped s 0 ((draw_count s + 1) % 2 ^ 64) seat held (view_after_dry_draw v) keeps)
    dry_draw_keeps none_left =
        let w : View J = view_after_dry_draw v in let count = count_after in let was_wet : dryness v ≡ 0 = ap (λ dry. dryness record v { dry = dry }) wet in
        let same : min (length jobs) (get_or drawn_words 0 0) ≡ drawn_count s jobs = omega arith in
        record {
          words = length-set s.words 0 ((draw_count s + 1) % 2 ^ 64) ∙ rule.words;
          slots = rule.slots;
          few_jobs = rule.few_jobs;
          seats = seats_stay s.views rule.seats seat v w at refl refl refl;
          at_most = (let dry = sum_set dryness s.views seat v w at in let was = rule.at_most in omega arith);
          at_least = λ i u there dry. omega arith;
          once = λ x. (let sum = sum_keep (times_drawn x) s.views seat v w at refl in let was = rule.once x in
              let new : below x (min (length jobs) (get_or drawn_words 0 0)) ≡ below x (drawn_count s jobs) = ap (below x) same in omega arith);
          together = (let sum = sum_keep (λ u. length u.drawn) s.views seat v w at refl in let was = rule.together in omega arith);
          parted = others_stay (λ _ u. (x : ℕ) → times_drawn x u ≡ times_back x u + times_out x u) s.views seat w (rule.parted seat v at) rule.parted;
          flags = λ x below_n. (let sum = sum_keep (times_back x) s.views seat v w at refl in let was = rule.flags x below_n in let flag_is = flag_after x in omega arith);
          home = λ x i there raised. rule.home x i there (sym (flag_after x) ∙ raised);
          waiting = λ x i there beyond. rule.waiting x i there (omega arith);
        }

  -- putting the number k back
  pub put_back_keeps : (k : ℕ) (done : D) → v.slip ≡ Some k → ((job : J) → slice_get jobs k ≡ Some job → does job done)
      → MeetsRule does jobs (stepped s (k + 1) 1 seat ((k, Home done) ∷ []) (view_after_put_back v k) gives)
  put_back_keeps k done out right =
      let w : View J = view_after_put_back v k in let words : List ℕ = set s.words (k + 1) 1 in let size = rule.words in
      let drawn = slip_drawn s rule seat v at k out in let not_yet = slip_not_back s rule seat v at k out in
      let count : get_or words 0 0 ≡ draw_count s = get_or-set_other s.words (k + 1) 0 1 0 (λ e. omega arith) in
      let now_raised : get_or words (k + 1) 0 ≡ 1 = get_or-set_same s.words (k + 1) 1 0 (omega arith) in
      let flag_stays : (x : ℕ) → x ≢ k → get_or words (x + 1) 0 ≡ flag s x = λ x ne. get_or-set_other s.words (k + 1) (x + 1) 1 0 (λ e. ne (omega arith)) in
      record {
        words = length-set s.words (k + 1) 1 ∙ rule.words;
        slots = length-set s.homes k (some (Home done)) ∙ rule.slots;
        few_jobs = rule.few_jobs;
        seats = seats_stay s.views rule.seats seat v w at refl refl refl;
        at_most = (let dry = sum_keep dryness s.views seat v w at refl in let was = rule.at_most in omega arith);
        at_least = others_stay (λ _ u. IsTrue u.dry → length jobs ≤ get_or words 0 0) s.views seat w
            (λ dry. let least = rule.at_least seat v at dry in omega arith) (λ i u there dry. let least = rule.at_least i u there dry in omega arith);
        once = λ x. (let sum = sum_keep (times_drawn x) s.views seat v w at refl in let was = rule.once x in
            let new : below x (min (length jobs) (get_or words 0 0)) ≡ below x (drawn_count s jobs) = ap (λ n. below x (min (length jobs) n)) count in omega arith);
        together = (let sum = sum_keep (λ u. length u.drawn) s.views seat v w at refl in let was = rule.together in omega arith);
        parted = others_stay (λ _ u. (x : ℕ) → times_drawn x u ≡ times_back x u + times_out x u) s.views seat w
            (λ x. let was = rule.parted seat v at x in let out_was : times_out x v ≡ times x (k ∷ []) = ap (λ o. times x (option_to_list o)) out in
            let push = times_push x v.back k in omega arith)
            rule.parted;
        flags = λ x below_n. (
            let sum = sum_set (times_back x) s.views seat v w at in let was = rule.flags x below_n in let push = times_push x v.back k in dite (ℕ_discrete x k)
            (λ e. (
            let now : get_or words (x + 1) 0 ≡ get_or words (k + 1) 0 = ap (λ y. get_or words (y + 1) 0) e in
            let same : sum_by (times_back x) s.views ≡ sum_by (times_back k) s.views = ap (λ y. sum_by (times_back y) s.views) e in
            let one : hit x k ≡ hit k k = ap (λ y. hit y k) e in let here = hit_here k in omega arith
            ))
            (λ ne. (let flag_is = flag_stays x ne in let else = hit_else x k (λ e. ne (sym e)) in omega arith))
            );
        home = λ x i there raised. dite (ℕ_discrete x k)
            (λ e. (
              done,
              subst (λ y. get_elem? (set s.homes k (some (Home done))) y ≡ some (some (Home done))) (sym e) (set_here s.homes k (some (Home done)) (let slots = rule.slots in omega arith)),
              right i (subst (λ y. slice_get jobs y ≡ Some i) e there),
            ))
            (λ ne. (let was = rule.home x i there (sym (flag_stays x ne) ∙ raised) in (was.0, set_else s.homes k x (some (Home done)) ne ∙ was.1, was.2)));
        waiting = λ x i there beyond. (let ne : x ≢ k = λ e. omega arith in set_else s.homes k x (some (Home done)) ne ∙ rule.waiting x i there (omega arith));
      }

  -- a seat is split off the opener
  pub split_keeps : 0 < v.spare → MeetsRule does jobs record { words = s.words; homes = s.homes; views = set s.views seat (view_after_split v) ++ split_off_view v ∷ [] }
  split_keeps more =
      let w : View J = view_after_split v in let new : View J = split_off_view v in let left : List (View J) = set s.views seat w in
      let all : (K : View J → Type 0) → K w → K new → ((j : ℕ) (u : View J) → Knows s j u → K u) → (j : ℕ) (u : View J) → get_elem? (left ++ new ∷ []) j ≡ some u → K u
      = λ K mine theirs others. and_one (λ _. K) left new theirs (others_stay (λ _. K) s.views seat w mine others) in
      let sum : (f : View J → ℕ) → f w ≡ f v → f new ≡ 0 → sum_by f (left ++ new ∷ []) ≡ sum_by f s.views
      = λ f same none. (let keep = sum_keep f s.views seat v w at same in let push = sum_by_push f left new in omega arith) in
      record {
        words = rule.words;
        slots = rule.slots;
        few_jobs = rule.few_jobs;
        seats = seats_split s.views rule.seats seat v at more;
        at_most = (let dry = sum dryness refl refl in let was = rule.at_most in omega arith);
        at_least = all (λ u. IsTrue u.dry → length jobs ≤ draw_count s) (rule.at_least seat v at) (λ dry. absurd (true≢false (sym dry))) rule.at_least;
        once = λ x. sum (times_drawn x) refl refl ∙ rule.once x;
        together = sum (λ u. length u.drawn) refl refl ∙ rule.together;
        parted = all (λ u. (x : ℕ) → times_drawn x u ≡ times_back x u + times_out x u) (rule.parted seat v at) (λ x. refl) rule.parted;
        flags = λ x below_n. rule.flags x below_n ∙ sym (sum (times_back x) refl refl);
        home = rule.home;
        waiting = rule.waiting;
      }

module _ {J D : Type 0} (does : J → D → Type 0) (jobs : List J) where
  only : (v u : View J) (seat : ℕ) → get_elem? (v ∷ []) seat ≡ some u → (seat ≡ 0) × (v ≡ u)
  only v u zero there = (refl, some-injective v u there)
  only v u (suc seat) there = absurd (some-ne-none u (sym there))

  -- the board as it is made
  opening_keeps_plain : length jobs ≤ MAX_JOBS → MeetsRule does jobs (opening (replicate (length jobs + 1) 0) (map Waiting jobs) (opener_view jobs))
  opening_keeps_plain few =
      let n : ℕ = length jobs in let words : List ℕ = replicate (n + 1) 0 in
      let zeros : (k : ℕ) → k < n + 1 → get_or words k 0 ≡ 0 = λ k low. get_or-replicate (n + 1) k 0 0 low in
      let first : get_or words 0 0 ≡ 0 = zeros 0 (omega arith) in
      let all : (K : ℕ → View J → Type 0) → K 0 (opener_view jobs) → (j : ℕ) (u : View J) → get_elem? (opener_view jobs ∷ []) j ≡ some u → K j u
      = λ K mine j u there. (let t = only (opener_view jobs) u j there in subst (λ i. K i u) (sym t.0) (subst (K 0) t.1 mine)) in
      record {
        words = length-replicate (n + 1) 0;
        slots = length-map (map Waiting jobs) some ∙ length-map jobs Waiting;
        few_jobs = few;
        seats = record {
          few = refl;
          numbered = all (λ i u. u.seat ≡ i) refl;
          one_opener = all (λ i u. 0 < u.spare → i ≡ 0) (λ _. refl);
          knows_jobs = all (λ _ u. u.jobs ≡ jobs) refl;
        };
        at_most = omega arith;
        at_least = all (λ _ u. IsTrue u.dry → n ≤ get_or words 0 0) (λ dry. absurd (true≢false (sym dry)));
        once = λ k. sym (below_no k (min n (get_or words 0 0)) (omega arith));
        together = omega arith;
        parted = all (λ _ u. (k : ℕ) → times_drawn k u ≡ times_back k u + times_out k u) (λ k. refl);
        flags = λ k below_n. zeros (k + 1) (omega arith);
        home = λ k job there raised. (let room = slice_get_within jobs k job there in let lowered = zeros (k + 1) (omega arith) in absurd (omega arith));
        waiting = λ k job there _. at_map some (map Waiting jobs) k (Waiting job) (at_map Waiting jobs k job (at_from_slice_get jobs k job there));
      }

  pub opening_keeps : (words : List ℕ) (slots : List (SlotContent J D)) → words ≡ replicate (length jobs + 1) 0 → slots ≡ map Waiting jobs → length jobs ≤ MAX_JOBS
      → MeetsRule does jobs (opening words slots (opener_view jobs))
  opening_keeps words slots words_are slots_are few = subst (λ (z : List ℕ × List (SlotContent J D)). MeetsRule does jobs (opening z.0 z.1 (opener_view jobs)))
      (λ i. (sym words_are i, sym slots_are i)) (opening_keeps_plain few)
