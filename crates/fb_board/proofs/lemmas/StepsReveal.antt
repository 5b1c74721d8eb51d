-- Each step may be taken in every state that meets the rule, and what it reveals to its seat holds afterwards.
use Rattle.std.proofs.Common.{◌≡◌, ℕ, ◌+◌, ◌%◌, ◌^◌, ◌<◌, ◌≤◌, Bool, false, List, [], ◌∷◌, length, set, slice_get, Some, None, sym, refl, ap, ◌∙◌, subst, arith, lt_of_not-le}
use Rattle.std.proofs.lemmas.List.Elements.{Contains-push}
use mathlib.Core.Logic.{dite}
use mathlib.Core.Option.{some, none}
use native.Mathlib.Decide.{dec_le}
use lib.ListN.{get_elem?}
use Rattle.atomic_table.specs.Table.{Me, Act, step, keeps, takes, gives, rest, stepped, carried_after, Valid, Allows, Splits}
use Rattle.atomic_table.specs.Seated.{TableId}
use Rattle.atomic_table.proofs.Lists.{set_here}
use Rattle.fb_board.specs.declared.rule.SlotContent.{SlotContent}
use Rattle.fb_board.specs.declared.rule.SlotContent.TheVariants.{Waiting, Home}
use Rattle.fb_board.specs.declared.rule.View.{View}
use Rattle.fb_board.specs.View.{view_after_split, split_off_view, view_after_draw, view_after_dry_draw, view_after_put_back}
use Rattle.fb_board.specs.Claims.{BoardState, Knows, MeetsRule, draw_count}
use Rattle.fb_board.specs.Moment.{IsAlone, IsAllDrawn, IsHome, Draws, PutsBack, PutsBackDone, IsSound, slots_with}
use Rattle.fb_board.specs.Models.{SeatModel, seat_model}
use Rattle.fb_board.proofs.lemmas.Counts.{within, is_there}
use Rattle.fb_board.proofs.lemmas.OneState.{undrawn, drawn_few, alone, all_drawn, slip_drawn, back_raised}
use Rattle.fb_board.proofs.lemmas.StepsKeepRule.{draw_keeps, dry_draw_keeps, put_back_keeps, split_keeps}

-- a list that begins with an element is that element and the rest
pub begins : {A : Type 0} (l tail : List (ℕ × A)) (k : ℕ) (a : A) → l ≡ (k, a) ∷ tail → l ≡ (k, a) ∷ rest l
begins l tail k a e = e ∙ ap (λ m. (k, a) ∷ rest m) (sym e)

module _ {J D : Type 0} (does : J → D → Type 0) (jobs : List J) where
  -- a seat has its new view after a step
  sits : (s : BoardState J D) (rule : MeetsRule does jobs s) (seat : ℕ) (v w : View J) → Knows s seat v → w.seat ≡ v.seat → get_elem? (set s.views seat w) w.seat ≡ some w
  sits s rule seat v w at same = subst (λ i. get_elem? (set s.views seat w) i ≡ some w) (sym (same ∙ rule.seats.numbered seat v at))
      (set_here s.views seat w (within s.views seat v at))

  module _ (s : BoardState J D) (rule : MeetsRule does jobs s) (seat : ℕ) (me : Me (SlotContent J D) (View J))
      (at : Knows s seat me.0) (idle : me.0.slip ≡ None) (wet : me.0.dry ≡ false) where
    abbrev AfterDraw : View J → Act (SlotContent J D) → BoardState J D
    AfterDraw w act = stepped s 0 ((draw_count s + 1) % 2 ^ 64) seat me.1 w act

    -- what the seat may do with the number that it finds, and what it learns
    abbrev Drawn : Type 0
    Drawn = (w : View J) × (act : Act (SlotContent J D)) × Valid s.homes me.1 act × MeetsRule does jobs (AfterDraw w act)
        × Draws does (step 0 0 0 0 none) me (draw_count s) (w, carried_after me.1 act)

    draws_none : length jobs ≤ draw_count s → Drawn
    draws_none none_left =
        let v : View J = me.0 in let w : View J = view_after_dry_draw v in let knows_jobs = rule.seats.knows_jobs seat v at in
        let count : length v.jobs ≡ length jobs = ap length knows_jobs in
        let kept : MeetsRule does jobs (AfterDraw w keeps) = dry_draw_keeps s rule seat v at me.1 wet none_left in
        let all : IsAllDrawn does jobs w = record {
          moment = record { state = AfterDraw w keeps; kept = kept; here = sits s rule seat v w at refl };
          each = λ m. all_drawn m.state m.kept w.seat w m.here refl;
        } in (
          w,
          keeps,
          tt,
          kept,
          (
            (λ room. absurd (omega arith)),
            λ _. record {
              view = refl;
              slots = refl;
              all = subst (λ l. IsAllDrawn does l w) (sym knows_jobs) all;
            },
          ),
        )

    draws_job : draw_count s < length jobs → Drawn
    draws_job room =
        let v : View J = me.0 in let k : ℕ = draw_count s in let w : View J = view_after_draw v k in let knows_jobs = rule.seats.knows_jobs seat v at in
        let count : length v.jobs ≡ length jobs = ap length knows_jobs in let job = is_there jobs k room in
        let act : Act (SlotContent J D) = takes k (Waiting job.0) in
        let kept : MeetsRule does jobs (AfterDraw w act) = draw_keeps s rule seat v at me.1 wet job.0 idle room in
        let here = sits s rule seat v w at refl in
        let alone_with : IsAlone does jobs w k = record {
          moment = record { state = AfterDraw w act; kept = kept; here = here };
          others = λ m. alone m.state m.kept w.seat w m.here k (Contains-push v.drawn k);
        } in (
          w,
          act,
          rule.waiting k job.0 job.1 (omega arith),
          kept,
          (
            (λ _. record {
              view = refl;
              job = job.0;
              there = subst (λ l. slice_get l k ≡ Some job.0) (sym knows_jobs) job.1;
              slot = refl;
              fresh = undrawn s rule seat v at k (omega arith);
              few = (let few = drawn_few (AfterDraw w act) kept w.seat w here in omega arith);
              alone = subst (λ l. IsAlone does l w k) (sym knows_jobs) alone_with;
            }),
            λ none_left. absurd (omega arith),
          ),
        )

  -- the step of a draw
  pub draws : (slots seat : ℕ) (me : Me (SlotContent J D) (View J)) → me.0.slip ≡ None → me.0.dry ≡ false
      → Allows (MeetsRule does jobs) slots seat me 0 (λ n. (n + 1) % 2 ^ 64) (Draws does (step 0 0 0 0 none) me)
  draws slots seat me idle wet s rule _ at _ = dite (dec_le (length jobs) (draw_count s))
      (λ none_left. draws_none s rule seat me at idle wet none_left)
      (λ no. draws_job s rule seat me at idle wet (lt_of_not-le no))

  done_or : D → SlotContent J D → D
  done_or d (Home done) = done
  done_or d _ = d

  done_in : D → List (ℕ × SlotContent J D) → D
  done_in d [] = d
  done_in d (x ∷ xs) = done_or d x.1

  one_done : (k k' : ℕ) (d d' : D) → ◌≡◌ {A = List (ℕ × SlotContent J D)} ((k, Home d) ∷ []) ((k', Home d') ∷ []) → d ≡ d'
  unfolding done_in done_or
  one_done k k' d d' e = ap (done_in d) e

  puts_back_plain : (slots seat : ℕ) (v : View J) (k : ℕ) (done : D) → v.slip ≡ Some k → ((job : J) → slice_get jobs k ≡ Some job → does job done)
      → Allows (MeetsRule does jobs) slots seat (v, (k, Home done) ∷ []) (k + 1) (λ _. 1) (λ _. PutsBack does (step 0 0 0 0 none) (v, (k, Home done) ∷ []) 1)
  puts_back_plain slots seat v k done out right s rule _ at _ =
      let knows_jobs = rule.seats.knows_jobs seat v at in let w : View J = view_after_put_back v k in
      let after : BoardState J D = stepped s (k + 1) 1 seat ((k, Home done) ∷ []) w gives in
      let kept : MeetsRule does jobs after = put_back_keeps s rule seat v at k done out right in let drawn = slip_drawn s rule seat v at k out in
      let home : IsHome does jobs w k done = record {
        moment = record { state = after; kept = kept; here = sits s rule seat v w at refl };
        came = set_here s.homes k (some (Home done)) (let slots = rule.slots in omega arith);
        stays = λ m. back_raised m.state m.kept w.seat w m.here k (Contains-push v.back k);
      } in (
        w,
        gives,
        tt,
        kept,
        λ k' done' out' slot. (let number : k ≡ k' = cc in let value : done ≡ done' = one_done k k' done done' slot in record {
          view = ap (view_after_put_back v) number;
          slots = refl;
          home = subst (λ l. IsHome does l w k' done') (sym knows_jobs) (subst (λ (z : ℕ × D). IsHome does jobs w z.0 z.1) (λ i. (number i, value i)) home);
        }),
      )

  -- the step of putting back, if the seat's slot has the done value
  puts_back : (slots seat : ℕ) (me : Me (SlotContent J D) (View J)) (k : ℕ) (done : D) → me.1 ≡ (k, Home done) ∷ [] → me.0.slip ≡ Some k
      → ((job : J) → slice_get jobs k ≡ Some job → does job done)
      → Allows (MeetsRule does jobs) slots seat me (k + 1) (λ _. 1) (λ _. PutsBack does (step 0 0 0 0 none) me 1)
  puts_back slots seat me k done has out right =
      subst (λ (m : Me (SlotContent J D) (View J)). Allows (MeetsRule does jobs) slots seat m (k + 1) (λ _. 1) (λ _. PutsBack does (step 0 0 0 0 none) m 1))
      (λ i. (me.0, sym has i)) (puts_back_plain slots seat me.0 k done out right)

  -- the step that splits a seat off the opener
  pub splits : (seat : ℕ) (v : View J) → 0 < v.spare → Splits (MeetsRule does jobs) seat v (view_after_split v) (split_off_view v)
  splits seat v more s rule at = split_keeps s rule seat v at more

-- Putting back is a plain write of the slot, from `before` to `written`, and then the step to `after`
module _ {J D : Type 0} {does : J → D → Type 0} {dry : Bool} (before written : Me (SlotContent J D) (View J)) (k : ℕ) (done : D)
    (sound : IsSound does dry before) (out : before.0.slip ≡ Some k) (write : written ≡ (before.0, (k, Home done) ∷ rest before.1)) where
  same_view : written.0 ≡ before.0
  same_view = ap (λ m. m.0) write

  still_out : written.0.slip ≡ Some k
  still_out = ap (λ v. v.slip) same_view ∙ out

  has_done : written.1 ≡ (k, Home done) ∷ []
  has_done = ap (λ m. m.1) write ∙ ap (λ (l : List (ℕ × SlotContent J D)). (k, Home done) ∷ rest l) (sound.slots ∙ ap (λ o. slots_with o) out)

  -- the step may be taken
  pub may_put_back : (jobs : List J) (slots seat : ℕ) → ((job : J) → slice_get jobs k ≡ Some job → does job done)
      → Allows (MeetsRule does jobs) slots seat written (k + 1) (λ _. 1) (λ _. PutsBack does (step 0 0 0 0 none) written 1)
  may_put_back jobs slots seat right = puts_back does jobs slots seat written k done has_done still_out right

  module _ (after : Me (SlotContent J D) (View J)) (step_taken : PutsBack does (step 0 0 0 0 none) written 1 after) where
    -- and what it reveals to the seat
    pub put_back_reveals : PutsBackDone does before k done after
    put_back_reveals = let knows_jobs = step_taken k done still_out has_done in record {
      view = knows_jobs.view ∙ ap (λ v. view_after_put_back v k) same_view;
      slots = knows_jobs.slots;
      home = subst (λ v. IsHome does v.jobs after.0 k done) same_view knows_jobs.home;
    }

    -- so the seat is sound again
    pub sound_after : IsSound does dry after
    sound_after = let knows_jobs = put_back_reveals in subst (λ (m : Me (SlotContent J D) (View J)). IsSound does dry m) (λ i. (sym knows_jobs.view i, sym knows_jobs.slots i)) record {
      same_dry = sound.same_dry;
      slots = refl;
      within = λ j e. absurd cc;
      idle = λ _. refl;
      all = λ is_dry. (let none_out = sound.idle is_dry in absurd cc);
    }

-- the same as contracts see it: the board and the view of the seat, which was `old`
pub model_after : {J : Type 0} (old : SeatModel J) (board after_board : TableId) (v after : View J) (k slip : ℕ)
    → seat_model board v ≡ old → after_board ≡ board → after ≡ view_after_put_back v k → k ≡ slip
    → seat_model after_board after ≡ record old { knows = view_after_put_back old.knows slip }
model_after old board after_board v after k slip was same knows_jobs number =
    let whose : after_board ≡ old.board = same ∙ ap (λ s. s.board) was in
    let knows : after ≡ view_after_put_back old.knows slip = knows_jobs ∙ (ap (λ s. view_after_put_back s.knows k) was ∙ ap (view_after_put_back old.knows) number) in
    λ i. record { board = whose i; knows = knows i }
