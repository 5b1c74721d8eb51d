-- The rule of a claim board: what holds of its words, of the values in its slots and of the views of its seats
-- between any two steps.
-- This project's own profile: no clause of IEC 61499 speaks of a claim board.
--
-- A board with n jobs has n + 1 words and n slots. Word 0 counts the draws. Word k + 1 is the flag of the number k.
-- Slot k is at home while k waits and once k is home. While k is out, its seat has the slot.
use Rattle.std.specs.Prelude.{◌≡◌, ℕ, ◌+◌, ◌<◌, ◌≤◌, min, List, length, slice_get, slice_index, sum_by, Some, IsTrue, nat_lt, if◌then◌else◌}
use mathlib.Core.Option.{some}
use lib.ListN.{get_elem?}
use Rattle.atomic_table.specs.Table.{State}
use Rattle.fb_board.specs.declared.rule.SlotContent.{SlotContent}
use Rattle.fb_board.specs.declared.rule.SlotContent.TheVariants.{Waiting, Home}
use Rattle.fb_board.specs.declared.rule.View.{View}
use Rattle.fb_board.specs.declared.board.TheConstants.{MAX_JOBS, MAX_SEATS}
use Rattle.fb_board.specs.View.{times_drawn, times_back, times_out, dryness}

abbrev pub BoardState : Type 0 → Type 0 → Type 0
BoardState J D = State (SlotContent J D) (View J)

module _ {J D : Type 0} (s : BoardState J D) where
  -- how many draws there were, and how many of them found one of the jobs
  abbrev pub draw_count : ℕ
  draw_count = slice_index s.words 0

  abbrev pub drawn_count : List J → ℕ
  drawn_count jobs = min (length jobs) draw_count

  -- the flag of the number k
  abbrev pub flag : ℕ → ℕ
  flag k = slice_index s.words (k + 1)

  -- the seat has this view
  abbrev pub Knows : ℕ → View J → Type 0
  Knows seat v = get_elem? s.views seat ≡ some v

  -- the slot of k is at home, with this in it
  abbrev pub SlotHas : ℕ → SlotContent J D → Type 0
  SlotHas k index = get_elem? s.homes k ≡ some (some index)

-- Seats are numbered as they come, and only seat 0, the opener, may have more split off.
-- Each seat knows the jobs that the board was opened with
pub record AreSeats {J : Type 0} (jobs : List J) (views : List (View J)) : Type 0 where
  pub few : length views + sum_by (λ v. v.spare) views ≡ MAX_SEATS + 1
  pub numbered : (seat : ℕ) (v : View J) → get_elem? views seat ≡ some v → v.seat ≡ seat
  pub one_opener : (seat : ℕ) (v : View J) → get_elem? views seat ≡ some v → 0 < v.spare → seat ≡ 0
  pub knows_jobs : (seat : ℕ) (v : View J) → get_elem? views seat ≡ some v → v.jobs ≡ jobs

pub record MeetsRule {J D : Type 0} (does : J → D → Type 0) (jobs : List J) (s : BoardState J D) : Type 0 where
  pub words : length s.words ≡ length jobs + 1
  pub slots : length s.homes ≡ length jobs
  pub few_jobs : length jobs ≤ MAX_JOBS
  pub seats : AreSeats jobs s.views
  -- 1. Word 0 is at most the number of jobs and of dry seats together. If a seat is dry, it is at least the number of
  --   jobs
  pub at_most : draw_count s ≤ length jobs + sum_by dryness s.views
  pub at_least : (seat : ℕ) (v : View J) → Knows s seat v → IsTrue v.dry → length jobs ≤ draw_count s
  -- 2. Each number below both the number of jobs and word 0 is in one seat's list of drawn numbers, once. No other number
  --   is in any, so the lists together have as many numbers as were drawn
  pub once : (k : ℕ) → sum_by (times_drawn k) s.views ≡ (if nat_lt k (drawn_count s jobs) then 1 else 0)
  pub together : sum_by (λ v. length v.drawn) s.views ≡ drawn_count s jobs
  -- 3. What a seat drew is its slip or among the numbers that it put back, and not both
  pub parted : (seat : ℕ) (v : View J) → Knows s seat v → (k : ℕ) → times_drawn k v ≡ times_back k v + times_out k v
  -- 4. The flag of a number is 1 if some seat put it back, and else 0. If it is 1, the number's slot has a done value
  --   that does its job. The slot of a number that nobody drew has its job
  pub flags : (k : ℕ) → k < length jobs → flag s k ≡ sum_by (times_back k) s.views
  pub home : (k : ℕ) (job : J) → slice_get jobs k ≡ Some job → flag s k ≡ 1 → (done : D) × SlotHas s k (Home done) × does job done
  pub waiting : (k : ℕ) (job : J) → slice_get jobs k ≡ Some job → draw_count s ≤ k → SlotHas s k (Waiting job)
