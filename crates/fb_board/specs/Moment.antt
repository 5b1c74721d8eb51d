-- What one step at a claim board reveals to the seat that took it. This project's own profile: no clause of IEC 61499
-- speaks of a claim board.
--
-- A contract sees one seat, and not the whole board as it is at some time. So it speaks of moments: the states that meet
-- the board's rule and in which the seat has its view. What holds at each moment of a seat's view holds of the board from
-- the seat's last step until its next one, since the rule is kept all along and no other seat changes that view.
use Rattle.std.specs.Prelude.{◌≡◌, ◌≢◌, ℕ, ◌<◌, ◌≤◌, Bool, List, [], ◌∷◌, length, slice_get, Option, Some, None, Contains, IsTrue}
use Rattle.atomic_table.specs.Table.{Me, Step}
use Rattle.fb_board.specs.declared.rule.SlotContent.{SlotContent}
use Rattle.fb_board.specs.declared.rule.SlotContent.TheVariants.{Waiting, Out, Home}
use Rattle.fb_board.specs.declared.rule.View.{View}
use Rattle.fb_board.specs.View.{view_after_draw, view_after_dry_draw, view_after_put_back}
use Rattle.fb_board.specs.Claims.{BoardState, Knows, SlotHas, MeetsRule, flag}

-- a state of the board between two steps, in which the seat v.seat has the view v
pub record Moment {J D : Type 0} (does : J → D → Type 0) (jobs : List J) (v : View J) : Type 0 where
  pub state : BoardState J D
  pub kept : MeetsRule does jobs state
  pub here : Knows state v.seat v

module _ {J D : Type 0} (does : J → D → Type 0) (jobs : List J) where
  -- no other seat has ever drawn k
  pub record IsAlone (v : View J) (k : ℕ) : Type 0 where
    pub moment : Moment does jobs v
    pub others : (m : Moment does jobs v) (other : ℕ) (w : View J) → other ≢ v.seat → Knows m.state other w
        → ¬ Contains w.drawn k

  -- every number was drawn
  pub record IsAllDrawn (v : View J) : Type 0 where
    pub moment : Moment does jobs v
    pub each : (m : Moment does jobs v) (k : ℕ) → k < length jobs
        → (seat : ℕ) × (w : View J) × Knows m.state seat w × Contains w.drawn k

  -- the number k came home with this done value, and it is home at each moment: its flag is up
  pub record IsHome (v : View J) (k : ℕ) (done : D) : Type 0 where
    pub moment : Moment does jobs v
    pub came : SlotHas moment.state k (Home done)
    pub stays : (m : Moment does jobs v) → flag m.state k ≡ 1

  -- k is the least number that is not home
  pub record IsLeastOut (v : View J) (k : ℕ) : Type 0 where
    pub moment : Moment does jobs v
    pub out : flag moment.state k ≢ 1
    pub least : (i : ℕ) → i < k → flag moment.state i ≡ 1

module _ {J D : Type 0} where
  -- the slots that a seat has: the one of its slip, whose job it took out
  abbrev pub slots_with : Option ℕ → List (ℕ × SlotContent J D)
  slots_with None = []
  slots_with (Some k) = (k, Out) ∷ []

module _ {J D : Type 0} (does : J → D → Type 0) where
  -- a draw that found a number: the number is new, and its slot comes with its job
  pub record DrawsJob (before : Me (SlotContent J D) (View J)) (found : ℕ) (after : Me (SlotContent J D) (View J)) : Type 0 where
    pub view : after.0 ≡ view_after_draw before.0 found
    pub job : J
    pub there : slice_get before.0.jobs found ≡ Some job
    pub slot : after.1 ≡ (found, Waiting job) ∷ before.1
    pub fresh : ¬ Contains before.0.drawn found
    pub few : length after.0.drawn ≤ length before.0.jobs
    pub alone : IsAlone does before.0.jobs after.0 found

  -- a draw that found none
  pub record DrawsNone (before : Me (SlotContent J D) (View J)) (after : Me (SlotContent J D) (View J)) : Type 0 where
    pub view : after.0 ≡ view_after_dry_draw before.0
    pub slots : after.1 ≡ before.1
    pub all : IsAllDrawn does before.0.jobs after.0

  -- what a draw reveals, by the number that it found in word 0
  abbrev pub Draws : Step (SlotContent J D) → Me (SlotContent J D) (View J) → ℕ → Me (SlotContent J D) (View J) → Type 0
  Draws _ before found after =
      (found < length before.0.jobs → DrawsJob before found after) × (length before.0.jobs ≤ found → DrawsNone before after)

  -- a seat that put the number k back, with this done value
  pub record PutsBackDone (before : Me (SlotContent J D) (View J)) (k : ℕ) (done : D) (after : Me (SlotContent J D) (View J)) : Type 0 where
    pub view : after.0 ≡ view_after_put_back before.0 k
    pub slots : after.1 ≡ []
    pub home : IsHome does before.0.jobs after.0 k done

  -- what putting back reveals, by the done value that the seat wrote into its slot
  abbrev pub PutsBack : Step (SlotContent J D) → Me (SlotContent J D) (View J) → ℕ → Me (SlotContent J D) (View J) → Type 0
  PutsBack _ before _ after =
      (k : ℕ) (done : D) → before.0.slip ≡ Some k → before.1 ≡ (k, Home done) ∷ [] → PutsBackDone before k done after

-- What holds of a seat between its steps: its flag `dry` says whether it is dry, and it has the slot of its slip
pub record IsSound {J D : Type 0} (does : J → D → Type 0) (dry : Bool) (me : Me (SlotContent J D) (View J)) : Type 0 where
  pub same_dry : dry ≡ me.0.dry
  pub slots : me.1 ≡ slots_with me.0.slip
  pub within : (k : ℕ) → me.0.slip ≡ Some k → k < length me.0.jobs
  pub idle : IsTrue me.0.dry → me.0.slip ≡ None
  pub all : IsTrue me.0.dry → IsAllDrawn does me.0.jobs me.0
