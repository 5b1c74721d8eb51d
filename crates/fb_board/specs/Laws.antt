-- What the rule of a claim board means for each number.
-- This project's own profile: no clause of IEC 61499 speaks of a claim board.
use Rattle.std.specs.Prelude.{◌≡◌, ◌≢◌, ◌⊎◌, ℕ, List, slice_get, Some, Contains}
use Rattle.fb_board.specs.declared.rule.SlotContent.TheVariants.{Waiting, Home}
use Rattle.fb_board.specs.declared.rule.View.{View}
use Rattle.fb_board.specs.View.{times_drawn}
use Rattle.fb_board.specs.Claims.{BoardState, Knows, SlotHas, MeetsRule, flag}

module _ {J D : Type 0} (s : BoardState J D) (k : ℕ) where
  -- nobody drew k, and its slot has its job
  pub record IsWaiting (job : J) : Type 0 where
    pub lowered : flag s k ≡ 0
    pub undrawn : (seat : ℕ) (v : View J) → Knows s seat v → ¬ Contains v.drawn k
    pub slot : SlotHas s k (Waiting job)

  -- one seat drew k, whose slip it is, and nobody put it back
  pub record IsOut : Type 0 where
    pub lowered : flag s k ≡ 0
    pub seat : ℕ
    pub view : View J
    pub here : Knows s seat view
    pub drawn : Contains view.drawn k
    pub slip : view.slip ≡ Some k
    pub others : (other : ℕ) (w : View J) → other ≢ seat → Knows s other w → ¬ Contains w.drawn k

  -- one seat drew k and put it back, and its slot has what was made of its job
  pub record IsBack (does : J → D → Type 0) (job : J) : Type 0 where
    pub raised : flag s k ≡ 1
    pub seat : ℕ
    pub view : View J
    pub here : Knows s seat view
    pub drawn : Contains view.drawn k
    pub back : Contains view.back k
    pub others : (other : ℕ) (w : View J) → other ≢ seat → Knows s other w → ¬ Contains w.drawn k
    pub done : D
    pub slot : SlotHas s k (Home done)
    pub does_job : does job done

module _ {J D : Type 0} (does : J → D → Type 0) where
  -- each number waits, is out with one seat, or is home
  abbrev pub EachNumberHasAnIndex : Type 0
  EachNumberHasAnIndex = (jobs : List J) (s : BoardState J D) (k : ℕ) (job : J) → MeetsRule does jobs s
      → slice_get jobs k ≡ Some job → IsWaiting s k job ⊎ (IsOut s k ⊎ IsBack s k does job)

  -- two seats that drew one number are one seat, which drew it once
  abbrev pub EachNumberHasOneSeat : Type 0
  EachNumberHasOneSeat = (jobs : List J) (s : BoardState J D) (k seat other : ℕ) (v w : View J) → MeetsRule does jobs s
      → Knows s seat v → Knows s other w → Contains v.drawn k → Contains w.drawn k → (seat ≡ other) × (times_drawn k v ≡ 1)
