-- What a seat of a claim board knows, and how each of its steps changes that.
-- This project's own profile: no clause of IEC 61499 speaks of a claim board.
use Rattle.std.specs.Prelude.{ℕ, ◌+◌, ◌-◌, false, true, List, [], ◌∷◌, ◌++◌, Some, None, count_by, option_to_list, ◌==◌, if◌then◌else◌}
use Rattle.fb_board.specs.declared.rule.View.{View}
use Rattle.fb_board.specs.declared.board.TheConstants.{MAX_SEATS}

module _ {J : Type 0} where
  -- the view of a seat that took no step yet
  abbrev pub new_seat_view : ℕ → List J → View J
  new_seat_view seat jobs = record { seat = seat; drawn = []; back = []; slip = None; dry = false; spare = 0; jobs = jobs }

  -- the opener's view, as the board is made
  abbrev pub opener_view : List J → View J
  opener_view jobs = record { seat = 0; drawn = []; back = []; slip = None; dry = false; spare = MAX_SEATS; jobs = jobs }

  -- the opener's view after a seat was split off it, and the view of that seat. The first seat that is split off is seat 1
  abbrev pub view_after_split : View J → View J
  view_after_split v = record v { spare = v.spare - 1 }

  abbrev pub split_off_view : View J → View J
  split_off_view v = new_seat_view (MAX_SEATS + 1 - v.spare) v.jobs

  -- a seat's view after it drew the number k
  abbrev pub view_after_draw : View J → ℕ → View J
  view_after_draw v k = record v { drawn = v.drawn ++ k ∷ []; slip = Some k }

  -- and after a draw that found no number left
  abbrev pub view_after_dry_draw : View J → View J
  view_after_dry_draw v = record v { dry = true }

  -- and after it put the number k back
  abbrev pub view_after_put_back : View J → ℕ → View J
  view_after_put_back v k = record v { back = v.back ++ k ∷ []; slip = None }

  -- how often the seat drew k, how often it put k back, and how often k is its slip
  abbrev pub times_drawn : ℕ → View J → ℕ
  times_drawn k v = count_by (λ x. x == k) v.drawn

  abbrev pub times_back : ℕ → View J → ℕ
  times_back k v = count_by (λ x. x == k) v.back

  abbrev pub times_out : ℕ → View J → ℕ
  times_out k v = count_by (λ x. x == k) (option_to_list v.slip)

  -- 1 for a dry seat
  abbrev pub dryness : View J → ℕ
  dryness v = if v.dry then 1 else 0
