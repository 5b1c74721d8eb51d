use Rattle.fb_window.proofs.lemmas.Common.{ℕ, ◌≡◌, ◌<◌, Option, Some, None, slice_get, Resource}
use Rattle.fb_window.proofs.cores.Away.keeps_nothing.Given as goal

abbrev pub invariant-loop-rested : goal.invariant-loop-rested
invariant-loop-rested l = (r : ℕ) (rested : Option Resource) → r < l.rested-index → slice_get l.resting r ≡ Some rested → rested ≡ None
