use Rattle.fb_window.proofs.lemmas.Common.{ℕ, ◌≡◌, ◌<◌, None, Some, slice_get, Resource}
use Rattle.fb_window.proofs.ends.end_of.Given as goal

abbrev pub invariant-loop-resource : goal.invariant-loop-resource
invariant-loop-resource l = (r : ℕ) (x : Resource) → r < l.resource-index → slice_get l.resources r ≡ Some x → x.stopped ≡ None → l.mark.tick < x.clock

abbrev pub invariant-loop-resource-2 : goal.invariant-loop-resource-2
invariant-loop-resource-2 l = (r : ℕ) (x : Resource) → r < l.resource-index → slice_get l.resources r ≡ Some x → x.clock ≡ l.horizon
