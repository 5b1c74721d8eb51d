use Rattle.fb_types.proofs.Common.{◌≡◌, ◌<◌, ◌≤◌, ℕ, Some, slice_get, IfSome}
use Rattle.std.specs.Prelude.{IfNone}
use Rattle.fb_stop.proofs.spent.most.Given as goal

abbrev pub invariant-loop-index : goal.invariant-loop-index
invariant-loop-index l = record {
  all : (j x : ℕ) → j < l.index → slice_get l.spent j ≡ Some x → x ≤ l.most;
  found : IfSome l.found (λ k. slice_get l.spent k ≡ Some l.most);
  within : IfSome l.found (λ k. k < l.index);
  some : IfSome l.found (λ k. 0 < l.most);
  first : IfSome l.found (λ k. (j x : ℕ) → j < k → slice_get l.spent j ≡ Some x → x < l.most);
  none : IfNone l.found (l.most ≡ 0);
}
