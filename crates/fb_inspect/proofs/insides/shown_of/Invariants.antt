use Rattle.fb_types.proofs.Common.{◌≡◌, ◌<◌, ℕ, length, system_of, path_at}
use Rattle.fb_inspect.specs.Selections.{is_kept}
use Rattle.fb_inspect.specs.walk.Walking.{flag_at}
use Rattle.fb_inspect.proofs.insides.shown_of.Given as goal

-- for the first instances
abbrev pub invariant-loop-index : goal.invariant-loop-index
invariant-loop-index l = record {
  counted : length l.shown.items ≡ l.index;
  shown : (k : ℕ) → k < l.index → flag_at l.shown.items k ≡ is_kept l.only (path_at (system_of l.system) k);
}
