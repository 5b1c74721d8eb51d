use Rattle.fb_types.proofs.Common.{◌≡◌, false, take, list_any}
use Rattle.fb_inspect.specs.Selections.{is_within}
use Rattle.fb_inspect.proofs.insides.is_one_of.Given as goal

abbrev pub invariant-loop-whole : goal.invariant-loop-whole
invariant-loop-whole l = list_any (λ v. is_within v l.path) (take l.whole-index l.only) ≡ false
