use Rattle.fb_check.proofs.lemmas.Common.{◌≡◌, drop, position, is_marked}
use Rattle.fb_check.proofs.lemmas.networks.SearchLoops.{following}
use Rattle.fb_check.proofs.networks.heights.first_marked.Given as goal

abbrev pub invariant-loop-component : goal.invariant-loop-component
invariant-loop-component l = position (is_marked l.marks) l.types ≡ following l.component (position (is_marked l.marks) (drop l.component l.types))
