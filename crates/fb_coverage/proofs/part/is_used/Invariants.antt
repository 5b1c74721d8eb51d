use Rattle.fb_types.proofs.Common.{◌≡◌, false, take, list_any, system_of}
use Rattle.fb_coverage.specs.Openings.{has_type}
use Rattle.fb_coverage.proofs.part.is_used.Given as goal

-- none of the first instances has the type
abbrev pub invariant-loop-instance : goal.invariant-loop-instance
invariant-loop-instance l = list_any (λ p. has_type l.name ((system_of l.system).kind p)) (take l.instance (system_of l.system).paths) ≡ false
