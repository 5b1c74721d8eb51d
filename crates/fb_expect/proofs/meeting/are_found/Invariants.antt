use Rattle.fb_types.proofs.Common.{◌≡◌, drop, list_all}
use Rattle.fb_expect.specs.Patterns.{is_found}
use Rattle.fb_expect.proofs.meeting.are_found.Given as goal

abbrev pub invariant-loop-condition : goal.invariant-loop-condition
invariant-loop-condition l = list_all (λ c. is_found c l.demand l.values) l.conditions ≡ list_all (λ c. is_found c l.demand l.values) (drop l.condition-index l.conditions)
