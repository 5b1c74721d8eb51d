use Rattle.fb_types.proofs.Common.{◌≡◌, ◌&&◌, drop, int_le, list_any}
use Rattle.fb_stop.proofs.part.is_any_around.Given as goal

abbrev pub invariant-loop-label : goal.invariant-loop-label
invariant-loop-label l = list_any (λ x. int_le x.first l.number && int_le l.number x.last) l.labels ≡ list_any (λ x. int_le x.first l.number && int_le l.number x.last) (drop l.label-index l.labels)
