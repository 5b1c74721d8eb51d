use Rattle.fb_types.proofs.Common.{◌≡◌, ◌++◌, [], sym, ap, ◌∙◌, arith, eqb-true, nil_from_length}
use Rattle.fb_trace.proofs.lemmas.order.StableSort.{flat_snoc}
use Rattle.fb_trace.proofs.merging.joined.Goals as goal

pub loop-list-preserved-then-is_empty : goal.loop-list-preserved-then-is_empty
loop-list-preserved-then-is_empty c =
    let ok = c.loop-list.all.ok.0 in
    let empty = eqb-true _ 0 (sym c.is_empty.ensures ∙ c.if-is_empty.true) in
    let none : c.loop-list.all.items ≡ [] = nil_from_length c.loop-list.all.items (omega (arith, ok, empty)) in
    sym (flat_snoc c.loop-list.yielded c.in-Some.list ∙ ap (λ z. z ++ c.in-Some.list.items) (sym c.loop-list.invariant ∙ none))
