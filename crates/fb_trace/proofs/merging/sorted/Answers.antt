use Rattle.std.proofs.Common.{rules, filter, ap, ◌∙◌, subst, IsPermutation}
use Rattle.std.proofs.lemmas.List.Sorted.{answers_always, IsNonDecreasingBy-from_sort}
use Rattle.fb_trace.specs.Merging.{tick_of}
use Rattle.fb_trace.proofs.lemmas.order.Sorting.{rises_of, tie}
use Rattle.fb_trace.proofs.lemmas.order.StableSort.{merged}
use Rattle.fb_trace.proofs.merging.sorted.Goals as goal

pub returns-clause-merged : goal.returns-clause-merged
returns-clause-merged c =
    let keys = answers_always _ _ _ (λ f a r next called. search rules) in
    let sort = c.in_ok-sort_by_key.ensures in
    merged c.args.lists.items _ (rises_of tick_of _ (IsNonDecreasingBy-from_sort tick_of _ (sort.sorted tick_of keys)))
    (λ x. sort.stable tick_of keys x ∙ ap (filter (tie tick_of x)) c.in_ok-all.ensures)
    (subst (λ xs. IsPermutation xs c.sort_by_key.new.self.items) c.in_ok-all.ensures sort.permutation)

pub returns-clause-kept : goal.returns-clause-kept
returns-clause-kept c = subst (λ xs. IsPermutation xs c.sort_by_key.new.self.items) c.in_ok-all.ensures c.in_ok-sort_by_key.ensures.permutation
