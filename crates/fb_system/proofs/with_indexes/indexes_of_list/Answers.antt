use Rattle.fb_types.proofs.Common.{◌≡◌, ℕ, ◌+◌, ◌-◌, ◌++◌, ◌∷◌, [], List, Some, None, map, take, sym, ◌∙◌, ap, subst, arith, filter, take_all, among, variable_names}
use Rattle.fb_types.proofs.lemmas.lists.LoopSteps.{map_take_more}
use Rattle.fb_system.specs.IndexLists.{AreIndexes}
use Rattle.fb_system.proofs.lemmas.types.WithLists.{own_index, found_index, list_indexes}
use Rattle.fb_system.proofs.with_indexes.indexes_of_list.Goals as goal

pub unreachable-requires : goal.unreachable-requires
unreachable-requires c =
    let vs = c.args.variables.now in
    let stand = c.requires.stand in
    let found =
    found_index vs c.args.indexes.now stand.0 c.args.list.now _ c.name-item.result _ _ stand.1 c.requires.list c.loop-name-test.true c.name-item.is
    c.as_bytes.ensures c.index_of.ensures in
    let absent : None ≡ Some (stand.0 + own_index vs c.name-item.result) = sym c.in_default.is ∙ found.0 in
    absurd (cc)

pub overflow_sub-index : goal.overflow_sub-index
overflow_sub-index c =
    let vs = c.args.variables.now in
    let stand = c.requires.stand in
    let found =
    found_index vs c.args.indexes.now stand.0 c.args.list.now _ c.name-item.result _ _ stand.1 c.requires.list c.loop-name-test.true c.name-item.is
    c.as_bytes.ensures c.index_of.ensures in
    let same : Some c.in-Some.index ≡ Some (stand.0 + own_index vs c.name-item.result) = sym c.in-Some.is ∙ found.0 in
    let index : c.in-Some.index ≡ stand.0 + own_index vs c.name-item.result = cc in
    let first = c.first_index-first.ensures stand.0 stand.1 found.1 in
    omega (arith, index, first)

pub overflow_cast-index : goal.overflow_cast-index
overflow_cast-index c =
    let vs = c.args.variables.now in
    let stand = c.requires.stand in
    let found =
    found_index vs c.args.indexes.now stand.0 c.args.list.now _ c.name-item.result _ _ stand.1 c.requires.list c.loop-name-test.true c.name-item.is
    c.as_bytes.ensures c.index_of.ensures in
    let same : Some c.in-Some.index ≡ Some (stand.0 + own_index vs c.name-item.result) = sym c.in-Some.is ∙ found.0 in
    let index : c.in-Some.index ≡ stand.0 + own_index vs c.name-item.result = cc in
    let first = c.first_index-first.ensures stand.0 stand.1 found.1 in
    let within = found.2 in
    record { fits = omega (arith, index, first, within, c.requires.few) }

pub loop-name-preserved : goal.loop-name-preserved
loop-name-preserved c =
    let vs = c.args.variables.now in
    let stand = c.requires.stand in
    let i = c.loop-name.name-index in
    let n = c.name-item.result in
    let own = own_index vs in
    let found =
    found_index vs c.args.indexes.now stand.0 c.args.list.now i n _ _ stand.1 c.requires.list c.loop-name-test.true c.name-item.is c.as_bytes.ensures
    c.index_of.ensures in
    let same : Some c.in-Some.index ≡ Some (stand.0 + own n) = sym c.in-Some.is ∙ found.0 in
    let index : c.in-Some.index ≡ stand.0 + own n = cc in
    let first = c.first_index-first.ensures stand.0 stand.1 found.1 in
    let number : c.in-Some.index - c.first_index-first.result ≡ own n = omega (arith, index, first) in
    c.in_ok-push.ensures.items ∙ ap (λ (l : List ℕ). l ++ (c.in-Some.index - c.first_index-first.result) ∷ []) c.loop-name.invariant
    ∙ ap (λ (k : ℕ). map own (take i c.args.list.now) ++ k ∷ []) number ∙ sym (map_take_more own c.args.list.now i n c.loop-name-test.true c.name-item.is)

pub returns : goal.returns
returns c =
    let vs = c.args.variables.now in
    let list = c.args.list.now in
    subst (λ (ks : List ℕ). AreIndexes vs (filter (among list) (variable_names vs)) ks) (sym c.from_vec.ensures)
    (list_indexes vs c.args.indexes.now c.requires.stand.0 list c.loop-name.numbers.items c.sort_unstable.new.self.items c.requires.stand.1 c.requires.list
    (c.loop-name.invariant ∙ ap (map (own_index vs)) (take_all c.loop-name.name-index list c.loop-name-test.false)) c.sort_unstable.ensures.permutation c.sort_unstable.ensures.sorted)
