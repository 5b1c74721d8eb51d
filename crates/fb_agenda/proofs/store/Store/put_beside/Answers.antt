use Rattle.fb_types.proofs.Common.{◌∙◌, Some, ap, slice_set, lookup, or_else, same_key}
use Rattle.fb_agenda.proofs.lemmas.Lists.{alone, err_known, few_sets, few_split, lookup_both, many_sets, many_split, over_is, put_rises, put_sets}
use Rattle.fb_agenda.proofs.store.Store.put_beside.Goals as goal

-- ---- The key is in the row

pub invariant_of-self : goal.invariant_of-self
invariant_of-self c =
    let few = c.self.inside.row.items in
    let many = c.self.inside.map.entries in
    let k = c.args.key in
    let e = c.args.event in
    let i = c.in-Some.index in
    let new = slice_set few i (k, e) in
    let is = over_is few k e i c.self.invariant.rising c.in-Some.ensures.there in
    let sets = put_sets few new k e is in
    let none = alone few many c.self.invariant k i c.in-Some.ensures.there in
    few_split few many c.self.invariant k (Some e) new sets (put_rises few new k e c.self.invariant.rising is) none

pub returns-in-Some-clause-put : goal.returns-in-Some-clause-put
returns-in-Some-clause-put c =
    let few = c.self.inside.row.items in
    let many = c.self.inside.map.entries in
    let k = c.args.key in
    let e = c.args.event in
    let i = c.in-Some.index in
    let new = slice_set few i (k, e) in
    let is = over_is few k e i c.self.invariant.rising c.in-Some.ensures.there in
    rw (← c.self.view_is) (few_sets few many c.self.invariant k (Some e) new (put_sets few new k e is) (alone few many c.self.invariant k i c.in-Some.ensures.there))

-- ---- The key is not in the row

pub returns-in_err-insert-clause-absent : goal.returns-in_err-insert-clause-absent
returns-in_err-insert-clause-absent c =
    let few = c.self.inside.row.items in
    let many = c.self.inside.map.entries in
    let k = c.args.key in
    err_known c.from_residual.result
    (rw (← c.self.view_is) (lookup_both k few many ∙ ap (λ o. or_else o (lookup (same_key k) many)) c.in_default.ensures.absent ∙ c.in_err-insert.ensures.absent))

pub invariant_of-self-2 : goal.invariant_of-self-2
invariant_of-self-2 c =
    let few = c.self.inside.row.items in
    let many = c.self.inside.map.entries in
    let new = c.insert.new.self.entries in
    let sets = c.in_ok-insert.ensures.updates.0 in
    many_split few many c.self.invariant c.args.key (Some c.args.event) new sets c.in_default.ensures.absent

pub returns-clause-put : goal.returns-clause-put
returns-clause-put c =
    rw (← c.self.view_is)
    (many_sets c.self.inside.row.items c.self.inside.map.entries c.self.invariant c.args.key (Some c.args.event) c.insert.new.self.entries c.in_ok-insert.ensures.updates.0 c.in_default.ensures.absent)
