use Rattle.fb_check.proofs.lemmas.Common.{◌++◌, List, sym, each_at, KindWrongAt, kind_wrong_guard, kinds_wrong_in_body}
use Rattle.fb_check.proofs.lemmas.types.GrowingLists.{and_added}
use Rattle.fb_check.proofs.types.kinds_wrong.push_in_basic.Goals as goal

pub returns : goal.returns
returns c =
    let b = c.args.block in
    let s = c.new-scope.result in
    let transitions = sym c.as_slice.ensures in
    let algorithms = sym c.as_slice-2.ensures in
    let scope = sym c.new-scope.ensures in
    let p : List KindWrongAt = each_at (kind_wrong_guard s b) c.as_slice.result.now in
    let q : List KindWrongAt = each_at (kinds_wrong_in_body s b) c.as_slice-2.result.now in
    and_added c.and.result c.push_guards.result c.push_in_bodies.result c.args.found.now.items c.push_guards.new.found.items c.push_in_bodies.new.found.items p q _
    (λ i. each_at (kind_wrong_guard (scope i) b) (transitions i) ++ each_at (kinds_wrong_in_body (scope i) b) (algorithms i))
    c.and.ensures c.push_guards.ensures c.push_in_bodies.ensures
