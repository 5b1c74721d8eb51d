use Rattle.fb_system.proofs.lemmas.Common.{◌≡◌, List, [], ◌∷◌, ◌++◌, length, arith, subst, sym, ◌∙◌, length-map, system_of, IsRowAt, AreInRanges, RowRanges}
use Rattle.fb_types.proofs.Common.{on_ok_weaker}
use Rattle.fb_system.proofs.lemmas.rows.InRanges.{capped, instance_in_ranges}
use Rattle.fb_system.proofs.heads_of.add_instance.Goals as goal

pub overflow_cast-resource : goal.overflow_cast-resource
overflow_cast-resource c =
    let i = c.args.system.now in
    let same : length (system_of i).resource_names ≡ length i.plan.resources = length-map i.plan.resources (λ x. x.name) in
    let few = c.facts.ensures.limits.few_resources in
    record { fits = omega (arith, same, few) }

pub returns : goal.returns
returns c =
    let sys = system_of c.args.system.now in
    let p : RowRanges = record { bounds = c.row_after-first.result ∷ c.row_after-second.result ∷ c.row_after-end.result ∷ [] } in
    let old = c.args.heads.now in
    let half = c.add_rows.new.rows in
    let rows = c.add_rows-2.new.rows in
    let all : AreInRanges (IsRowAt sys) rows (old.ranges ++ p ∷ []) =
    instance_in_ranges (IsRowAt sys) old.rows half rows old.ranges c.args.instance 65536 p c.requires.heads (sym c.len.ensures ∙ c.if-len-instance.false)
    c.in_ok-add_rows.ensures.kept c.in_ok-add_rows.ensures.added c.in_ok-add_rows-2.ensures.kept c.in_ok-add_rows-2.ensures.added
    (capped _ _ _ 65536 c.row_after-first.ensures c.len-2.ensures) (capped _ _ _ 65536 c.row_after-second.ensures c.len-3.ensures) (capped _ _ _ 65536 c.row_after-end.ensures c.len-4.ensures) in
    on_ok_weaker c.push.result (λ grown. subst (λ (l : List RowRanges). AreInRanges (IsRowAt sys) rows l) (sym grown) all) c.push.ensures.ok
