use Rattle.std.proofs.Common.{List, ℕ, ◌++◌, codes, ap, ◌∙◌, append_assoc}
use Rattle.fb_draw.specs.Resources as spec
use Rattle.fb_text.proofs.lemmas.Adding.{list_added, next_added}
use Rattle.fb_draw.proofs.resource.put_resources.Goals as goal

pub loop-resource-preserved : goal.loop-resource-preserved
loop-resource-preserved c =
    let r = c.resource-item.result in
    let old = c.loop-resource.text.items in
    let head : List ℕ = spec.resource_head r.device r.name in
    let members : List ℕ = spec.members c.args.plan.now c.args.instances.now r in
    next_added (spec.resource_cluster c.args.plan.now c.args.instances.now) c.args.resources.now c.loop-resource.resource-index c.resource-item.result old _ _ c.loop-resource-test.true c.resource-item.is
    (c.in_ok-extend_from_slice.ensures.items
    ∙ ap (λ (l : List ℕ). l ++ codes "  }\n") (c.in_ok-put_members.ensures ∙ ap (λ (l : List ℕ). l ++ members) c.in_ok-put_resource_head.ensures ∙ append_assoc old head members)
    ∙ append_assoc old (head ++ members) (codes "  }\n"))
    c.loop-resource.invariant

pub returns : goal.returns
returns c = list_added (spec.resource_cluster c.args.plan.now c.args.instances.now) c.args.resources.now c.loop-resource.resource-index _ _ c.loop-resource-test.false c.loop-resource.invariant
