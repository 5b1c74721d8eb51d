use Rattle.fb_types.proofs.Common.{◌++◌, sym, ◌∙◌, ap, flat_map, take_all}
use Rattle.fb_types.specs.declared.deploy.ResourceEntry.{ResourceEntry}
use Rattle.std.proofs.lemmas.List.{map-id}
use Rattle.fb_check.proofs.lemmas.networks.Lists.{flat_more}
use Rattle.fb_check.proofs.networks.mapping.listed_names.Goals as goal

pub loop-resource-preserved : goal.loop-resource-preserved
loop-resource-preserved c =
    c.in_ok-push_names.ensures
    ∙ (λ i. c.loop-resource.invariant i ++ (map-id c.as_slice.result.now ∙ c.as_slice.ensures) i)
    ∙ sym (flat_more (λ (r : ResourceEntry). r.instances) c.args.resources.now c.loop-resource.resource-index c.resource-item.result
    c.loop-resource-test.true c.resource-item.is)

pub returns : goal.returns
returns c =
    c.loop-resource.invariant
    ∙ ap (flat_map (λ (r : ResourceEntry). r.instances)) (take_all c.loop-resource.resource-index c.args.resources.now c.loop-resource-test.false)
