use Rattle.fb_types.proofs.Common.{◌++◌, ◌∷◌, [], map, sym, ◌∙◌, ap, take_all}
use Rattle.fb_types.specs.declared.library.Instance.{Instance}
use Rattle.fb_types.proofs.lemmas.lists.LoopSteps.{map_take_more}
use Rattle.fb_check.specs.networks.Mapping.{holder_in}
use Rattle.fb_check.proofs.networks.mapping.holders_of.Goals as goal

pub loop-instance-preserved : goal.loop-instance-preserved
loop-instance-preserved c =
    c.in_ok-push.ensures.ok ∙ (λ k. c.loop-instance.invariant k ++ (c.holder.ensures k ∷ []))
    ∙ sym (map_take_more (λ (i : Instance). holder_in c.args.mapping.now i.name) c.as_slice-instance-items.result.now c.loop-instance.instance-index c.instance-item.result
    c.loop-instance-test.true c.instance-item.is)

pub returns : goal.returns
returns c =
    c.loop-instance.invariant
    ∙ ap (map (λ (i : Instance). holder_in c.args.mapping.now i.name))
    (take_all c.loop-instance.instance-index c.as_slice-instance-items.result.now c.loop-instance-test.false ∙ c.as_slice-instance-items.ensures)
