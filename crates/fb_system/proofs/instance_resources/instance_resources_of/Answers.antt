use Rattle.fb_system.proofs.lemmas.Common.{◌≡◌, ◌++◌, ◌∷◌, [], ap, sym, ◌∙◌, slice_get, option_copied, Plan, path_of, IsLinked}
use Rattle.fb_types.proofs.Common.{rules, resource_of}
use Rattle.fb_system.proofs.lemmas.networks.HoldingResource.{first_there, instance_resources_next, resource_by_index}
use Rattle.fb_system.proofs.instance_resources.instance_resources_of.Goals as goal
use Rattle.fb_system.proofs.instance_resources.instance_resources_of.Goals.{in-None, in-Some}

pub loop-instance-preserved : goal.loop-instance-preserved
loop-instance-preserved c =
    let lib = c.args.netlist.now in
    let pushed : c.push.new.self ≡ c.loop-instance.instance_resources ++ c.match-first.instance_resource ∷ [] = c.in_ok-push.ensures.ok in
    let there : (plan : Plan) → IsLinked lib plan c.args.links.now → c.match-first.instance_resource ≡ resource_of plan (path_of lib c.loop-instance.instance) =
    elim c.match-first.branch [
      | in-Some w ↦ λ plan linked.
          w.instance_resource-is ∙ w.holder-instance_resource.ensures
          ∙ resource_by_index lib plan c.args.links.now c.loop-instance.instance w.in-Some.index.now linked (search rules)
          (ap (λ (ks : _). slice_get ks 0) (sym c.route.ensures) ∙ sym c.first.ensures.value ∙ ap option_copied w.in-Some.is)
      | in-None w ↦ λ plan linked.
          absurd (first_there lib c.loop-instance.instance c.route.result.now (search rules) c.route.ensures (sym c.first.ensures.value ∙ ap option_copied w.in-None.is))
    ] in
    rw pushed (instance_resources_next lib c.args.links.now c.loop-instance.instance c.match-first.instance_resource c.loop-instance.instance_resources c.loop-instance.invariant there)
