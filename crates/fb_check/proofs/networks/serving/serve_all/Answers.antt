use Rattle.std.proofs.Common.{refl, ◌∙◌}
use Rattle.fb_check.proofs.lemmas.networks.CarriedData.{carried_none, carried_old, carried_new, all_served}
use Rattle.fb_check.proofs.lemmas.networks.Numbers.{withs_read}
use Rattle.fb_check.proofs.networks.serving.serve_all.Goals as goal
use Rattle.fb_check.proofs.networks.serving.serve_all.Goals.{then-branch+in_ok-extend, else-branch}

pub loop-index-init : goal.loop-index-init
loop-index-init c = carried_none _ _ _ _ c.requires.events c.requires.served

pub loop-index-preserved : goal.loop-index-preserved
loop-index-preserved c =
    elim c.if-branch.branch [
      | then-branch+in_ok-extend w ↦
          rw w.served-is
          (carried_new c.args.library.now c.args.mapping.now _ _ c.index-connections-index.result c.component_of-component.result (record { ref_ptr = (0, 0); now = c.index-connections-index.result.from.port }) c.resource_of-resource.result _ _ _ _ _
          c.loop-index-test.true c.index-connections-index.is
          (record { at = c.component_of-component.ensures; name = refl; leads = c.resource_of-resource.ensures }) c.loop-index.invariant
          (w.variables_with-names.ensures
          ∙ withs_read c.args.library.now c.args.numbers.now _ _ _ c.requires.numbers c.as_slice-connections.ensures c.loop-index-test.true c.index-connections-index.is)
          w.in_ok-extend.ensures c.in_ok-insert.ensures.updates.0)
      | else-branch w ↦
          rw w.served-is
          (carried_old c.args.library.now c.args.mapping.now _ _ c.index-connections-index.result c.component_of-component.result (record { ref_ptr = (0, 0); now = c.index-connections-index.result.from.port }) c.resource_of-resource.result _ _ _ _
          c.loop-index-test.true c.index-connections-index.is
          (record { at = c.component_of-component.ensures; name = refl; leads = c.resource_of-resource.ensures }) c.loop-index.invariant
          c.in_ok-insert.ensures.added w.if-branch.false c.in_ok-insert.ensures.updates.0)
    ]

pub returns : goal.returns
returns c = all_served c.args.library.now c.args.plan.now c.args.mapping.now _ _ _ _ c.requires.mapping c.as_slice-connections.ensures c.loop-index-test.false c.loop-index.invariant
