use Rattle.fb_types.proofs.Common.{◌++◌, ◌∙◌, List, ap, append-nil, map, refl, sym, take_all}
use Rattle.fb_types.specs.declared.library.Instance.{Instance}
use Rattle.fbsim_command.specs.SelectedNames.{instance_names}
use Rattle.fbsim_command.proofs.lemmas.names.KnownNames.{instance-more, now}
use Rattle.fbsim_command.proofs.selected_names.push_instances.Goals as goal

pub loop-instance-init : goal.loop-instance-init
loop-instance-init c = sym (append-nil (map now c.args.names.now.items))

pub loop-instance-preserved : goal.loop-instance-preserved
loop-instance-preserved c =
    instance-more c.args.instances.now c.loop-instance.instance-index c.instance-item.result (map now c.args.names.now.items) c.loop-instance.names.items _ _ _ _ c.loop-instance-test.true c.instance-item.is refl
    refl c.in_ok-push.ensures.items c.in_ok-push-2.ensures.items c.loop-instance.invariant

pub returns : goal.returns
returns c =
    c.loop-instance.invariant
    ∙ ap (λ (is : List Instance). map now c.args.names.now.items ++ instance_names is) (take_all c.loop-instance.instance-index c.args.instances.now c.loop-instance-test.false)
