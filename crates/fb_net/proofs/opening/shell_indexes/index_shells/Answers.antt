use Rattle.std.proofs.Common.{refl, ◌∙◌}
use Rattle.fb_net.proofs.lemmas.opening.ShellIndexes.{none_shell_there, shell_there_away, shell_there_more}
use Rattle.fb_net.proofs.opening.shell_indexes.index_shells.Goals as goal
use Rattle.fb_net.proofs.opening.shell_indexes.index_shells.Goals.{then-resource-forest+in_ok-shell+in_ok-push-2, else-resource-forest}

pub loop-instance-init : goal.loop-instance-init
loop-instance-init c = record {
  has_shells = none_shell_there c.args.system.now c.args.forest.now c.requires.shell_indexes c.requires.shells;
  alone = record { resource = refl; roots = refl; blocks = refl; held = refl };
}

pub loop-instance-preserved : goal.loop-instance-preserved
loop-instance-preserved c =
    let i = c.args.system.now in
    let n = c.loop-instance.instance in
    let t = c.loop-instance.forest in
    let was = c.loop-instance.invariant in
    elim c.if-resource-forest.branch [
      | then-resource-forest+in_ok-shell+in_ok-push-2 w ↦
          rw w.forest-is
          (record {
            has_shells = shell_there_more i n t _ _ w.in_ok-shell.shell _ was.has_shells c.len-shell_index.ensures c.in_ok-push.ensures.ok w.in_ok-push-2.ensures.ok w.in_ok-shell.ensures;
            alone = record { resource = was.alone.resource; roots = was.alone.roots; blocks = was.alone.blocks; held = was.alone.held };
          })
      | else-resource-forest w ↦
          rw w.forest-is
          (record {
            has_shells = shell_there_away i n t _ _ was.has_shells c.in_ok-push.ensures.ok (λ e. w.if-resource-forest.false (c.resource.ensures ∙ e));
            alone = record { resource = was.alone.resource; roots = was.alone.roots; blocks = was.alone.blocks; held = was.alone.held };
          })
    ]
