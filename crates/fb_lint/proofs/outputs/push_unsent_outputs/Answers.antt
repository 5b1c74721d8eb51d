use Rattle.fb_lint.proofs.lemmas.Common.{◌++◌, Bool, ◌∙◌, ap, when}
use Rattle.fb_lint.specs.declared.warning.Warning.TheVariants.{UnsentOutput}
use Rattle.fb_lint.specs.Outputs as spec
use Rattle.fb_lint.proofs.lemmas.WarningLists.{all_found, next_found}
use Rattle.fb_lint.proofs.outputs.push_unsent_outputs.Goals as goal

pub loop-output-preserved : goal.loop-output-preserved
loop-output-preserved c =
    next_found (spec.unsent_output c.args.of.now.library.now c.args.of.now.name.now c.args.of.now.block c.args.entry.now) c.args.outputs.now c.loop-output.output c.index-outputs-output.result c.loop-output.all.items _ _ c.loop-output-test.true c.index-outputs-output.is
    (c.in_ok-push_if.ensures ∙ ap (λ (b : Bool). c.loop-output.all.items ++ when b (UnsentOutput c.args.of.now.block c.loop-output.output)) c.in_ok-applies.ensures)
    c.loop-output.invariant

pub returns : goal.returns
returns c = all_found (spec.unsent_output c.args.of.now.library.now c.args.of.now.name.now c.args.of.now.block c.args.entry.now) c.args.outputs.now c.loop-output.output _ _ c.loop-output-test.false c.loop-output.invariant
