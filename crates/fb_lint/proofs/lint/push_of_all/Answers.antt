use Rattle.std.proofs.Common.{◌++◌, ◌∙◌}
use Rattle.fb_check_names.specs.declared.location.Site.TheVariants.{Application}
use Rattle.fb_lint.specs.Instances.{early_stimuli}
use Rattle.fb_lint.specs.Networks.{unused_links}
use Rattle.fb_lint.specs.Warnings as spec
use Rattle.fb_lint.proofs.lemmas.WarningLists.{four_found}
use Rattle.fb_lint.proofs.lint.push_of_all.Goals as goal

pub returns : goal.returns
returns c =
    let lib = c.args.types.now.library.now in
    let net = lib.application.network in
    let plan = c.args.plan.now in
    let ss = c.args.stimuli.now in
    four_found c.push_unused_links.result c.args.all.now.items c.push_of_blocks.new.all.items c.push_of_network.new.all.items c.push_early_stimuli.new.all.items _
    (spec.of_blocks lib lib.blocks) (spec.of_network lib Application net ss) (early_stimuli net.instances net.event_connections ss)
    (unused_links plan.resources net.event_connections net.data_connections plan.links) _
    (c.in_ok-push_of_blocks.ensures ∙ (λ i. c.args.all.now.items ++ spec.of_blocks lib (c.as_slice-blocks.ensures i)))
    c.in_ok-push_of_network.ensures
    (c.in_ok-push_early_stimuli.ensures ∙ (λ i. c.push_of_network.new.all.items ++ early_stimuli (c.as_slice-instances.ensures i) (c.as_slice-events.ensures i) ss))
    (λ i. unused_links (c.as_slice-resources.ensures i) (c.as_slice-events.ensures i) (c.as_slice-values.ensures i) (c.as_slice-links.ensures i))
    c.push_unused_links.ensures
