use Rattle.fb_lint.proofs.lemmas.Common.{◌++◌, Bool, not, ◌∙◌, ap, when}
use Rattle.fb_lint.specs.declared.warning.Warning.TheVariants.{UnusedLink}
use Rattle.fb_lint.specs.Networks as spec
use Rattle.fb_lint.proofs.lemmas.WarningLists.{all_found, next_found}
use Rattle.fb_lint.proofs.links.push_unused_links.Goals as goal

pub loop-link-preserved : goal.loop-link-preserved
loop-link-preserved c =
    next_found (spec.unused_link c.args.resources.now c.args.events.now c.args.values.now) c.args.links.now c.loop-link.link c.index-links-link.result c.loop-link.all.items _ _ c.loop-link-test.true c.index-links-link.is
    (c.in_ok-push_if.ensures ∙ ap (λ (b : Bool). c.loop-link.all.items ++ when (not b) (UnusedLink c.loop-link.link)) c.is_crossed-is_unused.ensures) c.loop-link.invariant

pub returns : goal.returns
returns c = all_found (spec.unused_link c.args.resources.now c.args.events.now c.args.values.now) c.args.links.now c.loop-link.link _ _ c.loop-link-test.false c.loop-link.invariant
