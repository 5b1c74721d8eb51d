use Rattle.fbsim_command.proofs.lemmas.Common.{List, Some, subst}
use Rattle.fb_types.proofs.Common.{take_all}
use Rattle.fb_lint.specs.declared.warning.Warning.{Warning}
use Rattle.fbsim_command.proofs.lemmas.files.PlacedLines.{AreLinksAt, links_given, links_next}
use Rattle.fbsim_command.proofs.link_places.link_places.Goals as goal

pub loop-warning-preserved : goal.loop-warning-preserved
loop-warning-preserved c =
    links_next (Some c.in_ok-outline.outline.text.now) c.args.warnings.now c.loop-warning.warning-index _ c.loop-warning.places.items c.push.new.self.items c.in_ok-link_place.field-0 c.loop-warning-test.true
    c.loop-warning.invariant c.in_ok-link_place.ensures c.in_ok-push.ensures.items

pub returns : goal.returns
returns c =
    let text = c.in_ok-outline.outline.text.now in
    links_given c.args.deploy _ c.unwrap_or.result text c.args.warnings.now c.loop-warning.places.items c.unwrap_or.ensures c.in_ok-outline.ensures
    (subst (λ (ws : List Warning). AreLinksAt (Some text) ws c.loop-warning.places.items) (take_all c.loop-warning.warning-index c.args.warnings.now c.loop-warning-test.false) c.loop-warning.invariant)
