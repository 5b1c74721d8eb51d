use Rattle.std.proofs.Common.{sym, ◌∙◌}
use Rattle.fb_inputs.specs.Deployments.{fault_of_link}
use Rattle.fb_inputs.proofs.lemmas.deployments.Tested.{links_done, links_here, links_on}
use Rattle.fb_inputs.proofs.table.fault_among.Goals as goal

pub returns-in-Some : goal.returns-in-Some
returns-in-Some c =
    links_here (fault_of_link c.args.test) c.args.links.now c.loop-link.link c.loop-link.invariant c.index-links-link.result c.in-Some.location c.loop-link-test.true c.index-links-link.is (sym c.fault_of_link.ensures ∙ c.in-Some.is)

pub loop-link-preserved : goal.loop-link-preserved
loop-link-preserved c =
    links_on (fault_of_link c.args.test) c.args.links.now c.loop-link.link c.loop-link.invariant c.index-links-link.result c.loop-link-test.true c.index-links-link.is (sym c.fault_of_link.ensures ∙ c.in_default.is)

pub returns : goal.returns
returns c = links_done (fault_of_link c.args.test) c.args.links.now c.loop-link.link c.loop-link.invariant c.loop-link-test.false
