use Rattle.fb_inputs.proofs.lemmas.Common.{Option, sym, ap, ◌∙◌, DeployLocation, among_links, start_of_link}
use Rattle.fb_inputs.specs.Deployments.{either, excess}
use Rattle.fb_inputs.proofs.lemmas.deployments.Tables.{counts_last, many_links, many_resources, within_counts}
use Rattle.fb_inputs.proofs.deployment.fault_in.Goals as goal

pub returns-in-Some : goal.returns-in-Some
returns-in-Some c =
    ap (λ (o : Option DeployLocation). either o (either (among_links start_of_link 0 c.args.links.now) (excess c.args.resources c.args.links.now)))
    (sym c.in-Some.is ∙ c.fault_among.ensures)

pub returns-in-Some-fault_among : goal.returns-in-Some-fault_among
returns-in-Some-fault_among c =
    λ i. either ((sym c.in_default.is ∙ c.fault_among.ensures) i)
    (either ((sym c.in-Some-fault_among.is ∙ c.fault_among-2.ensures) i) (excess c.args.resources c.args.links.now))

pub returns-then-resources-gt-MOST_RESOURCES : goal.returns-then-resources-gt-MOST_RESOURCES
returns-then-resources-gt-MOST_RESOURCES c =
    counts_last c.args.resources c.args.links.now _ (sym c.in_default.is ∙ c.fault_among.ensures) (sym c.in_default-fault_among.is ∙ c.fault_among-2.ensures)
    (many_resources c.args.resources c.args.links.now c.if-resources-gt-MOST_RESOURCES.true)

pub returns-then-links-gt-MOST_LINKS : goal.returns-then-links-gt-MOST_LINKS
returns-then-links-gt-MOST_LINKS c =
    counts_last c.args.resources c.args.links.now _ (sym c.in_default.is ∙ c.fault_among.ensures) (sym c.in_default-fault_among.is ∙ c.fault_among-2.ensures)
    (many_links c.args.resources c.args.links.now c.if-resources-gt-MOST_RESOURCES.false c.if-links-gt-MOST_LINKS.true)

pub returns : goal.returns
returns c =
    counts_last c.args.resources c.args.links.now c.fault_among-3.result (sym c.in_default.is ∙ c.fault_among.ensures) (sym c.in_default-fault_among.is ∙ c.fault_among-2.ensures)
    (c.fault_among-3.ensures ∙ within_counts c.args.resources c.args.links.now c.if-resources-gt-MOST_RESOURCES.false c.if-links-gt-MOST_LINKS.false)
