use Rattle.fb_inputs.proofs.lemmas.Common.{◌≡◌, false, Option, Ok, length, sym, ap, ◌∙◌, DeployLocation}
use Rattle.fb_inputs.specs.Deployments.{fault_in, plan_of, unless}
use Rattle.fb_inputs.proofs.lemmas.deployments.Tables.{judged_by, no_fault, right_counts, within_limits}
use Rattle.fb_inputs.proofs.deployment.judge.Goals as goal

pub returns-in-Some : goal.returns-in-Some
returns-in-Some c =
    let d = c.args.draft in
    let found : c.fault_in.result ≡ fault_in (length d.resources) d.links = c.fault_in.ensures ∙ (λ i. fault_in (c.len.ensures i) (c.as_slice.ensures i)) in
    judged_by d ∙ ap (λ (o : Option DeployLocation). unless o (Ok (plan_of d))) (sym found ∙ c.in-Some.is)

pub links_of-requires-clause-latencies : goal.links_of-requires-clause-latencies
links_of-requires-clause-latencies c =
    let d = c.args.draft in
    let found : c.fault_in.result ≡ fault_in (length d.resources) d.links = c.fault_in.ensures ∙ (λ i. fault_in (c.len.ensures i) (c.as_slice.ensures i)) in
    (no_fault (length d.resources) d.links (sym found ∙ c.in_default.is)).0

pub links_of-requires-clause-rising : goal.links_of-requires-clause-rising
links_of-requires-clause-rising c =
    let d = c.args.draft in
    let found : c.fault_in.result ≡ fault_in (length d.resources) d.links = c.fault_in.ensures ∙ (λ i. fault_in (c.len.ensures i) (c.as_slice.ensures i)) in
    (no_fault (length d.resources) d.links (sym found ∙ c.in_default.is)).1

pub links_of-requires-clause-short : goal.links_of-requires-clause-short
links_of-requires-clause-short c =
    let d = c.args.draft in
    let found : c.fault_in.result ≡ fault_in (length d.resources) d.links = c.fault_in.ensures ∙ (λ i. fault_in (c.len.ensures i) (c.as_slice.ensures i)) in
    (right_counts (length d.resources) d.links (no_fault (length d.resources) d.links (sym found ∙ c.in_default.is)).2).2

pub new-requires : goal.new-requires
new-requires c =
    let d = c.args.draft in
    let found : c.fault_in.result ≡ fault_in (length d.resources) d.links = c.fault_in.ensures ∙ (λ i. fault_in (c.len.ensures i) (c.as_slice.ensures i)) in
    let (latencies, rising, counts) = no_fault (length d.resources) d.links (sym found ∙ c.in_default.is) in
    let w = right_counts (length d.resources) d.links counts in
    within_limits d.resources c.in_ok-links.links d.links c.requires w.0 w.1 latencies rising w.2 c.in_ok-links.ensures

pub returns : goal.returns
returns c =
    let d = c.args.draft in
    let found : c.fault_in.result ≡ fault_in (length d.resources) d.links = c.fault_in.ensures ∙ (λ i. fault_in (c.len.ensures i) (c.as_slice.ensures i)) in
    let none = judged_by d ∙ ap (λ (o : Option DeployLocation). unless o (Ok (plan_of d))) (sym found ∙ c.in_default.is) in
    none ∙ (λ i. Ok (sym (c.new.ensures ∙ (λ j. record { resources = d.resources; links = c.in_ok-links.ensures j; holds_all = false })) i))
