use Rattle.fb_check.proofs.lemmas.Common.{rules, map, ap, inputs_in}
use Rattle.fb_check_names.proofs.lemmas.Listing.{some_says}
use Rattle.fb_check_names.specs.declared.location.NoLinkAt.{NoLinkAt}
use Rattle.fb_check.specs.networks.Links.{IsNoLinkAt}
use Rattle.fb_check.proofs.lemmas.networks.NoLink.{no_link_applies}
use Rattle.fb_check.specs.declared.fault.Fault.TheVariants as of
use Rattle.fb_check.specs.declared.location.Location.TheVariants as at
use Rattle.fb_check.proofs.lemmas.Verdict.{least_27, made_so, passes_27, refused_so}
use Rattle.fb_check.proofs.mapping_checks.judge_links.Goals as goal

pub returns-clause-refused : goal.returns-clause-refused
returns-clause-refused c =
    let lib = c.args.case.now.library.now in
    let plan = c.args.case.now.plan.now in
    let ss = c.args.case.now.stimuli.now in
    refused_so c.passed.result (inputs_in c.args.case.now) of.NoLink (λ (p : NoLinkAt). at.NoLink p) c.in_ok-found.found.items c.in_ok-locations.locations (search rules)
    (λ some. least_27 lib plan ss c.requires.passed (some_says (IsNoLinkAt lib plan) c.in_ok-found.found.items (no_link_applies lib plan) c.in_ok-found.ensures.each some))
    (λ some. ap (map (λ (p : NoLinkAt). at.NoLink p)) c.in_ok-found.ensures.listed)
    c.passed.ensures.refused

pub returns-clause-ok : goal.returns-clause-ok
returns-clause-ok c =
    let lib = c.args.case.now.library.now in
    let plan = c.args.case.now.plan.now in
    let ss = c.args.case.now.stimuli.now in
    made_so _ c.passed.result tt (λ (p : NoLinkAt). at.NoLink p) c.in_ok-found.found.items c.in_ok-locations.locations.items (search rules) (λ none. passes_27 lib plan ss c.requires.passed (c.in_ok-found.ensures.none none)) c.passed.ensures.ok
