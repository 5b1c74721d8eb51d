use Rattle.fb_check.proofs.lemmas.Common.{rules, ℕ, map, ap, arith, inputs_in}
use Rattle.fb_check_names.proofs.lemmas.Listing.{some_says}
use Rattle.fb_check.specs.networks.NoEvent.{IsNoEventAt}
use Rattle.fb_check.proofs.lemmas.networks.NoEvent.{no_event_applies}
use Rattle.fb_check.specs.declared.fault.Fault.TheVariants as of
use Rattle.fb_check.specs.declared.location.Location.TheVariants as at
use Rattle.fb_check.proofs.lemmas.Verdict.{least_28, made_so, once, passes_28, refused_so}
use Rattle.fb_check.proofs.mapping_checks.judge_events.Goals as goal

pub no_event_locations-requires : goal.no_event_locations-requires
no_event_locations-requires c = record {
  once = once 28 c.args.case.now.library.now c.args.case.now.plan.now c.args.case.now.stimuli.now (omega arith) c.requires.passed;
  mapping = c.requires.mapping;
  resolved = c.requires.resolved;
}

pub returns-clause-refused : goal.returns-clause-refused
returns-clause-refused c =
    let lib = c.args.case.now.library.now in
    let plan = c.args.case.now.plan.now in
    let ss = c.args.case.now.stimuli.now in
    refused_so c.passed.result (inputs_in c.args.case.now) of.NoEvent (λ (p : ℕ). at.NoEvent p) c.in_ok-found.found.items c.in_ok-locations.locations (search rules)
    (λ some. least_28 lib plan ss c.requires.passed (some_says (IsNoEventAt lib plan) c.in_ok-found.found.items (no_event_applies lib plan) c.in_ok-found.ensures.each some))
    (λ some. ap (map (λ (p : ℕ). at.NoEvent p)) c.in_ok-found.ensures.listed)
    c.passed.ensures.refused

pub returns-clause-ok : goal.returns-clause-ok
returns-clause-ok c =
    let lib = c.args.case.now.library.now in
    let plan = c.args.case.now.plan.now in
    let ss = c.args.case.now.stimuli.now in
    made_so _ c.passed.result tt (λ (p : ℕ). at.NoEvent p) c.in_ok-found.found.items c.in_ok-locations.locations.items (search rules) (λ none. passes_28 lib plan ss c.requires.passed (c.in_ok-found.ensures.none none)) c.passed.ensures.ok
