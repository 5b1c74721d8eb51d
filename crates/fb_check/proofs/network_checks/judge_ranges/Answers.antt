use Rattle.fb_check.proofs.lemmas.Common.{rules, map, ap, arith, OutOfRangeAt, inputs_in}
use Rattle.fb_check_names.proofs.lemmas.Listing.{some_says}
use Rattle.fb_check.specs.networks.OutOfRange.{IsOutOfRangeAt}
use Rattle.fb_check.proofs.lemmas.networks.Ranges.{out_of_range_applies}
use Rattle.fb_check.specs.declared.fault.Fault.TheVariants as of
use Rattle.fb_check.specs.declared.location.Location.TheVariants as at
use Rattle.fb_check.proofs.lemmas.Verdict.{least_23, made_so, once, passes_23, refused_so}
use Rattle.fb_check.proofs.network_checks.judge_ranges.Goals as goal

pub out_of_range_locations-requires : goal.out_of_range_locations-requires
out_of_range_locations-requires c = (
  c.args.case.now.plan.now,
  c.requires.resolved,
  once 23 c.args.case.now.library.now c.args.case.now.plan.now c.args.case.now.stimuli.now (omega arith) c.requires.passed,
)

pub returns-clause-refused : goal.returns-clause-refused
returns-clause-refused c =
    let lib = c.args.case.now.library.now in
    let plan = c.args.case.now.plan.now in
    let ss = c.args.case.now.stimuli.now in
    refused_so c.passed.result (inputs_in c.args.case.now) of.OutOfRange (λ (p : OutOfRangeAt). at.OutOfRange p) c.in_ok-found.found.items c.in_ok-locations.locations (search rules)
    (λ some. least_23 lib plan ss c.requires.passed (some_says (IsOutOfRangeAt lib) c.in_ok-found.found.items (out_of_range_applies lib) c.in_ok-found.ensures.each some))
    (λ some. ap (map (λ (p : OutOfRangeAt). at.OutOfRange p)) c.in_ok-found.ensures.listed)
    c.passed.ensures.refused

pub returns-clause-ok : goal.returns-clause-ok
returns-clause-ok c =
    let lib = c.args.case.now.library.now in
    let plan = c.args.case.now.plan.now in
    let ss = c.args.case.now.stimuli.now in
    made_so _ c.passed.result tt (λ (p : OutOfRangeAt). at.OutOfRange p) c.in_ok-found.found.items c.in_ok-locations.locations.items (search rules) (λ none. passes_23 lib plan ss c.requires.passed (c.in_ok-found.ensures.none none)) c.passed.ensures.ok
