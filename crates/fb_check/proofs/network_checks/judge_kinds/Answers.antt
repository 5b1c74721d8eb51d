use Rattle.fb_check.proofs.lemmas.Common.{rules, map, ap, KindWrongAt, IsKindWrongAt, inputs_in}
use Rattle.fb_check_names.proofs.lemmas.Listing.{some_says}
use Rattle.fb_check.proofs.lemmas.types.KindsApply.{kind_wrong_applies}
use Rattle.fb_check.specs.declared.fault.Fault.TheVariants as of
use Rattle.fb_check.specs.declared.location.Location.TheVariants as at
use Rattle.fb_check.proofs.lemmas.Verdict.{least_22, made_so, passes_22, refused_so}
use Rattle.fb_check.proofs.network_checks.judge_kinds.Goals as goal

pub kind_wrong_locations-requires : goal.kind_wrong_locations-requires
kind_wrong_locations-requires c = record { catalog = (c.args.case.now.plan.now, c.requires.catalog); numbers = (c.args.case.now.plan.now, c.requires.resolved) }

pub returns-clause-refused : goal.returns-clause-refused
returns-clause-refused c =
    let lib = c.args.case.now.library.now in
    let plan = c.args.case.now.plan.now in
    let ss = c.args.case.now.stimuli.now in
    refused_so c.passed.result (inputs_in c.args.case.now) of.KindWrong (λ (p : KindWrongAt). at.KindWrong p) c.in_ok-found.found.items c.in_ok-locations.locations (search rules)
    (λ some. least_22 lib plan ss c.requires.passed (some_says (IsKindWrongAt lib) c.in_ok-found.found.items (kind_wrong_applies lib) c.in_ok-found.ensures.each some))
    (λ some. ap (map (λ (p : KindWrongAt). at.KindWrong p)) c.in_ok-found.ensures.listed)
    c.passed.ensures.refused

pub returns-clause-ok : goal.returns-clause-ok
returns-clause-ok c =
    let lib = c.args.case.now.library.now in
    let plan = c.args.case.now.plan.now in
    let ss = c.args.case.now.stimuli.now in
    made_so _ c.passed.result tt (λ (p : KindWrongAt). at.KindWrong p) c.in_ok-found.found.items c.in_ok-locations.locations.items (search rules) (λ none. passes_22 lib plan ss c.requires.passed (c.in_ok-found.ensures.none none)) c.passed.ensures.ok
