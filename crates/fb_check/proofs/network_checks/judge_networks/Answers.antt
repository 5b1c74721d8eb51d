use Rattle.fb_check.proofs.lemmas.Common.{refl, TooHigh, inputs_in}
use Rattle.std.proofs.lemmas.Option.{MatchOption-at_some, MatchOption-at_none}
use Rattle.fb_check.specs.declared.fault.Fault.TheVariants as of
use Rattle.fb_check.specs.declared.location.Location.TheVariants as at
use Rattle.fb_check.specs.networks.Heights.{IsTooHighAt}
use Rattle.fb_check.proofs.lemmas.networks.Circles.{height_applies}
use Rattle.fb_check.proofs.lemmas.Verdict.{alone_so, first, least_25, passes_20, passes_21, passes_25}
use Rattle.fb_check.proofs.network_checks.judge_networks.Goals as goal

pub judge_kinds-requires : goal.judge_kinds-requires
judge_kinds-requires c =
    let lib = c.args.case.now.library.now in
    let plan = c.args.case.now.plan.now in
    let ss = c.args.case.now.stimuli.now in
    record {
      catalog = c.requires.catalog;
      resolved = c.requires.resolved;
      passed = passes_21 lib plan ss (passes_20 lib plan ss (first lib plan ss) c.requires.catalog.once) c.requires.resolved.known;
    }

pub judge_ranges-requires : goal.judge_ranges-requires
judge_ranges-requires c = record { resolved = c.requires.resolved; passed = c.in_ok-judge_kinds.ensures.ok }

pub judge_sources-requires : goal.judge_sources-requires
judge_sources-requires c = c.in_ok-judge_ranges.ensures.ok

pub returns-in_ok-at-in-Some-clause-refused : goal.returns-in_ok-at-in-Some-clause-refused
returns-in_ok-at-in-Some-clause-refused c =
    let lib = c.args.case.now.library.now in
    let plan = c.args.case.now.plan.now in
    let ss = c.args.case.now.stimuli.now in
    let too_high = c.in-Some.too_high in
    let high = MatchOption-at_some (¬ (TooHigh lib)) (IsTooHighAt lib) too_high c.in-Some.is (c.in_ok-too_high.ensures lib plan c.requires.resolved) in
    alone_so (inputs_in c.args.case.now) of.TooHigh (at.TooHigh too_high) c.in_ok-at-in-Some.field-0 c.in_ok-at-in-Some.ensures (least_25 lib plan ss c.in_ok-judge_sources.ensures.ok (height_applies lib too_high high))
    (too_high, refl, high)

pub returns-in-None-clause-ok : goal.returns-in-None-clause-ok
returns-in-None-clause-ok c =
    let lib = c.args.case.now.library.now in
    let plan = c.args.case.now.plan.now in
    passes_25 lib plan c.args.case.now.stimuli.now c.in_ok-judge_sources.ensures.ok
    (MatchOption-at_none (¬ (TooHigh lib)) (IsTooHighAt lib) c.in-None.is (c.in_ok-too_high.ensures lib plan c.requires.resolved))
