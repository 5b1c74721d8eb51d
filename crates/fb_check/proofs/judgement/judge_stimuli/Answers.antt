use Rattle.fb_check.proofs.lemmas.Common.{rules, refl, arith, StimulusLocation, IsBadAt, inputs_in}
use Rattle.fb_check_names.proofs.lemmas.Listing.{some_says}
use Rattle.fb_check.proofs.lemmas.GoodStimuli.{bad_applies}
use Rattle.fb_check.specs.declared.fault.Fault.TheVariants as of
use Rattle.fb_check.specs.declared.location.Location.TheVariants as at
use Rattle.fb_check.proofs.lemmas.Verdict.{known, least_29, made_so, passes_29, refused_so}
use Rattle.fb_check.proofs.judgement.judge_stimuli.Goals as goal

pub stimulus_rows-requires : goal.stimulus_rows-requires
stimulus_rows-requires c = record {
  empty = c.new-found.ensures.items;
  names = (
    c.args.case.now.plan.now,
    c.requires.catalog,
    known 29 c.args.case.now.library.now c.args.case.now.plan.now c.args.case.now.stimuli.now (omega arith) c.requires.passed,
  );
}

pub returns-clause-refused : goal.returns-clause-refused
returns-clause-refused c =
    let lib = c.args.case.now.library.now in
    let plan = c.args.case.now.plan.now in
    let ss = c.args.case.now.stimuli.now in
    let found = c.stimulus_rows.new.found.items in
    refused_so c.passed.result (inputs_in c.args.case.now) of.BadStimulus (λ (p : StimulusLocation). at.BadStimulus p) found c.in_ok-locations.locations (search rules)
    (λ some. least_29 lib plan ss c.requires.passed (some_says (IsBadAt lib ss) found (bad_applies lib ss) c.in_ok-rows.ensures.each some))
    (λ some. (found, refl, some, c.in_ok-rows.ensures.each, c.in_ok-rows.ensures.all))
    c.passed.ensures.refused

pub returns-clause-rows : goal.returns-clause-rows
returns-clause-rows c =
    let lib = c.args.case.now.library.now in
    let plan = c.args.case.now.plan.now in
    let ss = c.args.case.now.stimuli.now in
    let found = c.stimulus_rows.new.found.items in
    made_so _ c.passed.result c.in_ok-rows.rows (λ (p : StimulusLocation). at.BadStimulus p) found c.in_ok-locations.locations.items (search rules) (λ none. (c.in_ok-rows.ensures.rows none).rows) c.passed.ensures.ok

pub returns-clause-ok : goal.returns-clause-ok
returns-clause-ok c =
    let lib = c.args.case.now.library.now in
    let plan = c.args.case.now.plan.now in
    let ss = c.args.case.now.stimuli.now in
    let found = c.stimulus_rows.new.found.items in
    made_so _ c.passed.result c.in_ok-rows.rows (λ (p : StimulusLocation). at.BadStimulus p) found c.in_ok-locations.locations.items (search rules) (λ none. passes_29 lib plan ss c.requires.passed (c.in_ok-rows.ensures.rows none).good) c.passed.ensures.ok
