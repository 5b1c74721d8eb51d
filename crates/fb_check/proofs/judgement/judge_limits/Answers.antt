use Rattle.fb_types.proofs.Common.{◌<◌, length, inl, inr, refl, arith, paths_of}
use Rattle.fb_check.specs.Refusals.{inputs_in}
use Rattle.fb_check.specs.declared.fault.Fault.TheVariants as of
use Rattle.fb_check.specs.declared.location.Limit.TheVariants as limit
use Rattle.fb_check.specs.declared.location.Location.TheVariants as at
use Rattle.fb_check.proofs.lemmas.Verdict.{alone_so, least_30, not_so, passes_30, last}
use Rattle.fb_check.proofs.judgement.judge_limits.Goals as goal

pub returns-then-case-gt-MOST_STIMULI-clause-refused : goal.returns-then-case-gt-MOST_STIMULI-clause-refused
returns-then-case-gt-MOST_STIMULI-clause-refused c =
    let many : 100000 < length c.args.case.now.stimuli.now = let test = c.if-case-gt-MOST_STIMULI.true in omega (arith, test) in
    alone_so (inputs_in c.args.case.now) of.OverLimit (at.OverLimit limit.Stimuli) c.in_ok-at.field-0 c.in_ok-at.ensures
    (least_30 c.args.case.now.library.now c.args.case.now.plan.now c.args.case.now.stimuli.now c.requires.passed (inr many)) (limit.Stimuli, refl, many)

pub returns-then-branch-clause-refused : goal.returns-then-branch-clause-refused
returns-then-branch-clause-refused c =
    let lib = c.args.case.now.library.now in
    let over = (c.in_ok-has_too_many_instances.ensures lib c.args.case.now.plan.now c.requires.resolved).0 c.if-branch.true in
    alone_so (inputs_in c.args.case.now) of.OverLimit (at.OverLimit limit.Instances) c.in_ok-at-2.field-0 c.in_ok-at-2.ensures
    (least_30 lib c.args.case.now.plan.now c.args.case.now.stimuli.now c.requires.passed (inl over)) (limit.Instances, refl, over)

pub returns-clause-ok : goal.returns-clause-ok
returns-clause-ok c =
    let lib = c.args.case.now.library.now in
    let few = not_so c.in_ok-has_too_many_instances.field-0 (4096 < length (paths_of lib)) (c.in_ok-has_too_many_instances.ensures lib c.args.case.now.plan.now c.requires.resolved) c.if-branch.false in
    last c.args.case.now.library.now c.args.case.now.plan.now c.args.case.now.stimuli.now
    (passes_30 c.args.case.now.library.now c.args.case.now.plan.now c.args.case.now.stimuli.now c.requires.passed
    (λ over. elim over [ inl paths ↦ few paths | inr many ↦ omega (arith, many, c.if-case-gt-MOST_STIMULI.false) ]))
