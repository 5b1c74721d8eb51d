use Rattle.fb_types.proofs.Common.{◌≡◌, subst, Inputs, AreAccepted, inputs}
use Rattle.fb_check.specs.Refusals as judge
use Rattle.fb_sim.proofs.lemmas.runs.Refused.{check_fault}
use Rattle.fb_sim.proofs.reading.judge_reading.Goals as goal

pub returns-in-Ok-clause-accepted : goal.returns-in-Ok-clause-accepted
returns-in-Ok-clause-accepted c =
    let read = c.args.read.now in
    let same : inputs read.library c.plan.result.now c.as_slice.result.now ≡ inputs read.library read.deploy read.stimuli.items =
    λ i. inputs read.library (c.plan.ensures.value i) (c.as_slice.ensures.value i) in (
      inputs read.library read.deploy read.stimuli.items,
      record { read = c.requires; accepted = subst (λ (i : Inputs). AreAccepted i) same c.in-Ok.ensures.accepted },
    )

pub returns-in_default-clause-refused : goal.returns-in_default-clause-refused
returns-in_default-clause-refused c =
    let read = c.args.read.now in
    let e = c.in-Err.error in
    let same : inputs read.library c.plan.result.now c.as_slice.result.now ≡ inputs read.library read.deploy read.stimuli.items =
    λ i. inputs read.library (c.plan.ensures.value i) (c.as_slice.ensures.value i) in
    check_fault c.args.inputs.now _ e c.in_default.not-Memory c.requires (subst (λ (i : Inputs). judge.IsRightly i e) same c.in-Err.ensures.refused)
