use Rattle.fb_window.proofs.lemmas.Common.{◌++◌, [], ◌∷◌, sym, ap, subst, ◌∙◌, is_some, Inputs, IsOf, JobModel, job_of}
use Rattle.fb_types.proofs.lemmas.lists.Options.{none_from_is_some}
use Rattle.fb_window.proofs.lemmas.phases.Leaves.{append_empty, job_none, job_some, resting_none, resting_some}
use Rattle.fb_window.proofs.leave.leave.Goals as goal

pub returns-then-is_some-clause-jobs : goal.returns-then-is_some-clause-jobs
returns-then-is_some-clause-jobs c =
    append_empty c.args.jobs.now.items (job_of c.args.system.now c.args.steps c.args.to c.args.resource)
    (job_some c.args.system.now c.args.steps c.args.to c.args.resource (ap is_some (sym c.stopped.ensures) ∙ sym c.is_some.ensures ∙ c.if-is_some.true))

pub returns-then-is_some-clause-resting : goal.returns-then-is_some-clause-resting
returns-then-is_some-clause-resting c =
    c.in_ok-push.ensures.items
    ∙ ap (λ o. c.args.resting.now.items ++ o ∷ []) (sym (resting_some c.args.resource (ap is_some (sym c.stopped.ensures) ∙ sym c.is_some.ensures ∙ c.if-is_some.true)))

pub new-job-requires-clause-of : goal.new-job-requires-clause-of
new-job-requires-clause-of c = subst (λ (i : Inputs). IsOf i c.args.resource) (sym c.in_ok-share.ensures) c.requires.of

pub new-job-requires-clause-live : goal.new-job-requires-clause-live
new-job-requires-clause-live c = sym c.stopped.ensures ∙ none_from_is_some c.stopped.result (sym c.is_some.ensures ∙ c.if-is_some.false)

pub new-job-requires-clause-ahead : goal.new-job-requires-clause-ahead
new-job-requires-clause-ahead c = (c.requires.may (sym c.stopped.ensures ∙ none_from_is_some c.stopped.result (sym c.is_some.ensures ∙ c.if-is_some.false))).0

pub new-job-requires-clause-early : goal.new-job-requires-clause-early
new-job-requires-clause-early c = (c.requires.may (sym c.stopped.ensures ∙ none_from_is_some c.stopped.result (sym c.is_some.ensures ∙ c.if-is_some.false))).1

pub returns-clause-jobs : goal.returns-clause-jobs
returns-clause-jobs c =
    let x = c.args.resource in
    let job : Inputs → JobModel = λ i. record { inputs = i; steps = c.args.steps; resource = x; to = c.args.to } in
    let live = sym c.stopped.ensures ∙ none_from_is_some c.stopped.result (sym c.is_some.ensures ∙ c.if-is_some.false) in
    c.in_ok-push-2.ensures.items ∙ ap (λ j. c.args.jobs.now.items ++ j ∷ []) (c.new-job.ensures ∙ ap job c.in_ok-share.ensures)
    ∙ ap (λ js. c.args.jobs.now.items ++ js) (sym (job_none c.args.system.now c.args.steps c.args.to x live))

pub returns-clause-resting : goal.returns-clause-resting
returns-clause-resting c =
    let live = sym c.stopped.ensures ∙ none_from_is_some c.stopped.result (sym c.is_some.ensures ∙ c.if-is_some.false) in
    c.in_ok-push-3.ensures.items ∙ ap (λ o. c.args.resting.now.items ++ o ∷ []) (sym (resting_none c.args.resource live))
