use Rattle.fb_types.proofs.Common.{◌≤◌, length, arith, err_from_is_err_and}
use Rattle.fb_types.specs.declared.deploy.Plan.{Plan}
use Rattle.toml.specs.View.{table_view}
use Rattle.fb_inputs.specs.Deployments.{most_bytes, too_long}
use Rattle.fb_inputs.proofs.lemmas.deployments.Outcomes.{judged_there, refused_document, refused_draft}
use Rattle.fb_inputs.proofs.deployment.locate_deploy.Goals as goal

pub returns-then-bytes-gt-MOST_BYTES : goal.returns-then-bytes-gt-MOST_BYTES
returns-then-bytes-gt-MOST_BYTES c = too_long (omega arith)

pub returns-in_err-keys : goal.returns-in_err-keys
returns-in_err-keys c =
    let short : length c.args.bytes.now ≤ most_bytes = omega arith in
    let p = err_from_is_err_and c.from_residual.result c.from_residual.ensures.1 in
    rw (p.1, p.2) (refused_document {X = Plan} (λ d. d) c.args.bytes.now c.in_err-keys.field-0.0 short c.in_err-keys.ensures.refused)

pub returns-in_err-draft : goal.returns-in_err-draft
returns-in_err-draft c =
    let short : length c.args.bytes.now ≤ most_bytes = omega arith in
    let p = err_from_is_err_and c.from_residual-in_err-draft.result c.from_residual-in_err-draft.ensures.1 in
    rw (p.1, p.2) (refused_draft {X = Plan} (λ d. d) c.args.bytes.now (table_view c.in_ok-keys.keys) c.in_err-draft.field-0.0 short c.in_ok-keys.ensures.found (rw c.in_err-draft.was at c.draft_of-draft.ensures.value))

pub judge-requires : goal.judge-requires
judge-requires c = rw c.in_ok-draft.was at c.draft_of-draft.ensures.some

pub returns : goal.returns
returns c =
    let short : length c.args.bytes.now ≤ most_bytes = omega arith in
    judged_there c.args.bytes.now (table_view c.in_ok-keys.keys) c.in_ok-draft.draft c.judge.result short c.in_ok-keys.ensures.found (rw c.in_ok-draft.was at c.draft_of-draft.ensures.value) c.judge.ensures
