use Rattle.fb_types.proofs.Common.{ap, sym, ◌∙◌, arith, true≢false, is_some}
use Rattle.toml.specs.Errors.{IsMemory}
use Rattle.toml.specs.View.{table_view}
use Rattle.fb_inputs.proofs.lemmas.deployments.Outcomes.{is_document, is_no_document}
use Rattle.fb_inputs.proofs.deployment.document.Goals as goal

pub returns-in-Ok-clause-found : goal.returns-in-Ok-clause-found
returns-in-Ok-clause-found c = is_document c.args.bytes.now (table_view c.in-Ok.keys) c.in-Ok.ensures.ok.0 c.in-Ok.ensures.ok.1

pub returns-in-Some-clause-refused : goal.returns-in-Some-clause-refused
returns-in-Some-clause-refused c =
    let enough : ¬ (IsMemory c.in-Err.error) = λ m. true≢false (ap is_some (sym c.in-Some.is) ∙ c.span.ensures.none.1 m) in
    let (low, high) = c.in-Err.ensures.span in
    let start = c.in-Some.ensures.range.0 in
    (is_no_document c.args.bytes.now (λ u. c.in-Err.ensures.refused enough u), omega arith)
