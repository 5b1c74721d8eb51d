use Rattle.fb_types.proofs.Common.{sym, ◌∙◌, refl, false≢true}
use Rattle.toml.specs.Errors.{IsMemory}
use Rattle.toml.specs.View.{table_view}
use Rattle.fb_expect.proofs.lemmas.documents.Outcomes.{is_document, is_no_document}
use Rattle.fb_expect.proofs.rules.document.Goals as goal

pub returns-in-Ok : goal.returns-in-Ok
returns-in-Ok c = rw (is_document c.args.bytes.now (table_view c.in-Ok.keys) c.in-Ok.ensures.ok.0 c.in-Ok.ensures.ok.1) refl

pub returns-else-is_memory : goal.returns-else-is_memory
returns-else-is_memory c =
    let enough : ¬ (IsMemory c.in-Err.error) = λ m. absurd (false≢true (sym c.if-is_memory.false ∙ c.is_memory.ensures.1 m)) in
    rw (is_no_document c.args.bytes.now (λ u. c.in-Err.ensures.refused enough u)) refl
