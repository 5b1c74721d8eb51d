use Rattle.fb_check.proofs.lemmas.Common.{sym, ◌∙◌, ap, end_number, Side, placed}
use Rattle.fb_check.specs.types.Scopes.{side_number}
use Rattle.fb_check.proofs.types.ends.side_of.Goals as goal

pub returns-in-From : goal.returns-in-From
returns-in-From c =
    let lib = c.args.types.now.library.now in
    let n = placed c.args.scope.now in
    let x = c.args.connection.now in
    c.end_of.ensures ∙ (λ i. end_number lib n (c.output_of-output.ensures i) (c.input_of-input.ensures i) x.from)
    ∙ ap (λ (s : Side). side_number lib n c.args.flow s x) (sym c.in-From.is)

pub returns-in-To : goal.returns-in-To
returns-in-To c =
    let lib = c.args.types.now.library.now in
    let n = placed c.args.scope.now in
    let x = c.args.connection.now in
    c.end_of-in-To.ensures ∙ (λ i. end_number lib n (c.input_of-input.ensures i) (c.output_of-output.ensures i) x.to)
    ∙ ap (λ (s : Side). side_number lib n c.args.flow s x) (sym c.in-To.is)
