use Rattle.fb_types.proofs.Common.{◌+◌, ◌∙◌, ℕ, ap, map, string_bytes}
use Rattle.fbsim_command.proofs.lemmas.files.FileNames.{placed-alone, placed-in}
use Rattle.fbsim_command.proofs.own_lines.note_at.Goals as goal

pub returns-in-Some : goal.returns-in-Some
returns-in-Some c =
    placed-in (map (λ t. t.now) c.args.types.now) c.args.own.now c.args.lines.now (λ s. string_bytes s) c.args.at.line c.args.at.column c.column.result c.in-Some.there.file c.in-Some.there.line c.file_name-name.result.now
    c.args.matter.now c.placed_text.result c.in-Some.ensures.found c.file_name-name.ensures (c.column.ensures ∙ ap (λ (k : ℕ). c.args.at.column + k) c.in-Some.ensures.mark) c.placed_text.ensures

pub returns-in-None : goal.returns-in-None
returns-in-None c =
    placed-alone (map (λ t. t.now) c.args.types.now) c.args.own.now c.args.lines.now (λ s. string_bytes s) c.args.at.line c.args.at.column c.args.matter.now c.placed_text-in-None.result c.in-None.ensures.none
    c.placed_text-in-None.ensures
