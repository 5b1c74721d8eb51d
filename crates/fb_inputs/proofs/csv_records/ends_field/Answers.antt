use Rattle.std.proofs.Common.{◌||◌, Bool, sym, ap, ◌∙◌}
use Rattle.fb_inputs.specs.Records.{ends_record}
use Rattle.fb_inputs.proofs.csv_records.ends_field.Goals as goal

pub returns-then-is_comma : goal.returns-then-is_comma
returns-then-is_comma c =
    c.if-is_comma.true ∙ ap (λ (b : Bool). b || ends_record c.args.field.now c.args.at) (sym c.if-is_comma.true ∙ c.is_comma.ensures)

pub returns-else-is_comma : goal.returns-else-is_comma
returns-else-is_comma c =
    c.ends_record.ensures ∙ ap (λ (b : Bool). b || ends_record c.args.field.now c.args.at) (sym c.if-is_comma.false ∙ c.is_comma.ensures)
