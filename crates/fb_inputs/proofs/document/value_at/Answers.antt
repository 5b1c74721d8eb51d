use Rattle.std.proofs.Common.{List, ℕ, ap, ◌∙◌}
use Rattle.toml.specs.Data.{get_member}
use Rattle.toml.specs.View.{table_view}
use Rattle.toml.proofs.Views.{table_get}
use Rattle.fb_inputs.proofs.document.value_at.Goals as goal

pub returns : goal.returns
returns c =
    table_get c.get.result c.text.result.now c.args.keys.now.entries c.get.ensures.value ∙ ap (λ (text : List ℕ). get_member text (table_view c.args.keys.now)) c.text.ensures
