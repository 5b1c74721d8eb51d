use Rattle.std.proofs.Common.{List, Some, ap, map, ◌∙◌}
use Rattle.toml.specs.View.{view}
use Rattle.toml.specs.declared.value.Value.{Value}
use Rattle.fb_expect.proofs.lemmas.documents.DocumentValues.{array_values}
use Rattle.fb_expect.proofs.document.values_of.Goals as goal

pub returns-in-Some : goal.returns-in-Some
returns-in-Some c =
    ap (λ (vs : List Value). Some (map view vs)) c.as_slice.ensures.value ∙ array_values (view c.args.value.now) c.in-Some.values.now.items c.in-Some.ensures
