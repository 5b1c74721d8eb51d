use Rattle.fb_types.proofs.Common.{◌∙◌, ℕ, List, Bor, ap, map, sym, length-map, ◌==◌, option_map}
use Rattle.toml.specs.View.{table_view, view}
use Rattle.toml.specs.declared.value.Value.{Value}
use Rattle.fb_expect.proofs.lemmas.documents.Shapes.{no_values, none_there, rules_are}
use Rattle.fb_expect.proofs.document.rules_in.Goals as goal

pub returns-then-not-is_empty : goal.returns-then-not-is_empty
returns-then-not-is_empty c =
    let vs = c.in_ok-values.values.now in
    rules_are (table_view c.args.keys.now) (view c.in_ok-value_at.field-0.now) (map view vs) c.count_of_keys.result c.in_ok-value_at.ensures c.in_ok-values.ensures c.count_of_keys.ensures
    c.if-count_of_keys-eq1.true (c.if-not-is_empty.ensures ∙ ap (λ (k : ℕ). k == 0) (sym (length-map vs view)))

pub returns-in_err-value_at : goal.returns-in_err-value_at
returns-in_err-value_at c =
    ap (option_map (λ (vs : Bor (List Value)). map view vs.now)) c.from_residual.ensures ∙ none_there (table_view c.args.keys.now) c.in_err-value_at.ensures

pub returns-in_err-values : goal.returns-in_err-values
returns-in_err-values c =
    ap (option_map (λ (vs : Bor (List Value)). map view vs.now)) c.from_residual-in_err-values.ensures
    ∙ no_values (table_view c.args.keys.now) (view c.in_ok-value_at.field-0.now) c.in_ok-value_at.ensures c.in_err-values.ensures
