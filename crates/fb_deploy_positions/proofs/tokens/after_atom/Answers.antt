use Rattle.std.proofs.Common.{◌≡◌, true, false, option_map, sym, ap, ◌∙◌}
use Rattle.toml_parser.specs.Strings.{starts_string}
use Rattle.fb_deploy_positions.proofs.lemmas.Tokens.{ok_as, refused_as, after_scalar, after_string}
use Rattle.fb_deploy_positions.proofs.tokens.after_atom.Goals as goal

pub returns-then-starts_string-clause-value : goal.returns-then-starts_string-clause-value
returns-then-starts_string-clause-value c =
    let starts : starts_string c.args.text.now ≡ true = sym c.starts_string.ensures ∙ c.if-starts_string.true in
    ok_as _ c.after_string.result _ _ (sym (after_string c.args.text.now starts)) c.after_string.ensures.value

pub returns-in-Ok-clause-value : goal.returns-in-Ok-clause-value
returns-in-Ok-clause-value c =
    let other : starts_string c.args.text.now ≡ false = sym c.starts_string.ensures ∙ c.if-starts_string.false in
    sym (after_scalar c.args.text.now other ∙ ap (option_map (λ p. p.1)) c.in-Ok.ensures.value)

pub returns-in-Err-clause-value : goal.returns-in-Err-clause-value
returns-in-Err-clause-value c =
    let other : starts_string c.args.text.now ≡ false = sym c.starts_string.ensures ∙ c.if-starts_string.false in
    refused_as _ c.refused.result c.in-Err.error _ c.refused.ensures
    (λ given. after_scalar c.args.text.now other ∙ ap (option_map (λ p. p.1)) (c.in-Err.ensures.value given))
