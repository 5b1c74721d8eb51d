use Rattle.std.proofs.Common.{◌≡◌, ◌==◌, true, false, sym, ◌∙◌, arith}
use Rattle.std.proofs.lemmas.Bool.Decides.{nat_tests}
use Rattle.std.proofs.lemmas.Grind.{common_steps}
use Rattle.toml_parser.specs.Lexical.{first}
use Rattle.fb_deploy_positions.proofs.lemmas.Tokens.{no_key, no_equals, past_equals, refused_as}
use Rattle.fb_deploy_positions.proofs.tokens.key_equals.Goals as goal

pub returns-then-first-ne61-clause-value : goal.returns-then-first-ne61-clause-value
returns-then-first-ne61-clause-value c =
    let other : (first c.in-Ok.rest.now == 61) ≡ false = grind (arith, nat_tests, common_steps) in
    sym (no_equals c.args.text.now _ _ c.in-Ok.ensures.value other)

pub returns-else-first-ne61-clause-value : goal.returns-else-first-ne61-clause-value
returns-else-first-ne61-clause-value c =
    let here : (first c.in-Ok.rest.now == 61) ≡ true = grind (arith, nat_tests, common_steps) in
    sym (past_equals c.args.text.now _ _ c.in-Ok.ensures.value here ∙ rw (c.skip_ws.ensures.rest, c.skip.ensures.rest))

pub returns-in-Err-clause-value : goal.returns-in-Err-clause-value
returns-in-Err-clause-value c =
    refused_as _ c.refused.result c.in-Err.error _ c.refused.ensures (λ given. no_key c.args.text.now (c.in-Err.ensures.value given))
