use Rattle.std.proofs.Common.{◌≡◌, ◌+◌, ◌<◌, slice_index, drop, false, ◌∙◌, arith}
use Rattle.std.proofs.lemmas.Bool.Decides.{nat_tests}
use Rattle.std.proofs.lemmas.Grind.{common_steps}
use Rattle.std.specs.List.{prefix_len}
use Rattle.toml_parser.specs.Lexical.{first}
use Rattle.toml_parser.specs.Strings.{is_plain}
use Rattle.fb_deploy_positions.proofs.lemmas.Plain.{plain_quoted}
use Rattle.fb_deploy_positions.proofs.tokens.after_plain.Goals as goal

pub returns-clause-value : goal.returns-clause-value
returns-clause-value c =
    let s = c.args.text.now in
    let len = c.plain_len-len.result in
    let is : len ≡ prefix_len (is_plain (first s) false) (drop 1 s) = grind (arith, common_steps) in
    let some : 0 < len = grind (arith, nat_tests, common_steps) in
    let closes : slice_index s (len + 1) ≡ first s = grind (arith, nat_tests, common_steps) in
    plain_quoted s len c.requires is some closes ∙ rw c.skip.ensures.rest
