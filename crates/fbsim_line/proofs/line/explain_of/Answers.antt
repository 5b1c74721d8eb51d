use Rattle.std.proofs.Common.{rules, ◌≡◌, sym, ◌∙◌, codes, Some, None}
use Rattle.clap.specs.Words.{found_of, first_value}
use Rattle.clap.proofs.WalkLemmas.{first_value-rows}
use Rattle.fbsim_line.proofs.lemmas.LineLaws.{if_none}
use Rattle.fbsim_line.proofs.line.explain_of.Goals as goal

pub returns-clause-rows : goal.returns-clause-rows
returns-clause-rows c =
    let m = found_of c.args.found.now in
    let given : first_value m (codes "NAME") ≡ Some c.in_ok-get_str.field-0.now = search rules in
    sym (first_value-rows m (codes "NAME")) ∙ given

pub returns-in_err-get_str-clause-none : goal.returns-in_err-get_str-clause-none
returns-in_err-get_str-clause-none c =
    let m = found_of c.args.found.now in
    let none : first_value m (codes "NAME") ≡ None = search rules in
    if_none _ _ (sym (first_value-rows m (codes "NAME")) ∙ none)
