use Rattle.std.proofs.Common.{rules, ◌≡◌, sym, ◌∙◌, codes, Some, None}
use Rattle.clap.specs.Words.{found_of, first_value, rows_of}
use Rattle.clap.proofs.WalkLemmas.{first_value-rows}
use Rattle.fbsim_line.proofs.lemmas.LineLaws.{flag_there, flag_other, flag_none}
use Rattle.fbsim_line.proofs.line.has_flag.Goals as goal

pub returns-in_default : goal.returns-in_default
returns-in_default c =
    let m = found_of c.args.found.now in
    let none : first_value m c.args.id.now ≡ None = search rules in
    flag_none (rows_of m) c.args.id.now (sym (first_value-rows m c.args.id.now) ∙ none)

pub returns-in-true : goal.returns-in-true
returns-in-true c =
    let m = found_of c.args.found.now in
    let given : first_value m c.args.id.now ≡ Some (codes "true") = search rules in
    flag_there (rows_of m) c.args.id.now (sym (first_value-rows m c.args.id.now) ∙ given)

pub returns-in_default-matches : goal.returns-in_default-matches
returns-in_default-matches c =
    let m = found_of c.args.found.now in
    let given : first_value m c.args.id.now ≡ Some c.in-Some.word.now = search rules in
    flag_other (rows_of m) c.args.id.now c.in-Some.word.now (sym (first_value-rows m c.args.id.now) ∙ given) c.in_default-matches.not-true
