use Rattle.fb_types.proofs.Common.{rules, ◌≡◌, sym, ◌∙◌, codes, Some, None}
use Rattle.fb_types.specs.declared.run.Form.TheVariants.{One, Two}
use Rattle.clap.specs.Words.{found_of, first_value, rows_of}
use Rattle.clap.proofs.WalkLemmas.{first_value-rows}
use Rattle.fbsim_line.specs.Line.{word_of}
use Rattle.fbsim_line.proofs.lemmas.LineLaws.{if_none, no_word, other_word}
use Rattle.fbsim_line.proofs.line.form_of.Goals as goal

pub returns-in_err-get_str-clause-none : goal.returns-in_err-get_str-clause-none
returns-in_err-get_str-clause-none c =
    let m = found_of c.args.found.now in
    let none : first_value m (codes "trace") ≡ None = search rules in
    if_none _ _ (no_word (rows_of m) (sym (first_value-rows m (codes "trace")) ∙ none))

pub returns-in-text-clause-form : goal.returns-in-text-clause-form
returns-in-text-clause-form c =
    let m = found_of c.args.found.now in
    let given : first_value m (codes "trace") ≡ Some (word_of One) = search rules in
    sym (first_value-rows m (codes "trace")) ∙ given

pub returns-in-text-2-clause-form : goal.returns-in-text-2-clause-form
returns-in-text-2-clause-form c =
    let m = found_of c.args.found.now in
    let given : first_value m (codes "trace") ≡ Some (word_of Two) = search rules in
    sym (first_value-rows m (codes "trace")) ∙ given

pub returns-in_default-clause-none : goal.returns-in_default-clause-none
returns-in_default-clause-none c =
    let m = found_of c.args.found.now in
    let word = c.in_ok-get_str.field-0.now in
    let given : first_value m (codes "trace") ≡ Some word = search rules in
    other_word (rows_of m) word (sym (first_value-rows m (codes "trace")) ∙ given) c.in_default.not-text c.in_default.not-text-2
