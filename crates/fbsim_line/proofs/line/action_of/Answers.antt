use Rattle.std.proofs.Common.{◌≡◌, ◌∙◌, sym}
use Rattle.clap.specs.Words.{found_of, rows_of}
use Rattle.fbsim_line.specs.Line.{IsAction, command_name}
use Rattle.fbsim_line.specs.declared.line.Action.{Action}
use Rattle.fbsim_line.proofs.lemmas.LineLaws.{if_none, no_form, no_horizon, no_steps, no_workers}
use Rattle.fbsim_line.proofs.line.action_of.Goals as goal

pub returns-in-check-clause-options : goal.returns-in-check-clause-options
returns-in-check-clause-options c = c.has_flag.ensures

pub returns-in_err-number-in-run-clause-none : goal.returns-in_err-number-in-run-clause-none
returns-in_err-number-in-run-clause-none c =
    let rows = rows_of (found_of c.args.found.now) in
    let none : (o : Action) → c.args.name.now ≡ command_name o → IsAction rows o → ⊥ = λ o named. no_horizon rows c.in_err-number-in-run.ensures.none o (sym c.in-run.is ∙ named) in
    if_none _ _ none

pub returns-in_err-number-in-run-2-clause-none : goal.returns-in_err-number-in-run-2-clause-none
returns-in_err-number-in-run-2-clause-none c =
    let rows = rows_of (found_of c.args.found.now) in
    let none : (o : Action) → c.args.name.now ≡ command_name o → IsAction rows o → ⊥ = λ o named. no_steps rows c.in_err-number-in-run-2.ensures.none o (sym c.in-run.is ∙ named) in
    if_none _ _ none

pub returns-in_err-number-in-run-3-clause-none : goal.returns-in_err-number-in-run-3-clause-none
returns-in_err-number-in-run-3-clause-none c =
    let rows = rows_of (found_of c.args.found.now) in
    let none : (o : Action) → c.args.name.now ≡ command_name o → IsAction rows o → ⊥ = λ o named. no_workers rows c.in_err-number-in-run-3.ensures.none o (sym c.in-run.is ∙ named) in
    if_none _ _ none

pub returns-in_err-form_of-in-run-clause-none : goal.returns-in_err-form_of-in-run-clause-none
returns-in_err-form_of-in-run-clause-none c =
    let rows = rows_of (found_of c.args.found.now) in
    let none : (o : Action) → c.args.name.now ≡ command_name o → IsAction rows o → ⊥ = λ o named. no_form rows c.in_err-form_of-in-run.ensures.none o (sym c.in-run.is ∙ named) in
    if_none _ _ none
