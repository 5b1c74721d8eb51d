use Rattle.std.proofs.Common.{map, Bor, List, ℕ}
use Rattle.clap.specs.Words.{subcommand_rows_of}
use Rattle.fbsim_line.proofs.lemmas.LineLaws.{asks_help, are_refused, is_taken, make_call, make_no_call, on_ok}
use Rattle.fbsim_line.proofs.line.parse.Goals as goal

pub returns-in-Ok-clause-call : goal.returns-in-Ok-clause-call
returns-in-Ok-clause-call c = make_call c.forms.result c.forms.ensures _ (map (λ (w : Bor (List ℕ)). w.now) c.args.words.now) c.in_ok-command.ensures _ (subcommand_rows_of c.in-Ok.matches) c.in-Ok.ensures.matches c.call_in.result c.call_in.ensures.call

pub returns-in-Ok-clause-taken : goal.returns-in-Ok-clause-taken
returns-in-Ok-clause-taken c =
    on_ok c.call_in.result _ (is_taken c.forms.result c.forms.ensures _ (map (λ (w : Bor (List ℕ)). w.now) c.args.words.now) c.in_ok-command.ensures c.in-Ok.ensures.kinds)

pub returns-in-Ok-clause-none : goal.returns-in-Ok-clause-none
returns-in-Ok-clause-none c =
    let words = map (λ (w : Bor (List ℕ)). w.now) c.args.words.now in
    let taken = is_taken c.forms.result c.forms.ensures _ words c.in_ok-command.ensures c.in-Ok.ensures.kinds in
    make_no_call c.forms.result c.forms.ensures _ words c.in_ok-command.ensures _ (subcommand_rows_of c.in-Ok.matches) c.in-Ok.ensures.matches c.call_in.result taken c.call_in.ensures.none

pub returns-in-Err-clause-help : goal.returns-in-Err-clause-help
returns-in-Err-clause-help c = λ h. asks_help c.forms.result c.forms.ensures _ (map (λ (w : Bor (List ℕ)). w.now) c.args.words.now) c.in_ok-command.ensures c.in-Err.error c.in-Err.ensures.kinds (c.fault.ensures.help h)

pub returns-in-Err-clause-none : goal.returns-in-Err-clause-none
returns-in-Err-clause-none c = λ h.
    are_refused c.forms.result c.forms.ensures _ (map (λ (w : Bor (List ℕ)). w.now) c.args.words.now) c.in_ok-command.ensures c.in-Err.error
    c.in-Err.ensures.kinds c.in-Err.ensures.passes (c.fault.ensures.fault h) (c.fault.ensures.no_help h)
