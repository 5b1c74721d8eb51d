use Rattle.fb_types.proofs.Common.{◌≡◌, subst, sym, IfOk}
use Rattle.clap.specs.Words.{app_of}
use Rattle.fbsim_line.specs.Line.{command_for}
use Rattle.fbsim_line.specs.declared.line.Subcommand.{Subcommand}
use Rattle.fbsim_line.proofs.line.command_for.Goals as goal

pub returns-in-Run-clause-app : goal.returns-in-Run-clause-app
returns-in-Run-clause-app c = subst (λ (k : Subcommand). IfOk c.run.result (λ r. app_of r ≡ command_for c.args.forms k)) (sym c.in-Run.is) c.run.ensures.app

pub returns-in-Run-clause-globals : goal.returns-in-Run-clause-globals
returns-in-Run-clause-globals c = c.run.ensures.globals

pub returns-in-Check-clause-app : goal.returns-in-Check-clause-app
returns-in-Check-clause-app c = subst (λ (k : Subcommand). IfOk c.deployed.result (λ r. app_of r ≡ command_for c.args.forms k)) (sym c.in-Check.is) c.deployed.ensures.app

pub returns-in-Check-clause-globals : goal.returns-in-Check-clause-globals
returns-in-Check-clause-globals c = c.deployed.ensures.globals

pub returns-in-Session-clause-app : goal.returns-in-Session-clause-app
returns-in-Session-clause-app c = subst (λ (k : Subcommand). IfOk c.session.result (λ r. app_of r ≡ command_for c.args.forms k)) (sym c.in-Session.is) c.session.ensures.app

pub returns-in-Session-clause-globals : goal.returns-in-Session-clause-globals
returns-in-Session-clause-globals c = c.session.ensures.globals

pub returns-in-Wave-clause-app : goal.returns-in-Wave-clause-app
returns-in-Wave-clause-app c = subst (λ (k : Subcommand). IfOk c.deployed-in-Wave.result (λ r. app_of r ≡ command_for c.args.forms k)) (sym c.in-Wave.is) c.deployed-in-Wave.ensures.app

pub returns-in-Wave-clause-globals : goal.returns-in-Wave-clause-globals
returns-in-Wave-clause-globals c = c.deployed-in-Wave.ensures.globals

pub returns-in-Expect-clause-app : goal.returns-in-Expect-clause-app
returns-in-Expect-clause-app c = subst (λ (k : Subcommand). IfOk c.made.result (λ r. app_of r ≡ command_for c.args.forms k)) (sym c.in-Expect.is) c.made.ensures.app

pub returns-in-Expect-clause-globals : goal.returns-in-Expect-clause-globals
returns-in-Expect-clause-globals c = c.made.ensures.globals

pub returns-in-Diff-clause-app : goal.returns-in-Diff-clause-app
returns-in-Diff-clause-app c = subst (λ (k : Subcommand). IfOk c.made-in-Diff.result (λ r. app_of r ≡ command_for c.args.forms k)) (sym c.in-Diff.is) c.made-in-Diff.ensures.app

pub returns-in-Diff-clause-globals : goal.returns-in-Diff-clause-globals
returns-in-Diff-clause-globals c = c.made-in-Diff.ensures.globals

pub returns-in-Draw-clause-app : goal.returns-in-Draw-clause-app
returns-in-Draw-clause-app c = subst (λ (k : Subcommand). IfOk c.deployed-in-Draw.result (λ r. app_of r ≡ command_for c.args.forms k)) (sym c.in-Draw.is) c.deployed-in-Draw.ensures.app

pub returns-in-Draw-clause-globals : goal.returns-in-Draw-clause-globals
returns-in-Draw-clause-globals c = c.deployed-in-Draw.ensures.globals

pub returns-in-Inspect-clause-app : goal.returns-in-Inspect-clause-app
returns-in-Inspect-clause-app c = subst (λ (k : Subcommand). IfOk c.deployed-in-Inspect.result (λ r. app_of r ≡ command_for c.args.forms k)) (sym c.in-Inspect.is) c.deployed-in-Inspect.ensures.app

pub returns-in-Inspect-clause-globals : goal.returns-in-Inspect-clause-globals
returns-in-Inspect-clause-globals c = c.deployed-in-Inspect.ensures.globals

pub returns-in-Coverage-clause-app : goal.returns-in-Coverage-clause-app
returns-in-Coverage-clause-app c = subst (λ (k : Subcommand). IfOk c.deployed-in-Coverage.result (λ r. app_of r ≡ command_for c.args.forms k)) (sym c.in-Coverage.is) c.deployed-in-Coverage.ensures.app

pub returns-in-Coverage-clause-globals : goal.returns-in-Coverage-clause-globals
returns-in-Coverage-clause-globals c = c.deployed-in-Coverage.ensures.globals

pub returns-in-Explain-clause-app : goal.returns-in-Explain-clause-app
returns-in-Explain-clause-app c = subst (λ (k : Subcommand). IfOk c.made-in-Explain.result (λ r. app_of r ≡ command_for c.args.forms k)) (sym c.in-Explain.is) c.made-in-Explain.ensures.app

pub returns-in-Explain-clause-globals : goal.returns-in-Explain-clause-globals
returns-in-Explain-clause-globals c = c.made-in-Explain.ensures.globals
