use Rattle.fbsim_command.proofs.lemmas.calls.Reporting.{none_failed, runs_so}
use Rattle.fbsim_command.proofs.program.run_inputs.Goals as goal

pub returns-then-serial : goal.returns-then-serial
returns-then-serial g c =
    runs_so c.args.serial c.args.inputs.now c.args.options (g.W.Write.contents c.args.out.now) (g.W.Write.contents c.run_serial.new.out) c.run_serial.result c.end_of_run.result c.end_of_run.ensures
    c.run_serial.ensures.trace c.run_serial.ensures.failed

pub returns : goal.returns
returns g c =
    runs_so c.args.serial c.args.inputs.now c.args.options (g.W.Write.contents c.args.out.now) (g.W.Write.contents c.run_with_clock.new.out) c.run_with_clock.result c.end_of_run-2.result c.end_of_run-2.ensures
    c.run_with_clock.ensures.trace c.run_with_clock.ensures.failed

pub end_of_run-requires : goal.end_of_run-requires
end_of_run-requires g c = none_failed c.args.inputs.now c.args.options (g.W.Write.contents c.args.out.now) (g.W.Write.contents c.run_serial.new.out) c.run_serial.result c.run_serial.ensures.failed

pub end_of_run-requires-2 : goal.end_of_run-requires-2
end_of_run-requires-2 g c =
    none_failed c.args.inputs.now c.args.options (g.W.Write.contents c.args.out.now) (g.W.Write.contents c.run_with_clock.new.out) c.run_with_clock.result c.run_with_clock.ensures.failed
