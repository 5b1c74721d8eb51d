use Rattle.fb_types.proofs.Common.{◌∙◌, stimuli_of, system_of, ending_of}
use Rattle.fb_inspect.proofs.lemmas.runs.BeginsSo.{run_begins}
use Rattle.fb_inspect.proofs.lemmas.runs.Followed.{run_row}
use Rattle.fb_inspect.proofs.lemmas.runs.RunContinues.{run_goes_on}
use Rattle.fb_inspect.proofs.lemmas.reactions.EventPorts.{stimuli_there, targets_there}
use Rattle.fb_inspect.proofs.laws.runs_are_walks.Goals as goal

pub returns : goal.returns
returns c = record {
  takings = λ i accepted horizon limit small within ts is.
      let row = run_row (system_of i) limit within (targets_there i accepted) horizon small (stimuli_of i) (stimuli_there i accepted) ts is in
      (row.0, row.1, row.2);
  lines = λ i accepted horizon limit small within ts is xs x more are is_taking lines.
      let row = run_row (system_of i) limit within (targets_there i accepted) horizon small (stimuli_of i) (stimuli_there i accepted) ts is in
      run_goes_on (system_of i) limit within xs x more are is_taking row.0 (ending_of horizon ts) row.2 (row.1 ∙ lines);
  next = λ i accepted horizon limit small within ts is xs l more are lines.
      let row = run_row (system_of i) limit within (targets_there i accepted) horizon small (stimuli_of i) (stimuli_there i accepted) ts is in
      run_begins (system_of i) limit within xs l more are row.0 (ending_of horizon ts) row.2 (row.1 ∙ lines);
}
