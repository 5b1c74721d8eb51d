use Rattle.fb_types.proofs.Common.{system_of, path_at}
use Rattle.fb_system.proofs.lemmas.values.InitialInputs.{outputs_begun}
use Rattle.fb_system.proofs.lemmas.inputs.TablesOfInputs.{ok_seen}
use Rattle.fb_system.proofs.system.System.initial_outputs.Goals as goal

pub returns : goal.returns
returns c =
    let sys = system_of c.args.self.now in
    ok_seen _ _ _ (outputs_begun c.args.self.now (path_at sys c.args.instance) _ c.facts.ensures.accepted c.ports.ensures) c.output_values.ensures
