use Rattle.fb_system.proofs.lemmas.Common.{◌<◌, Bool, cond, length, subst, sym, system_of, path_at, ports_at, AreIndexes}
use Rattle.fb_system.specs.PortRows.{names_of, variables_of}
use Rattle.fb_system.proofs.system.System.indexes_with.Goals as goal

pub outputs_with-requires-clause-event : goal.outputs_with-requires-clause-event
outputs_with-requires-clause-event c =
    let its = ports_at (system_of c.args.self.now) (path_at (system_of c.args.self.now) c.args.at.instance) in
    subst (λ (b : Bool). c.args.at.event < length (cond b its.event_outputs its.event_inputs)) c.if-at.true c.requires.event

pub inputs_with-requires-clause-event : goal.inputs_with-requires-clause-event
inputs_with-requires-clause-event c =
    let its = ports_at (system_of c.args.self.now) (path_at (system_of c.args.self.now) c.args.at.instance) in
    subst (λ (b : Bool). c.args.at.event < length (cond b its.event_outputs its.event_inputs)) c.if-at.false c.requires.event

pub returns-then-at : goal.returns-then-at
returns-then-at c =
    let its = ports_at (system_of c.args.self.now) (path_at (system_of c.args.self.now) c.args.at.instance) in
    subst (λ (b : Bool). AreIndexes (variables_of its b) (names_of its b c.args.at.event) c.outputs_with.result.now) (sym c.if-at.true) c.outputs_with.ensures

pub returns-else-at : goal.returns-else-at
returns-else-at c =
    let its = ports_at (system_of c.args.self.now) (path_at (system_of c.args.self.now) c.args.at.instance) in
    subst (λ (b : Bool). AreIndexes (variables_of its b) (names_of its b c.args.at.event) c.inputs_with.result.now) (sym c.if-at.false) c.inputs_with.ensures
