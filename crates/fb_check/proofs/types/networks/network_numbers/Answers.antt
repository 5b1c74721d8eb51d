use Rattle.fb_check.proofs.lemmas.Common.{◌++◌, List, Option, Some, ℕ, ◌∙◌, ap, Connection, Instance, TypeNumber, each_at, Events, Data, connection_number, number_in, placed, each_some, unknown_ends, unknown_in_instance}
use Rattle.fb_check.specs.types.Scopes.{inputs_in}
use Rattle.fb_check.proofs.lemmas.types.GrowingLists.{three_added}
use Rattle.fb_check.proofs.lemmas.types.NumbersOfNames.{network_resolved}
use Rattle.fb_check.proofs.types.networks.network_numbers.Goals as goal

pub wires_of-requires-clause-typed : goal.wires_of-requires-clause-typed
wires_of-requires-clause-typed c =
    let kind : Instance → Option TypeNumber = λ i. Some (number_in c.args.types.now.library.now i.block_type) in
    c.in_ok-push_instances.ensures.kinds ∙ ap (λ (ks : List TypeNumber). ks ++ each_some kind c.as_slice-instances.result.now) c.new-kinds.ensures ∙ ap (each_some kind) c.as_slice-instances.ensures

pub wires_of-requires-2-clause-typed : goal.wires_of-requires-2-clause-typed
wires_of-requires-2-clause-typed c =
    let kind : Instance → Option TypeNumber = λ i. Some (number_in c.args.types.now.library.now i.block_type) in
    c.in_ok-push_instances.ensures.kinds ∙ ap (λ (ks : List TypeNumber). ks ++ each_some kind c.as_slice-instances.result.now) c.new-kinds.ensures ∙ ap (each_some kind) c.as_slice-instances.ensures

pub returns-clause-listed : goal.returns-clause-listed
returns-clause-listed c =
    let lib = c.args.types.now.library.now in
    let n = placed c.args.scope.now in
    let s = c.args.site in
    let f0 = c.args.found.now.items in
    let f1 = c.push_instances.new.found.items in
    let f2 = c.wires_of.new.found.items in
    three_added f0 f1 f2 c.wires_of-2.new.found.items (each_at (unknown_in_instance lib s) n.1.instances) (each_at (unknown_ends lib s n Events) n.1.event_connections) (each_at (unknown_ends lib s n Data) n.1.data_connections)
    (c.in_ok-push_instances.ensures.listed ∙ ap (λ (xs : List Instance). f0 ++ each_at (unknown_in_instance lib s) xs) c.as_slice-instances.ensures)
    (c.in_ok-event_wires.ensures.listed ∙ ap (λ (xs : List Connection). f1 ++ each_at (unknown_ends lib s n Events) xs) c.as_slice-events.ensures)
    (c.in_ok-data_wires.ensures.listed ∙ ap (λ (xs : List Connection). f2 ++ each_at (unknown_ends lib s n Data) xs) c.as_slice-data.ensures)

pub returns-clause-numbers : goal.returns-clause-numbers
returns-clause-numbers c =
    let lib = c.args.types.now.library.now in
    let n = placed c.args.scope.now in
    let kind : Instance → Option TypeNumber = λ i. Some (number_in lib i.block_type) in
    let set : Instance → Option (List ℕ) = λ i. Some (inputs_in lib i) in
    network_resolved lib c.args.site n _
    (c.in_ok-push_instances.ensures.kinds ∙ ap (λ (ks : List TypeNumber). ks ++ each_some kind c.as_slice-instances.result.now) c.new-kinds.ensures ∙ ap (each_some kind) c.as_slice-instances.ensures)
    (c.in_ok-push_instances.ensures.inputs ∙ ap (λ (ks : List (List ℕ)). ks ++ each_some set c.as_slice-instances.result.now) c.new-inputs.ensures ∙ ap (each_some set) c.as_slice-instances.ensures)
    (c.in_ok-event_wires.ensures.numbers ∙ ap (each_some (connection_number lib n Events)) c.as_slice-events.ensures)
    (c.in_ok-data_wires.ensures.numbers ∙ ap (each_some (connection_number lib n Data)) c.as_slice-data.ensures)
