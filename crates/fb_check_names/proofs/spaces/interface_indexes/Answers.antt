use Rattle.fb_types.proofs.Common.{List, ◌++◌, ◌∙◌, ap, inl}
use Rattle.fb_types.specs.declared.library.EventPort.{EventPort}
use Rattle.fb_check_names.specs.Listed.{each_at}
use Rattle.fb_check_names.specs.declared.location.Direction.TheVariants.{Input, Output}
use Rattle.fb_check_names.specs.declared.twice.GivenTwice.{GivenTwice}
use Rattle.fb_check_names.specs.GivenTwice.{names_of_ports}
use Rattle.fb_check_names.specs.TwiceLists.{names_twice, with_twice}
use Rattle.fb_check_names.specs.declared.repeats.NameSpace.TheVariants as space
use Rattle.fb_check_names.proofs.lemmas.numbers.BlockIndexes.{after_two}
use Rattle.fb_check_names.proofs.spaces.interface_indexes.Goals as goal

pub returns-clause-found : goal.returns-clause-found
returns-clause-found c =
    let b = c.args.block in
    let old : List GivenTwice = c.args.found.now.items in
    let names = names_twice (space.Ports b) (names_of_ports c.args.ports.now c.args.internals.now) in
    after_two old names (each_at (with_twice b Input) c.args.ports.now.event_inputs) (each_at (with_twice b Output) c.args.ports.now.event_outputs) _ _ _
    c.in_ok-indexes.ensures.found
    (c.in_ok-push_in_withs.ensures ∙ ap (λ (es : List EventPort). c.port_indexes.new.found.items ++ each_at (with_twice b Input) es) c.as_slice-inputs.ensures)
    (c.in_ok-push_in_withs-2.ensures ∙ ap (λ (es : List EventPort). c.push_in_withs.new.found.items ++ each_at (with_twice b Output) es) c.as_slice-outputs.ensures)

pub returns-clause-indexes : goal.returns-clause-indexes
returns-clause-indexes c = λ once. c.in_ok-indexes.ensures.indexes (λ t. once (inl t))
