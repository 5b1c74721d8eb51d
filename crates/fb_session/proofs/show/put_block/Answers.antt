use Rattle.fb_types.proofs.Common.{◌<◌, ◌∙◌, Some, length, refl, sym, ap, subst, slice_get_read, world_of}
use Rattle.fb_net.specs.declared.block.Block.TheViews.{out-Block}
use Rattle.fb_session.proofs.lemmas.Showing.{basic_block_shown, composite_inputs, composite_shown, due_is, event_block_shown, event_inputs, forest_at, has_tree, has_type, narrow_resource, on_ok, out_composite, outputs, stands_here}
use Rattle.fb_session.proofs.show.put_block.Goals as goal

pub index-requires : goal.index-requires
index-requires c =
    let r = c.resource-resource.result in
    let m = c.args.machine.now in
    subst (λ n. r < n) (sym m.trees.ok.0) (has_tree c.args.system.now c.requires.ready.0 c.requires.ready.1 m c.requires.ready.2 c.facts.ensures.limits r c.args.instance c.resource-resource.ensures)

pub instance-requires-clause-stands : goal.instance-requires-clause-stands
instance-requires-clause-stands c =
    let i = c.args.system.now in
    let r = c.resource-resource.result in
    let m = c.args.machine.now in
    let ready = c.requires.ready in
    let f = c.index.result.now in
    let within = has_tree i ready.0 ready.1 m ready.2 c.facts.ensures.limits r c.args.instance c.resource-resource.ensures in
    let got = slice_get_read m.trees.items (length m.trees.items) r f refl within c.index.ensures in
    stands_here i ready.0 ready.1 m c.requires.represents.0 ready.2 c.requires.represents.1 r c.args.instance f got (sym c.resource-resource.ensures)

pub unreachable-requires : goal.unreachable-requires
unreachable-requires c =
    let i = c.args.system.now in
    let r = c.resource-resource.result in
    let m = c.args.machine.now in
    let ready = c.requires.ready in
    let f = c.index.result.now in
    let within = has_tree i ready.0 ready.1 m ready.2 c.facts.ensures.limits r c.args.instance c.resource-resource.ensures in
    let got = slice_get_read m.trees.items (length m.trees.items) r f refl within c.index.ensures in
    let x = c.requires.represents.0 in
    let forest = forest_at i ready.0 ready.1 m x ready.2 c.requires.represents.1 r f got in
    has_type i c.args.instance x c.instance.result.0.now c.in-Basic.state (c.instance.ensures.block (world_of x.state r) forest) c.in-Basic.is (rw c.in-None.is at c.basic_type.ensures)

pub overflow_cast-resource : goal.overflow_cast-resource
overflow_cast-resource c = record { fits = narrow_resource c.args.system.now c.facts.ensures.limits c.resource-resource.result c.args.instance c.resource-resource.ensures }

pub put_shell-requires-clause-inputs : goal.put_shell-requires-clause-inputs
put_shell-requires-clause-inputs c =
    let i = c.args.system.now in
    let r = c.resource-resource.result in
    let m = c.args.machine.now in
    let ready = c.requires.ready in
    let f = c.index.result.now in
    let within = has_tree i ready.0 ready.1 m ready.2 c.facts.ensures.limits r c.args.instance c.resource-resource.ensures in
    let got = slice_get_read m.trees.items (length m.trees.items) r f refl within c.index.ensures in
    let x = c.requires.represents.0 in
    let forest = forest_at i ready.0 ready.1 m x ready.2 c.requires.represents.1 r f got in
    event_inputs i c.args.instance x c.instance.result.0.now c.in-Event.state c.instance.result.1.now c.ports-ports.result.now (c.instance.ensures.block (world_of x.state r) forest)
    (c.instance.ensures.shell (world_of x.state r) forest) c.in-Event.is c.ports-ports.ensures

pub put_shell-requires-clause-outputs : goal.put_shell-requires-clause-outputs
put_shell-requires-clause-outputs c =
    let i = c.args.system.now in
    let r = c.resource-resource.result in
    let m = c.args.machine.now in
    let ready = c.requires.ready in
    let f = c.index.result.now in
    let within = has_tree i ready.0 ready.1 m ready.2 c.facts.ensures.limits r c.args.instance c.resource-resource.ensures in
    let got = slice_get_read m.trees.items (length m.trees.items) r f refl within c.index.ensures in
    let x = c.requires.represents.0 in
    let forest = forest_at i ready.0 ready.1 m x ready.2 c.requires.represents.1 r f got in
    outputs i c.args.instance x c.instance.result.1.now c.ports-ports.result.now (c.instance.ensures.shell (world_of x.state r) forest) c.ports-ports.ensures

pub put_shell-requires-in-Composite-clause-inputs : goal.put_shell-requires-in-Composite-clause-inputs
put_shell-requires-in-Composite-clause-inputs c =
    let i = c.args.system.now in
    let r = c.resource-resource.result in
    let m = c.args.machine.now in
    let ready = c.requires.ready in
    let f = c.index.result.now in
    let within = has_tree i ready.0 ready.1 m ready.2 c.facts.ensures.limits r c.args.instance c.resource-resource.ensures in
    let got = slice_get_read m.trees.items (length m.trees.items) r f refl within c.index.ensures in
    let x = c.requires.represents.0 in
    let forest = forest_at i ready.0 ready.1 m x ready.2 c.requires.represents.1 r f got in
    composite_inputs i c.args.instance x c.instance.result.0.now c.in-Composite.field-0 c.instance.result.1.now c.ports-ports.result.now (c.instance.ensures.block (world_of x.state r) forest)
    (c.instance.ensures.shell (world_of x.state r) forest) (ap out-Block c.in-Composite.is ∙ out_composite c.in-Composite.field-0) c.ports-ports.ensures

pub put_shell-requires-in-Composite-clause-outputs : goal.put_shell-requires-in-Composite-clause-outputs
put_shell-requires-in-Composite-clause-outputs c =
    let i = c.args.system.now in
    let r = c.resource-resource.result in
    let m = c.args.machine.now in
    let ready = c.requires.ready in
    let f = c.index.result.now in
    let within = has_tree i ready.0 ready.1 m ready.2 c.facts.ensures.limits r c.args.instance c.resource-resource.ensures in
    let got = slice_get_read m.trees.items (length m.trees.items) r f refl within c.index.ensures in
    let x = c.requires.represents.0 in
    let forest = forest_at i ready.0 ready.1 m x ready.2 c.requires.represents.1 r f got in
    outputs i c.args.instance x c.instance.result.1.now c.ports-ports.result.now (c.instance.ensures.shell (world_of x.state r) forest) c.ports-ports.ensures

pub returns-in-Some : goal.returns-in-Some
returns-in-Some c =
    let i = c.args.system.now in
    let r = c.resource-resource.result in
    let m = c.args.machine.now in
    let ready = c.requires.ready in
    let f = c.index.result.now in
    let within = has_tree i ready.0 ready.1 m ready.2 c.facts.ensures.limits r c.args.instance c.resource-resource.ensures in
    let got = slice_get_read m.trees.items (length m.trees.items) r f refl within c.index.ensures in
    on_ok c.put_basic.result c.put_basic.ensures
    (λ text x at.
    basic_block_shown i c.args.instance x c.instance.result.0.now c.in-Basic.state c.in-Some.block.now _ _
    (c.instance.ensures.block (world_of x.state r) (forest_at i ready.0 ready.1 m x ready.2 at r f got)) c.in-Basic.is (rw c.in-Some.is at c.basic_type.ensures) text)

pub returns-in_ok-put_memory-in-Event : goal.returns-in_ok-put_memory-in-Event
returns-in_ok-put_memory-in-Event c =
    let i = c.args.system.now in
    let r = c.resource-resource.result in
    let m = c.args.machine.now in
    let ready = c.requires.ready in
    let f = c.index.result.now in
    let within = has_tree i ready.0 ready.1 m ready.2 c.facts.ensures.limits r c.args.instance c.resource-resource.ensures in
    let got = slice_get_read m.trees.items (length m.trees.items) r f refl within c.index.ensures in
    on_ok c.put_shell.result c.put_shell.ensures
    (λ text x at.
    let forest = forest_at i ready.0 ready.1 m x ready.2 at r f got in
    event_block_shown i c.args.instance x c.instance.result.0.now c.in-Event.state c.instance.result.1.now c.ports-ports.result.now c.timer-due.result _ _ _
    (c.instance.ensures.block (world_of x.state r) forest) (c.instance.ensures.shell (world_of x.state r) forest) c.in-Event.is c.ports-ports.ensures
    (due_is i m x at r c.args.instance c.resource-resource.ensures c.timer-due.result c.timer-due.ensures.some c.timer-due.ensures.none) c.in_ok-put_memory-in-Event.ensures text)

pub returns-in-Composite : goal.returns-in-Composite
returns-in-Composite c =
    let i = c.args.system.now in
    let r = c.resource-resource.result in
    let m = c.args.machine.now in
    let ready = c.requires.ready in
    let f = c.index.result.now in
    let within = has_tree i ready.0 ready.1 m ready.2 c.facts.ensures.limits r c.args.instance c.resource-resource.ensures in
    let got = slice_get_read m.trees.items (length m.trees.items) r f refl within c.index.ensures in
    on_ok c.put_shell-in-Composite.result c.put_shell-in-Composite.ensures
    (λ text x at.
    let forest = forest_at i ready.0 ready.1 m x ready.2 at r f got in
    composite_shown i c.args.instance x c.instance.result.0.now c.in-Composite.field-0 c.instance.result.1.now c.ports-ports.result.now _ _
    (c.instance.ensures.block (world_of x.state r) forest) (c.instance.ensures.shell (world_of x.state r) forest) (ap out-Block c.in-Composite.is ∙ out_composite c.in-Composite.field-0)
    c.ports-ports.ensures text)
