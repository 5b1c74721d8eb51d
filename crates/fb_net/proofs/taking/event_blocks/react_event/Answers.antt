use Rattle.fb_net.proofs.lemmas.Common.{List, ℕ, sym, subst, ap, ◌∙◌, arith, slice_get, Value, Changed, taken_reaction, way_in}
use Rattle.fb_event.specs.Reactions.{reaction_to}
use Rattle.fb_net.specs.Leaves.{HasTurned, IsTypedAt}
use Rattle.fb_net.proofs.lemmas.blocks.EventBlockReactions.{no_shell, taken_is, turned_came, turned_fit, turned_whole, typed_there}
use Rattle.fb_net.proofs.taking.event_blocks.react_event.Goals as goal

pub shell_index-shell_index-requires : goal.shell_index-shell_index-requires
shell_index-shell_index-requires c = let has_shells = c.requires.typed.1.has_shells in omega (arith, c.requires.port.instance, has_shells)

pub unreachable-requires : goal.unreachable-requires
unreachable-requires c =
    let one = c.requires.typed in
    no_shell c.args.system.now c.args.forest.now c.args.at.instance c.requires.port.instance one.0 one.1 one.2
    (ap (slice_get c.args.forest.now.shells) (sym c.shell_index-shell_index.ensures) ∙ sym c.in_default.ensures.value)

pub react_at-requires-clause-event : goal.react_at-requires-clause-event
react_at-requires-clause-event c =
    let f = c.args.forest.now in
    let one = c.requires.typed in
    let found = ap (slice_get f.shells) (sym c.shell_index-shell_index.ensures) ∙ sym c.in-Some.ensures.value in
    subst (λ (way : List ℕ). IsTypedAt c.as_slice-inputs.result.now f.blocks way) (sym c.way-first.ensures)
    (subst (λ (vs : List Value). IsTypedAt vs f.blocks (way_in c.args.system.now f.roots c.args.at.instance)) (sym c.as_slice-inputs.ensures)
    (typed_there c.args.system.now f c.args.at.instance c.args.kind c.requires.kind c.requires.port.instance one.0 one.1 one.2 one.3 c.in-Some.shell.now found))

pub returns-clause-reacted : goal.returns-clause-reacted
returns-clause-reacted c =
    let i = c.args.system.now in
    let f = c.args.forest.now in
    let at = c.args.at in
    let tick = c.args.tick in
    let shell = c.in-Some.shell.now in
    let found = ap (slice_get f.shells) (sym c.shell_index-shell_index.ensures) ∙ sym c.in-Some.ensures.value in
    let turned = rw c.as_slice-inputs.ensures at c.react_at.ensures.reacted in
    let changed = subst (λ (way : List ℕ). Changed (HasTurned (λ s. reaction_to s at.event tick shell.inputs) c.react_at.new.ask c.react_at.new.emits) f.blocks way c.react_at.result c.react_at.new.blocks)
    c.way-first.ensures turned in
    turned_came i c.facts.ensures.numbered f at.instance c.requires.port.instance c.args.kind c.requires.kind (λ s. reaction_to s at.event tick shell.inputs) c.react_at.new.ask c.react_at.new.emits
    c.react_at.result c.react_at.new.blocks changed (taken_reaction i c.args.kind at tick)
    (taken_is i f at c.args.kind tick shell c.requires.kind c.requires.port.instance found changed.ends.event)

pub returns-clause-emissions : goal.returns-clause-emissions
returns-clause-emissions c =
    let f = c.args.forest.now in
    let at = c.args.at in
    let one = c.requires.typed in
    let inputs = c.as_slice-inputs.result.now in
    let changed = subst (λ (way : List ℕ). Changed (HasTurned (λ s. reaction_to s at.event c.args.tick inputs) c.react_at.new.ask c.react_at.new.emits) f.blocks way c.react_at.result c.react_at.new.blocks)
    c.way-first.ensures c.react_at.ensures.reacted in
    turned_fit c.args.system.now c.facts.ensures.numbered f at.instance c.requires.port.instance c.args.kind c.requires.kind _ c.react_at.new.ask c.react_at.new.emits
    c.react_at.result c.react_at.new.blocks changed (one.0, one.1, one.2)

pub returns-clause-whole : goal.returns-clause-whole
returns-clause-whole c =
    let f = c.args.forest.now in
    let at = c.args.at in
    let one = c.requires.typed in
    let inputs = c.as_slice-inputs.result.now in
    let changed = subst (λ (way : List ℕ). Changed (HasTurned (λ s. reaction_to s at.event c.args.tick inputs) c.react_at.new.ask c.react_at.new.emits) f.blocks way c.react_at.result c.react_at.new.blocks)
    c.way-first.ensures c.react_at.ensures.reacted in
    turned_whole c.args.system.now c.facts.ensures.numbered f at.instance c.requires.port.instance c.args.kind c.requires.kind _ c.react_at.new.ask c.react_at.new.emits
    c.react_at.result c.react_at.new.blocks changed (one.0, one.1, one.2)
