use Rattle.fbsim_command.proofs.lemmas.names.KnownNames.{basic-pushed, composite-pushed}
use Rattle.fbsim_command.proofs.selected_names.push_block.Goals as goal

pub returns-in-Basic : goal.returns-in-Basic
returns-in-Basic c = basic-pushed c.args.block.now _ c.args.names.now.items c.push.new.self.items c.type_name.result c.in-Basic.is c.type_name.ensures c.in_ok-push.ensures.items

pub returns-in-Composite : goal.returns-in-Composite
returns-in-Composite c =
    composite-pushed c.push_instances.result c.args.block.now _ c.as_slice.result.now c.args.names.now.items c.push.new.self.items c.push_instances.new.names.items c.type_name.result c.in-Composite.is c.type_name.ensures
    c.in_ok-push.ensures.items c.as_slice.ensures c.push_instances.ensures
