use Rattle.fbsim_command.proofs.lemmas.names.KnownNames.{all-pushed}
use Rattle.fbsim_command.proofs.selected_names.names_of.Goals as goal

pub returns : goal.returns
returns c =
    all-pushed c.args.library.now c.new-names.result.items c.push_blocks.new.names.items c.push_instances.new.names.items c.as_slice.result.now c.as_slice-2.result.now c.new-names.ensures.items c.as_slice.ensures c.as_slice-2.ensures
    c.in_ok-push_blocks.ensures c.in_ok-push_instances.ensures
