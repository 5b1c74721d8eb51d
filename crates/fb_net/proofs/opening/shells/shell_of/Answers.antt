use Rattle.fb_types.proofs.Common.{system_of, path_at}
use Rattle.fb_net.proofs.lemmas.opening.BlockOpened.{shell_begins}
use Rattle.fb_net.proofs.opening.shells.shell_of.Goals as goal

pub returns : goal.returns
returns c =
    let sys = system_of c.args.system.now in
    shell_begins sys (path_at sys c.args.instance) (record { slots = c.in_ok-slots.slots; published = c.in_ok-published.published; inputs = c.in_ok-inputs.inputs })
    c.in_ok-slots.ensures c.in_ok-published.ensures c.in_ok-inputs.ensures
