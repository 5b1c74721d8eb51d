use Rattle.std.proofs.Common.{ap, length, arith}
use Rattle.fb_net.proofs.lemmas.values.ShownValues.{shell_read}
use Rattle.fb_net.proofs.lemmas.blocks.BlocksKept.{shell_index-there, shell-there}
use Rattle.fb_net.proofs.resource.Forest.shell.Goals as goal

pub shell_index-shell_index-requires : goal.shell_index-shell_index-requires
shell_index-shell_index-requires c = shell_index-there c.args.system.now c.args.self.now c.args.instance c.requires.instance c.requires.stands

pub bounds-as_slice-shell_index : goal.bounds-as_slice-shell_index
bounds-as_slice-shell_index c =
    let within = shell-there c.args.system.now c.args.self.now c.args.instance c.requires.instance c.requires.stands in
    let same = ap length c.as_slice.ensures in
    let shell_index = c.shell_index-shell_index.ensures in
    omega (arith, within, same, shell_index)

pub returns : goal.returns
returns c =
    shell_read c.args.self.now c.args.instance _ _ _ (shell-there c.args.system.now c.args.self.now c.args.instance c.requires.instance c.requires.stands)
    c.shell_index-shell_index.ensures c.as_slice.ensures c.index-as_slice-shell_index.is
