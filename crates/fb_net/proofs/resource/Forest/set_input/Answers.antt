use Rattle.std.proofs.Common.{sym}
use Rattle.fb_net.proofs.lemmas.blocks.EventBlockReactions.{no_shell}
use Rattle.fb_net.proofs.lemmas.blocks.BlocksKept.{shell_index-there}
use Rattle.fb_net.proofs.lemmas.values.Writing.{input_changes}
use Rattle.fb_net.proofs.resource.Forest.set_input.Goals as goal

pub shell_mut-requires : goal.shell_mut-requires
shell_mut-requires c = shell_index-there c.args.system.now c.args.self.now c.args.input.instance c.requires.variable.instance c.requires.stands

pub unreachable-requires : goal.unreachable-requires
unreachable-requires c =
    let stands = c.requires.stands in
    no_shell c.args.system.now c.args.self.now c.args.input.instance c.requires.variable.instance stands.whole.0 stands.whole.1 stands.here (sym c.in_default.ensures.value)

pub returns : goal.returns
returns c =
    rw c.set.ensures
    (input_changes c.args.system.now c.facts.ensures.accepted c.facts.ensures.numbered c.args.self.now c.args.input c.requires.variable c.args.value c.in-Some.shell.now (sym c.in-Some.ensures.value) c.requires.input c.requires.takes)
