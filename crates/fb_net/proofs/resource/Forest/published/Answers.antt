use Rattle.fb_net.proofs.lemmas.Common.{ap, ◌∙◌, value_in}
use Rattle.fb_net.proofs.lemmas.values.ShownValues.{shell_there_reads, published_stands}
use Rattle.fb_net.proofs.resource.Forest.published.Goals as goal

pub returns : goal.returns
returns c =
    shell_there_reads c.args.system.now c.args.self.now c.args.output (λ b. b.published) c.shell-shell.result.now _ c.requires.variable.instance c.shell-shell.ensures
    (λ m s. c.value_of.ensures ∙ ap (λ vs. value_in vs c.args.output.variable) c.as_slice.ensures
    ∙ published_stands _ _ _ m c.requires.variable s c.requires.output)
