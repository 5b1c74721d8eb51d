use Rattle.std.proofs.Common.{◌∙◌}
use Rattle.fb_system.proofs.lemmas.networks.Linked.{linked_from}
use Rattle.fb_system.proofs.links.Links.of.Goals as goal

pub returns : goal.returns
returns c = λ library plan resolved once held.
    linked_from library plan c.args.numbers.now c.args.holders c.in_ok-ends.ends resolved once held (c.in_ok-ends.ensures ∙ c.as_slice.ensures)
