use Rattle.fb_window.proofs.lemmas.bounds.NextTicks.{current_set}
use Rattle.fb_window.proofs.nexts.Nexts.look_again.Goals as goal

pub returns-clause-current : goal.returns-clause-current
returns-clause-current c = λ xs h. current_set c.args.self.now.horizon xs c.args.self.now.ticks.items c.args.index c.args.resource.now c.next_of.result h c.requires c.next_of.ensures
