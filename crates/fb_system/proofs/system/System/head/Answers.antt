use Rattle.fb_types.specs.Headline.{system_of}
use Rattle.fb_system.proofs.lemmas.rows.KeptRows.{heads_seen}
use Rattle.fb_system.proofs.system.System.head.Goals as goal

pub find-requires : goal.find-requires
find-requires c = (system_of c.args.self.now, heads_seen _ _ _ c.deref.ensures c.self.view_is c.self.invariant)

pub returns : goal.returns
returns c = c.find.ensures (system_of c.args.self.now) (heads_seen _ _ _ c.deref.ensures c.self.view_is c.self.invariant)
