use Rattle.std.proofs.Common.{refl}
use Rattle.fb_system.proofs.lemmas.networks.FirstLinks.{ways_more}
use Rattle.fb_system.proofs.links.ways_of.Goals as goal

pub loop-number-preserved : goal.loop-number-preserved
loop-number-preserved c = ways_more c.args.links.now c.loop-number.number _ _ c.loop-number.ways.items _ c.loop-number-test.true refl c.loop-number.invariant c.in_ok-note.ensures
