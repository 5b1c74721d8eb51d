use Rattle.std.proofs.Common.{refl}
use Rattle.fb_resource.proofs.traffic.Traffic.over.Goals as goal

pub returns-clause-empty : goal.returns-clause-empty
returns-clause-empty c = record { mail = c.new.ensures.items; lines = c.clear.ensures.items; none = c.new-2.ensures.items; keeps = refl }
