use Rattle.std.proofs.Common.{refl}
use Rattle.fb_read_positions.proofs.places.count_from.Goals as goal

pub count_to-requires-in_default-clause-there : goal.count_to-requires-in_default-clause-there
count_to-requires-in_default-clause-there c = record { line = refl; column = refl }
