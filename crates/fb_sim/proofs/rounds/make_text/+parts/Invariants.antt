use Prim.Native.Nat.{◌+◌, ◌*◌}
use Rattle.fb_sim.proofs.rounds.make_text.+parts.Given as goal

abbrev pub decreases-texts_by : goal.decreases-texts_by
decreases-texts_by g l = 3 * l.threads + 1

abbrev pub decreases-parts_by : goal.decreases-parts_by
decreases-parts_by g l = 3 * l.threads

abbrev pub decreases-parts_by-front : goal.decreases-parts_by-front
decreases-parts_by-front g l = 3 * l.fewer + 2
