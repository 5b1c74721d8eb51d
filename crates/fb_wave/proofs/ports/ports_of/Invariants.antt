use Rattle.fb_wave.proofs.lemmas.Common.{All, system_of, Twice, IsPortOf}
use Rattle.fb_wave.proofs.lemmas.Porting.{AreBelow, HasBelow}
use Rattle.fb_wave.proofs.ports.ports_of.Given as goal

abbrev pub invariant-loop-index : goal.invariant-loop-index
invariant-loop-index l = record {
  are : All (IsPortOf (system_of l.system)) l.all.items;
  has : HasBelow (system_of l.system) l.all.items l.index;
  below : AreBelow l.all.items l.index;
  once : ¬ (Twice l.all.items);
}
