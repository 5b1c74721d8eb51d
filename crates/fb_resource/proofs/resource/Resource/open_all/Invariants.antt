use Rattle.fb_types.proofs.Common.{◌≡◌, ◌++◌, length, into_iter_items, into_iter_len}
use Rattle.fb_resource.specs.Openings.{AreOpenedApart}
use Rattle.fb_resource.proofs.lemmas.Fresh.{AreFresh}
use Rattle.fb_resource.proofs.resource.Resource.open_all.Given as goal

abbrev pub invariant-loop-agenda : goal.invariant-loop-agenda
invariant-loop-agenda l = record {
  fresh : AreFresh l.system l.resources.items;
  counted : length l.resources.items ≡ length l.yielded;
  number : l.number ≡ length l.yielded;
  opened : AreOpenedApart l.system (l.yielded ++ into_iter_items l.agenda-iterator);
  len : into_iter_len l.agenda-iterator ≡ length (into_iter_items l.agenda-iterator);
}
