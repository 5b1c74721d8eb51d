use Rattle.fb_types.proofs.lemmas.events.AllKinds.{kinds_stand}
use Rattle.fb_types.proofs.event_kind.row_of.Goals as goal

pub row_in-requires : goal.row_in-requires
row_in-requires c = kinds_stand
