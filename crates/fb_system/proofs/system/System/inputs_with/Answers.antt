use Rattle.fb_system.proofs.lemmas.types.WithIndexesLaws.{inputs_read}
use Rattle.fb_system.proofs.system.System.inputs_with.Goals as goal

pub returns : goal.returns
returns c = inputs_read _ _ _ _ _ _ c.with_indexes.ensures c.requires.event c.as_slice.ensures c.index-as_slice-event.is c.as_slice-2.ensures
