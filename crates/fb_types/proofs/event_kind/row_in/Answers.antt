use Rattle.fb_types.proofs.lemmas.events.KindRows.{row_stands}
use Rattle.fb_types.proofs.event_kind.row_in.Goals as goal

pub returns : goal.returns
returns c = row_stands c.args.table.now c.args.kind c.index.result _ c.requires c.index.ensures
