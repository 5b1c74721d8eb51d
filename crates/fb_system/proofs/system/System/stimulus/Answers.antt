use Rattle.std.proofs.lemmas.Option.{slice_get-get_or}
use Rattle.fb_system.proofs.lemmas.inputs.Stimuli.{number_there, row_is, row_within, rows_seen, stimulus_stands}
use Rattle.fb_system.proofs.system.System.stimulus.Goals as goal

pub row_at-row-requires : goal.row_at-row-requires
row_at-row-requires c = row_within _ _ _ _ c.self.invariant.tables c.deref.ensures c.self.view_is c.requires

pub bounds-top-row : goal.bounds-top-row
bounds-top-row c =
    let row = row_is _ _ _ _ _ (rows_seen _ _ _ c.self.invariant.tables c.deref.ensures c.self.view_is) c.row_at-row.ensures in
    number_there _ _ _ _ _ c.top.ensures row.2.at

pub returns : goal.returns
returns c =
    let rows = rows_seen _ _ _ c.self.invariant.tables c.deref.ensures c.self.view_is in
    let row = row_is _ _ _ _ _ rows c.row_at-row.ensures in
    stimulus_stands _ _ _ _ _ _ _ rows c.row_at-row.ensures c.top.ensures (slice_get-get_or _ _ _ (number_there _ _ _ _ _ c.top.ensures row.2.at)) c.as_slice.ensures
