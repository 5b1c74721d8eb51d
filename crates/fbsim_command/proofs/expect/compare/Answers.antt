use Rattle.fbsim_command.proofs.lemmas.Common.{noted_of}
use Rattle.fbsim_command.specs.Comparing.{Both}
use Rattle.fbsim_command.proofs.lemmas.calls.DifferenceCalls.{noted_either, noted_neither, unread_by}
use Rattle.fbsim_command.proofs.expect.compare.Goals as goal

pub returns-in-Err-clause-done : goal.returns-in-Err-clause-done
returns-in-Err-clause-done g c =
    unread_by c.args.diff.now (g.R.Read.remaining c.args.first.now) (g.T.Read.remaining c.args.second.now) (g.W.Write.contents c.args.out.now) c.in-Err.fault c.from.result c.from.ensures

pub returns-in-Err-clause-noted : goal.returns-in-Err-clause-noted
returns-in-Err-clause-noted g c =
    let from : Both = record { first = g.R.Read.remaining c.args.first.now; second = g.T.Read.remaining c.args.second.now } in
    let to : Both = record { first = g.R.Read.remaining c.part.new.first; second = g.T.Read.remaining c.part.new.second } in
    noted_either c.args.diff.now from to c.in-Err.fault c.from.result (noted_of c.note_of_part-note.result) c.from.ensures c.in-Err.ensures.unread c.note_of_part-note.ensures

pub returns-clause-done : goal.returns-clause-done
returns-clause-done g c = c.show_parted-end.ensures.shown _ _ c.in-Ok.ensures.parted

pub returns-clause-noted : goal.returns-clause-noted
returns-clause-noted g c =
    let from : Both = record { first = g.R.Read.remaining c.args.first.now; second = g.T.Read.remaining c.args.second.now } in
    let to : Both = record { first = g.R.Read.remaining c.part.new.first; second = g.T.Read.remaining c.part.new.second } in
    noted_neither c.args.diff.now from to c.show_parted-end.result c.show_parted-end.ensures.read
