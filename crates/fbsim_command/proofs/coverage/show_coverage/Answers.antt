use Rattle.fbsim_command.proofs.lemmas.Common.{IfOk, NotesInput, NotesOf, map, noted_of, refl, subst, inl, inr, Given, Task, AreRead, IsUnread, given_of, lines_of}
use Rattle.fbsim_command.specs.Covering.{WritesReport}
use Rattle.fbsim_command.specs.Notes.{Follows}
use Rattle.fbsim_command.proofs.lemmas.calls.CoverageCalls.{reported-failure}
use Rattle.fbsim_command.proofs.coverage.show_coverage.Goals as goal

pub returns-in-Err : goal.returns-in-Err
returns-in-Err g c =
    let names = map (λ t. t.now) c.args.types.now in
    inr (record {
      part = c.in-Err.unread.part;
      fault = c.in-Err.unread.fault;
      unread = subst (λ (k : Task). IsUnread g.S.Source.gives names k c.args.source.now c.read_files.new.source c.in-Err.unread.part c.in-Err.unread.fault) c.files_of-task.ensures c.in-Err.ensures.unread;
      failed = reported-failure _ _ c.from.ensures;
      noted = subst (λ (k : Task). IfOk (noted_of c.note_of_file-note.result) (NotesInput names k c.in-Err.unread.part c.in-Err.unread.fault)) c.files_of-task.ensures c.note_of_file-note.ensures;
      same = refl;
    })

pub returns : goal.returns
returns g c =
    let names = map (λ t. t.now) c.args.types.now in
    let first = c.read_files.new.source in
    let last = c.write_report-end.new.source in
    let of_trace = noted_of c.write_report-end.new.note in
    let note = noted_of c.note_of_wave-note.result in
    let of_check = λ (k : Task). NotesOf names k (lines_of c.in-Ok.texts) (given_of c.in-Ok.texts) c.write_report-end.result in
    inl (record {
      lines = lines_of c.in-Ok.texts;
      given = given_of c.in-Ok.texts;
      between = first;
      read = subst (λ (k : Task). AreRead g.S.Source.gives names k c.args.source.now first (lines_of c.in-Ok.texts) (given_of c.in-Ok.texts)) c.files_of-task.ensures c.in-Ok.ensures.read;
      inner = c.write_report-end.result;
      of_trace = of_trace;
      done =
          subst (λ (i : Given). WritesReport g.S.Streams.opens i c.args.coverage.now first last (g.W.Write.contents c.args.out.now) (g.W.Write.contents c.write_report-end.new.out) of_trace c.write_report-end.result)
          c.inputs.ensures c.write_report-end.ensures;
      noted = subst (λ (k : Task). Follows of_trace (of_check k) note) c.files_of-task.ensures c.note_of_wave-note.ensures;
      ends = c.end_with-end.ensures;
    })
