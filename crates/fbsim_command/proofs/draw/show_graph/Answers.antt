use Rattle.fbsim_command.proofs.lemmas.Common.{map, noted_of, given_of, lines_of}
use Rattle.fbsim_command.proofs.lemmas.calls.Drawing.{not_read, read_and_drawn}
use Rattle.fbsim_command.proofs.draw.show_graph.Goals as goal

pub returns-in-Err : goal.returns-in-Err
returns-in-Err g c =
    not_read g.S.Source.gives c.args.source.now c.read_files.new.source (map (λ t. t.now) c.args.types.now) c.args.draw.now (g.W.Write.contents c.args.out.now) c.files_of-task.result
    c.in-Err.unread.part c.in-Err.unread.fault c.from.result (noted_of c.note_of_file-note.result) c.files_of-task.ensures c.from.ensures c.in-Err.ensures.unread
    c.note_of_file-note.ensures

pub returns : goal.returns
returns g c =
    read_and_drawn g.S.Source.gives c.args.source.now c.read_files.new.source (map (λ t. t.now) c.args.types.now) c.args.draw.now (g.W.Write.contents c.args.out.now)
    (g.W.Write.contents c.write_graph-end.new.out) (lines_of c.in-Ok.texts) (given_of c.in-Ok.texts) c.files_of-task.result c.inputs-inputs.result c.write_graph-end.result c.end_with-end.result
    (noted_of c.note_of_wave-note.result) (noted_of c.note_of_type-line.result) c.files_of-task.ensures c.inputs-inputs.ensures c.in-Ok.ensures.read c.write_graph-end.ensures
    c.note_of_type-line.ensures c.note_of_wave-note.ensures c.end_with-end.ensures
