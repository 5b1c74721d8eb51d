use Rattle.fbsim_command.proofs.lemmas.Common.{map, noted_of, given_of, lines_of}
use Rattle.fbsim_command.proofs.lemmas.calls.Inspecting.{not_opened, not_read, read_and_inspected}
use Rattle.fbsim_command.proofs.inspect.show_insides.Goals as goal

pub returns-in-Err : goal.returns-in-Err
returns-in-Err g c =
    not_read g.S.Source.gives g.S.Streams.opens c.args.source.now c.read_files.new.source (map (λ t. t.now) c.args.types.now) c.args.inspect.now (g.W.Write.contents c.args.out.now) c.files_of-task.result
    c.in-Err.unread.part c.in-Err.unread.fault c.from.result (noted_of c.note_of_file-note.result) c.files_of-task.ensures c.from.ensures c.in-Err.ensures.unread
    c.note_of_file-note.ensures

pub returns-in-Err-open : goal.returns-in-Err-open
returns-in-Err-open g c =
    not_opened g.S.Source.gives g.S.Streams.opens c.args.source.now c.read_files.new.source c.open.new.self (map (λ t. t.now) c.args.types.now) c.args.inspect.now (g.W.Write.contents c.args.out.now)
    (lines_of c.in-Ok.texts) (given_of c.in-Ok.texts) c.files_of-task.result c.in-Err-open.fault c.from-in-Err-open.result (noted_of c.note_where_asked-note.result)
    c.files_of-task.ensures c.from-in-Err-open.ensures c.in-Ok.ensures.read c.in-Err-open.ensures c.note_where_asked-note.ensures

pub returns : goal.returns
returns g c =
    read_and_inspected g.S.Source.gives g.S.Streams.opens c.args.source.now c.read_files.new.source c.open.new.self (map (λ t. t.now) c.args.types.now) c.args.inspect.now
    (g.W.Write.contents c.args.out.now) (g.W.Write.contents c.write_inspected-end.new.out) (lines_of c.in-Ok.texts) (given_of c.in-Ok.texts) c.files_of-task.result _ c.inputs-inputs.result
    c.write_inspected-end.result.0 c.end_with-end.result (noted_of c.note_of_wave-note.result) c.files_of-task.ensures c.inputs-inputs.ensures c.in-Ok.ensures.read c.in-Ok-open.ensures
    c.write_inspected-end.ensures.inspected (noted_of c.note_of_path-path.result) (noted_of c.note_of_trace_end-rest.result) (noted_of c.write_inspected-end.result.1) (noted_of c.one_of.result)
    (noted_of c.one_of-line.result) c.write_inspected-end.ensures.noted c.note_of_trace_end-rest.ensures c.note_of_path-path.ensures c.one_of.ensures c.one_of-line.ensures
    c.note_of_wave-note.ensures c.end_with-end.ensures
