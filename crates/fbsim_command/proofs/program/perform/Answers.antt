use Rattle.fbsim_command.proofs.lemmas.Common.{◌++◌, [], List, ℕ, map, option_map, inl, inr, refl, ap, subst, Err, given_of, lines_of}
use Rattle.fbsim_command.specs.Command.{Reports}
use Rattle.fbsim_command.proofs.lemmas.calls.Reporting.{quiet}
use Rattle.fbsim_command.proofs.lemmas.notes.Located.{rows-whole}
use Rattle.fbsim_command.specs.declared.join.FileLines.{FileLines}
use Rattle.fbsim_command.proofs.program.perform.Goals as goal

pub returns-in-Ok : goal.returns-in-Ok
returns-in-Ok g c = (
  (c.meet-end.ensures.reported.0 ++ c.report_rows_after-is_heard.ensures.0) ++ c.report_stop_after-is_heard.ensures.reported.0,
  c.report_stop_after-is_heard.ensures.reported.2 (g.E.Write.contents c.args.err.now) (c.meet-end.ensures.reported.0 ++ c.report_rows_after-is_heard.ensures.0)
      (c.report_rows_after-is_heard.ensures.2 (g.E.Write.contents c.args.err.now) c.meet-end.ensures.reported.0 c.meet-end.ensures.reported.2),
  inl (record {
    lines = lines_of c.in-Ok.texts;
    given = given_of c.in-Ok.texts;
    read = c.in-Ok.ensures.read;
    inner = c.meet-end.result.0;
    done = c.meet-end.ensures.done;
    first = c.meet-end.ensures.reported.0;
    reported =
        subst
        (λ (ls : List FileLines). Reports (record { types = map (λ t. t.now) c.args.asked.now.types.now; own = c.args.asked.now.task.now.declaration.now; deploy = option_map (λ d. d.now) c.args.asked.now.task.now.deploy; stimuli = option_map (λ s. s.now) c.args.asked.now.task.now.stimuli; lines = ls }) (given_of c.in-Ok.texts) c.args.asked.now.task.now.action c.args.asked.now.sorting.now (g.W.Write.contents c.args.out.now) (g.W.Write.contents c.meet-end.new.out) c.meet-end.result.0 c.meet-end.ensures.reported.0)
        c.as_slice.ensures.value c.meet-end.ensures.reported.1;
    rows = c.report_rows_after-is_heard.ensures.0;
    late = rows-whole c.args.asked.now.task.now (given_of c.in-Ok.texts).stimuli c.meet-end.result.0 c.report_rows_after-is_heard.result c.report_stop_after-is_heard.result c.report_rows_after-is_heard.ensures.0
        c.report_stop_after-is_heard.ensures.all c.report_rows_after-is_heard.ensures.1;
    last = c.report_stop_after-is_heard.ensures.reported.0;
    located = c.report_stop_after-is_heard.ensures.reported.1;
    reports_are = refl;
    noted = c.note_to-note.ensures;
    ends = c.end_with-end.ensures;
  }),
)

-- a file is not read, and nothing is reported meanwhile
pub returns-in-Err : goal.returns-in-Err
returns-in-Err g c = (
  [],
  quiet (g.E.Write.contents c.args.err.now),
  inr (record {
    part = c.in-Err.unread.part;
    fault = c.in-Err.unread.fault;
    unread = c.in-Err.ensures.unread;
    failed = ap Err c.from.ensures;
    same = refl;
    reported = refl;
    noted = c.note_of_file.ensures;
  }),
)
