use Rattle.fbsim_command.proofs.lemmas.Common.{inl, inr, noted_of}
use Rattle.fbsim_command.proofs.lemmas.calls.DifferenceCalls.{unopened}
use Rattle.fbsim_command.proofs.expect.diff.Goals as goal

pub returns-in-Err : goal.returns-in-Err
returns-in-Err g c =
    unopened g.S.Streams.opens c.args.source.now c.open.new.self c.args.diff.now (g.W.Write.contents c.args.out.now) c.in-Err.fault c.from.result (noted_of c.note_where_asked-note.result)
    (inl (c.in-Err.ensures, c.note_where_asked-note.ensures)) c.from.ensures

pub returns-in-Err-open : goal.returns-in-Err-open
returns-in-Err-open g c =
    unopened g.S.Streams.opens c.args.source.now c.open-2.new.self c.args.diff.now (g.W.Write.contents c.args.out.now) c.in-Err-open.fault c.from-in-Err-open.result (noted_of c.note_where_asked-note-in-Err-open.result)
    (inr (record { between = c.open.new.self; first = _; first_opened = c.in-Ok.ensures; unopened = c.in-Err-open.ensures }, c.note_where_asked-note-in-Err-open.ensures)) c.from-in-Err-open.ensures

pub returns : goal.returns
returns g c =
    inl (record {
      between = c.open.new.self;
      both = record { first = _; second = _ };
      left = record { first = _; second = _ };
      first_opened = c.in-Ok.ensures;
      second_opened = c.in-Ok-open.ensures;
      done = c.compare.ensures.done;
      noted = c.compare.ensures.noted;
    })
