use Rattle.fbsim_command.proofs.lemmas.Common.{Err, ap, inl, inr, map, refl, subst, Given, Task, AreRead, IsUnread, given_of, lines_of}
use Rattle.fbsim_command.specs.Sessions.{Answers}
use Rattle.fbsim_command.proofs.session.talk_to.Goals as goal

pub returns-in-Err : goal.returns-in-Err
returns-in-Err g c = inr (c.in-Err.fault, inl c.in-Err.ensures, ap Err c.from.ensures, refl)

pub returns-in-Err-read_files : goal.returns-in-Err-read_files
returns-in-Err-read_files g c =
    let names = map (λ t. t.now) c.args.types.now in
    inr (
      c.in-Err-read_files.unread.fault,
      inr (record {
        between = c.open.new.self;
        commands = _;
        opened = c.in-Ok.ensures;
        part = c.in-Err-read_files.unread.part;
        unread =
            subst (λ (k : Task). IsUnread g.S.Source.gives names k c.open.new.self c.read_files.new.source c.in-Err-read_files.unread.part c.in-Err-read_files.unread.fault) c.run_files_of-task.ensures
            c.in-Err-read_files.ensures.unread;
      }),
      ap Err c.from-in-Err-read_files.ensures,
      refl,
    )

pub returns : goal.returns
returns g c =
    let names = map (λ t. t.now) c.args.types.now in
    inl (record {
      between = c.open.new.self;
      commands = _;
      opened = c.in-Ok.ensures;
      lines = lines_of c.in-Ok-read_files.texts;
      given = given_of c.in-Ok-read_files.texts;
      read =
          subst (λ (k : Task). AreRead g.S.Source.gives names k c.open.new.self c.read_files.new.source (lines_of c.in-Ok-read_files.texts) (given_of c.in-Ok-read_files.texts)) c.run_files_of-task.ensures
          c.in-Ok-read_files.ensures.read;
      inner = c.answer-end.result;
      done =
          subst (λ (i : Given). Answers i c.args.call.now (g.W.Write.contents c.args.out.now) (g.W.Write.contents c.answer-end.new.out) c.answer-end.result) c.inputs.ensures c.answer-end.ensures;
      ends = c.end_with.ensures;
    })
