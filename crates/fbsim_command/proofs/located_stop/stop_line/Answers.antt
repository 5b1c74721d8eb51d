use Rattle.fbsim_command.proofs.lemmas.Common.{None, Option, String, map, option_map, string_bytes, subst, given_of, lines_of}
use Rattle.std.proofs.Common.{Global}
use Rattle.fbsim_command.specs.Stops.{NotesStop}
use Rattle.fbsim_command.proofs.located_stop.stop_line.Goals as goal

pub returns-in_ok-format-in-Some : goal.returns-in_ok-format-in-Some
returns-in_ok-format-in-Some c = (
  string_bytes c.in-Some.note,
  subst (λ (o : Option (String Global)). NotesStop (map (λ t. t.now) c.args.types.now) c.args.own.now (lines_of c.args.texts.now) (given_of c.args.texts.now) c.args.horizon c.args.steps (option_map string_bytes o)) c.in-Some.is
      c.in_ok-note.ensures,
  c.in_ok-format-in-Some.ensures.ok,
)

pub returns-in-None : goal.returns-in-None
returns-in-None c =
    subst (λ (o : Option (String Global)). NotesStop (map (λ t. t.now) c.args.types.now) c.args.own.now (lines_of c.args.texts.now) (given_of c.args.texts.now) c.args.horizon c.args.steps (option_map string_bytes o)) c.in-None.is
    c.in_ok-note.ensures
