use Rattle.fbsim_command.proofs.lemmas.Common.{End, IfOk, None, NotesOf, map, noted_of, refl, subst, sym, given_of, lines_of}
use Rattle.fbsim_command.proofs.program.note_to.Goals as goal

pub returns-in-Ok : goal.returns-in-Ok
returns-in-Ok c =
    subst (λ (e : End). NotesOf (map (λ t. t.now) c.args.types.now) c.args.task.now (lines_of c.args.texts.now) (given_of c.args.texts.now) e None) (sym c.in-Ok.is) refl

pub returns-in-Err : goal.returns-in-Err
returns-in-Err c =
    subst (λ (e : End). IfOk (noted_of c.note_of.result) (NotesOf (map (λ t. t.now) c.args.types.now) c.args.task.now (lines_of c.args.texts.now) (given_of c.args.texts.now) e)) (sym c.in-Err.is) c.note_of.ensures
