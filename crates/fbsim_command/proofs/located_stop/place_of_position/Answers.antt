use Rattle.std.proofs.Common.{inl}
use Rattle.fbsim_command.proofs.lemmas.notes.Located.{placed}
use Rattle.fbsim_command.proofs.located_stop.place_of_position.Goals as goal

pub returns-in-Some : goal.returns-in-Some
returns-in-Some c =
    placed c.args.declaration.now c.args.system.now c.args.stop.now c.in-Some.position c.library.result.now c.place_at.result c.in-Some.ensures.found c.library.ensures c.place_at.ensures

pub returns-in-None : goal.returns-in-None
returns-in-None c = inl c.in-None.ensures.none
