use Rattle.fb_types.proofs.Common.{system_of, opening_state, world_of}
use Rattle.fb_laws.proofs.lemmas.typing.Accepted.{accepted_typed}
use Rattle.fb_laws.proofs.lemmas.typing.Simulated.{opening_state-typed}
use Rattle.fb_tests.proofs.tests.parts.chain.built.Goals as goal

pub returns-clause-belongs : goal.returns-clause-belongs
returns-clause-belongs g c =
    let i = c.args.system.now in let typed = accepted_typed i c.facts.ensures.accepted in
    (world_of (opening_state (system_of i)) c.args.number, c.in-Ok.ensures.opened, opening_state-typed (system_of i) typed.system typed.begins c.args.number)
