use Rattle.fb_types.proofs.Common.{length-set, get_or, stimuli_of, system_of}
use Rattle.std.specs.Vec.{with_item}
use Rattle.fb_types.specs.OfSystem.{opening_agenda, opening_state}
use Rattle.fb_tests.proofs.lemmas.Counted.{at_with, ready_with}
use Rattle.fb_tests.proofs.tests.parts.links.carry_three.Goals as goal

pub go_on-requires-clause-ready : goal.go_on-requires-clause-ready
go_on-requires-clause-ready g c =
    let m = c.in-Ok.machine in
    let before = m.traffic.sent in (
      0,
      ready_with c.args.system.now 1000000 0 m (with_item before 0 c.args.before) (length-set before.items 0 c.args.before) (c.in-Ok.ensures.ready 1000000),
    )

pub go_on-requires-clause-represents : goal.go_on-requires-clause-represents
go_on-requires-clause-represents g c =
    let i = c.args.system.now in
    let m = c.in-Ok.machine in
    let sent = with_item m.traffic.sent 0 c.args.before in
    let agenda = opening_agenda i (stimuli_of i) in (
      record { state = record (opening_state i) { sent = λ l. get_or sent.items l 0 }; agenda = agenda },
      at_with i (opening_state i) agenda m sent c.in-Ok.ensures.at,
    )
