use Rattle.std.proofs.Common.{◌+◌, ap, arith, refl, subst, sym, ◌≡◌, ◌≤◌}
use Rattle.fb_check.specs.Directory.{IsTaken}
use Rattle.fb_check.proofs.lemmas.GoodStimuli.{good_from}
use Rattle.fb_sim_machine.proofs.lemmas.GivenIs.{given_typed}
use Rattle.fb_sim_machine.specs.declared.machine.Machine.{Machine}
use Rattle.fb_session.specs.Pasts.{Talk}
use Rattle.fb_session.specs.declared.stage.Stage.TheVariants as stage
use Rattle.fb_session.proofs.lemmas.GivingIs.{given_is, known_names, unput_for_memory}
use Rattle.fb_session.proofs.lemmas.BreakingIs.{next_counts}
use Rattle.fb_session.proofs.lemmas.Seen.{seen}
use Rattle.fb_session.proofs.session.Session.put.Goals as goal

pub give-requires-clause-typed : goal.give-requires-clause-typed
give-requires-clause-typed c =
    let i = c.self.inside.system.now in
    let s = c.requires.row.0 in
    let taken = subst (λ (x : Talk). IsTaken x.inputs.library s c.args.stimulus) (sym c.self.view_is) c.requires.row.1 in
    given_typed i s c.given-given.result (good_from i.library s (known_names i c.facts.ensures.accepted) taken.takes) (c.given-given.ensures.represents s taken.row)

pub returns-in_err-give : goal.returns-in_err-give
returns-in_err-give c =
    rw (← c.self.view_is)
    (λ s taken at.
    unput_for_memory s c.args.text.items _ _ c.from_residual.result c.from_residual.ensures.1 (next_counts _ c.checked_add.result (c.self.inside.rows + 1) c.in-Some.rows c.checked_add.ensures c.in-Some.is)
    (ap (λ (m : Machine). record (seen c.self.inside) { machine = m }) c.in_err-give.ensures.err))

pub returns : goal.returns
returns c =
    let v = seen c.self.inside in
    let i = c.self.inside.system.now in
    let running = subst (λ (x : Talk). x.stage ≡ stage.Running) (sym c.self.view_is) c.requires.going in
    let later = subst (λ (x : Talk). x.reached ≤ c.args.tick) (sym c.self.view_is) c.requires.late in
    let most = c.requires.row.3 in
    let more = c.in-Some.ensures in
    rw (← c.self.view_is)
    (λ s taken at. (
      refl,
      refl,
      given_is v s c.given-given.result c.give.new.self c.in-Some.rows (omega (arith, more)) running c.args.tick (sym at) later
          (record { good = good_from i.library s (known_names i c.facts.ensures.accepted) taken.takes; early = omega (arith, most, at) })
          (c.given-given.ensures.represents s taken.row) c.given-given.ensures.row c.in_ok-give.ensures.given c.in_ok-give.ensures.ready c.give.ensures.lines,
    ))
