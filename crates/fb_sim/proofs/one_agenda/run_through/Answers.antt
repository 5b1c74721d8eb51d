use Rattle.fb_sim.proofs.lemmas.Common.{[], subst, Err, AreGood, RunsOn, Memory}
use Rattle.std.proofs.lemmas.Result.{IfOk-from_err}
use Rattle.fb_sim_machine.specs.Pauses.{Pauses}
use Rattle.fb_sim.proofs.lemmas.runs.OneAgendaIs.{gone_first, gone_more, gone_short, gone_out_of_memory, through_horizon, through_stop}
use Rattle.fb_sim.proofs.lemmas.rounds.RunIs.{err_is}
use Rattle.fb_sim.proofs.one_agenda.run_through.Goals as goal

pub loop-pause-init : goal.loop-pause-init
loop-pause-init g c = record {
  ready = (0, c.requires.ready);
  none = c.requires.none;
  gone = gone_first c.args.system.now c.args.options c.args.machine.now (g.W.Write.contents c.args.out.now) c.requires.at;
}

pub go_on-requires-clause-ready : goal.go_on-requires-clause-ready
go_on-requires-clause-ready g c = c.loop-pause.invariant.ready

pub go_on-requires-clause-represents : goal.go_on-requires-clause-represents
go_on-requires-clause-represents g c = (c.loop-pause.invariant.gone.at, c.loop-pause.invariant.gone.is)

pub go_on-requires-clause-early : goal.go_on-requires-clause-early
go_on-requires-clause-early g c = c.requires.options.horizon_most

pub go_on-requires-clause-few : goal.go_on-requires-clause-few
go_on-requires-clause-few g c = c.requires.options.steps_most

pub returns-in_err-pause-clause-ends : goal.returns-in_err-pause-clause-ends
returns-in_err-pause-clause-ends g c = IfOk-from_err _ _ c.from_residual.ensures.0

pub returns-in_err-pause-clause-ran : goal.returns-in_err-pause-clause-ran
returns-in_err-pause-clause-ran g c = IfOk-from_err _ _ c.from_residual.ensures.0

pub returns-in_err-pause-clause-failed : goal.returns-in_err-pause-clause-failed
returns-in_err-pause-clause-failed g c =
    let i = c.args.system.now in
    let o = c.args.options in
    let old = g.W.Write.contents c.args.out.now in
    let mid = g.W.Write.contents c.loop-pause.out in
    let good : AreGood i = record { accepted = c.facts.ensures.accepted; limits = c.facts.ensures.limits } in
    err_is (λ e. RunsOn i o [] old mid (Err e)) c.from_residual.result Memory c.from_residual.ensures.1
    (gone_out_of_memory i o good c.loop-pause.machine old mid c.loop-pause.written c.loop-pause.invariant.gone)

pub returns-in-Err-clause-failed : goal.returns-in-Err-clause-failed
returns-in-Err-clause-failed g c =
    let i = c.args.system.now in
    let o = c.args.options in
    let old = g.W.Write.contents c.args.out.now in
    let mid = g.W.Write.contents c.loop-pause.out in
    let new = g.W.Write.contents c.hand_out.new.out in
    let good : AreGood i = record { accepted = c.facts.ensures.accepted; limits = c.facts.ensures.limits } in
    let inv = c.loop-pause.invariant in
    rw c.with_written.ensures
    (gone_short i o c.loop-pause.machine c.go_on.new.self old mid c.loop-pause.written inv.gone inv.none good new c.in_ok-pause.pause
    (c.in_ok-pause.ensures.pauses inv.gone.at inv.gone.is) c.in-Err.error (rw c.lines.ensures at c.in-Err.ensures.part))

pub loop-pause-preserved : goal.loop-pause-preserved
loop-pause-preserved g c =
    let i = c.args.system.now in
    let o = c.args.options in
    let old = g.W.Write.contents c.args.out.now in
    let mid = g.W.Write.contents c.loop-pause.out in
    let now = g.W.Write.contents c.hand_out.new.out in
    let m = c.loop-pause.machine in
    let new = c.go_on.new.self in
    let inv = c.loop-pause.invariant in
    let got = rw c.lines.ensures at c.in-Ok.ensures.whole in
    let pauses = subst (λ p. Pauses i o.horizon o.steps inv.gone.at m new p) c.in-Lines.is (c.in_ok-pause.ensures.pauses inv.gone.at inv.gone.is) in
    let ready = c.in_ok-pause.ensures.ready in
    record {
      ready = (ready.0, c.clear_lines.ensures.ready i o.steps ready.0 ready.1);
      none = c.clear_lines.ensures.none;
      gone =
          rw c.saturating_add-written.ensures
          (gone_more i o m new old mid c.loop-pause.written inv.gone inv.none now c.in-Ok.bytes got.0 got.1 c.clear_lines.new.self pauses
          (c.clear_lines.ensures.at i pauses.0.state pauses.0.agenda));
    }

pub returns-in-Horizon-clause-ran : goal.returns-in-Horizon-clause-ran
returns-in-Horizon-clause-ran g c =
    let i = c.args.system.now in
    let o = c.args.options in
    let old = g.W.Write.contents c.args.out.now in
    let mid = g.W.Write.contents c.loop-pause.out in
    let now = g.W.Write.contents c.hand_out.new.out in
    let m = c.loop-pause.machine in
    let new = c.go_on.new.self in
    let inv = c.loop-pause.invariant in
    let got = rw c.lines.ensures at c.in-Ok.ensures.whole in
    let pauses = subst (λ p. Pauses i o.horizon o.steps inv.gone.at m new p) c.in-Horizon.is (c.in_ok-pause.ensures.pauses inv.gone.at inv.gone.is) in
    rw c.saturating_add-written.ensures
    (through_horizon i o m new old mid c.loop-pause.written inv.gone inv.none now c.in-Ok.bytes got.0 got.1 pauses)

pub returns-in-Stop-clause-ends : goal.returns-in-Stop-clause-ends
returns-in-Stop-clause-ends g c =
    let o = c.args.options in
    let gone = c.loop-pause.invariant.gone in
    let pauses = subst (λ p. Pauses c.args.system.now o.horizon o.steps gone.at c.loop-pause.machine c.go_on.new.self p) c.in-Stop.is (c.in_ok-pause.ensures.pauses gone.at gone.is) in
    pauses.0

pub returns-in-Stop-clause-ran : goal.returns-in-Stop-clause-ran
returns-in-Stop-clause-ran g c =
    let i = c.args.system.now in
    let o = c.args.options in
    let old = g.W.Write.contents c.args.out.now in
    let mid = g.W.Write.contents c.loop-pause.out in
    let now = g.W.Write.contents c.hand_out.new.out in
    let m = c.loop-pause.machine in
    let new = c.go_on.new.self in
    let inv = c.loop-pause.invariant in
    let got = rw c.lines.ensures at c.in-Ok.ensures.whole in
    let pauses = subst (λ p. Pauses i o.horizon o.steps inv.gone.at m new p) c.in-Stop.is (c.in_ok-pause.ensures.pauses inv.gone.at inv.gone.is) in
    rw c.saturating_add-written.ensures
    (through_stop i o m new old mid c.loop-pause.written inv.gone inv.none now c.in-Ok.bytes got.0 got.1 c.in-Stop.mark pauses)
