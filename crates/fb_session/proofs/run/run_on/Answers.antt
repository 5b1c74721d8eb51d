use Rattle.fb_types.proofs.Common.{◌≡◌, ◌∙◌, ◌++◌, ℕ, List, map, Option, Some, None, option_map, Ok, Err, Result, refl, subst, sym, Contains, IfSome, IsTrue, IsErrAnd, last, line_of, system_of}
use Rattle.fb_types.specs.declared.run.Line as run
use Rattle.fb_sim_machine.specs.Pauses.{Stands}
use Rattle.fb_session.specs.Hitting.{IsHitBy}
use Rattle.fb_session.specs.Running.{RunsOn}
use Rattle.fb_session.specs.declared.breaks.Break.{Break}
use Rattle.fb_session.specs.declared.fault.SessionFault.{SessionFault}
use Rattle.fb_session.specs.declared.fault.SessionFault.TheVariants as fault
use Rattle.fb_session.proofs.lemmas.RunIs.{break_here, cut_off, end_here, gone_first, gone_more, out_of_memory, passes_here, run_more, stop_here}
use Rattle.fb_session.proofs.run.run_on.Goals as goal

memory_in : {T : Type 0} (P : Result T SessionFault → Type 0) (r : Result T SessionFault) → IsErrAnd r (λ e. e ≡ fault.Memory) → P (Err fault.Memory) → P r
memory_in P (Ok x) bad h = absurd bad
memory_in P (Err e) is h = subst (λ z. P (Err z)) (sym is) h

pub loop-pause-init : goal.loop-pause-init
loop-pause-init g c = record {
  ready = c.requires.ready;
  set = (refl, refl);
  gone = λ d at. gone_first c.args.system.now c.args.reach c.args.breaks.now.set.items d c.args.machine.now (g.W.Write.contents c.args.out.now) at c.requires.none;
}

pub go_on-requires-clause-ready : goal.go_on-requires-clause-ready
go_on-requires-clause-ready g c = c.loop-pause.invariant.ready

pub go_on-requires-clause-represents : goal.go_on-requires-clause-represents
go_on-requires-clause-represents g c =
    let gone = c.loop-pause.invariant.gone c.requires.represents.0 c.requires.represents.1 in (last c.requires.represents.0 gone.more, gone.run.at)

pub returns-in_err-pause-clause-runs : goal.returns-in_err-pause-clause-runs
returns-in_err-pause-clause-runs g c d at =
    let i = c.args.system.now in
    let old = g.W.Write.contents c.args.out.now in
    let mid = g.W.Write.contents c.loop-pause.out in
    memory_in (RunsOn i c.args.reach c.args.breaks.now.set.items d c.args.machine.now c.go_on.new.self old mid) c.from_residual.result c.from_residual.ensures.1
    (out_of_memory i c.args.reach c.args.breaks.now.set.items d c.args.machine.now c.loop-pause.machine old mid c.loop-pause.written (c.loop-pause.invariant.gone d at))

pub returns-in_err-hit-clause-runs : goal.returns-in_err-hit-clause-runs
returns-in_err-hit-clause-runs g c d at =
    let i = c.args.system.now in
    let old = g.W.Write.contents c.args.out.now in
    let mid = g.W.Write.contents c.loop-pause.out in
    memory_in (RunsOn i c.args.reach c.args.breaks.now.set.items d c.args.machine.now c.go_on.new.self old mid) c.from_residual-in_err-hit.result c.from_residual-in_err-hit.ensures.1
    (out_of_memory i c.args.reach c.args.breaks.now.set.items d c.args.machine.now c.loop-pause.machine old mid c.loop-pause.written (c.loop-pause.invariant.gone d at))

pub returns-in-Err-clause-runs : goal.returns-in-Err-clause-runs
returns-in-Err-clause-runs g c d at =
    let i = c.args.system.now in
    let o = c.args.reach in
    let old = g.W.Write.contents c.args.out.now in
    let mid = g.W.Write.contents c.loop-pause.out in
    let gone = c.loop-pause.invariant.gone d at in
    let s = c.in_ok-pause.ensures.stands (last d gone.more) gone.run.at in
    rw c.saturating_add.ensures
    (cut_off i o c.args.breaks.now.set.items d c.args.machine.now c.loop-pause.machine old mid c.loop-pause.written gone c.go_on.new.self s.0 s.1 (g.W.Write.contents c.write_lines_with_count.new.out)
    c.in-Err.fault.written (rw c.lines-lines.ensures at c.in-Err.ensures.part))

pub returns-in-Horizon-clause-runs : goal.returns-in-Horizon-clause-runs
returns-in-Horizon-clause-runs g c d at =
    let i = c.args.system.now in
    let o = c.args.reach in
    let inv = c.loop-pause.invariant in
    let m = c.loop-pause.machine in
    let new = c.go_on.new.self in
    let next = c.clear_lines.new.self in
    let old = g.W.Write.contents c.args.out.now in
    let mid = g.W.Write.contents c.loop-pause.out in
    let now = g.W.Write.contents c.write_lines_with_count.new.out in
    let gone = inv.gone d at in
    let got = rw c.lines-lines.ensures at c.in-Ok.ensures.whole in
    let counted = rw c.lines-lines.ensures at c.in-Ok.ensures.counted in
    let s = subst (λ p. Stands i o.to o.steps c.many.result (last d gone.more) m new p) c.in-Horizon.is (c.in_ok-pause.ensures.stands (last d gone.more) gone.run.at) in
    rw c.saturating_add-written.ensures (
      gone.more ++ s.0,
      run_more i o c.args.breaks.now.set.items d c.args.machine.now m old mid c.loop-pause.written gone new s.0 s.1 now c.in-Ok.bytes got counted next c.clear_lines.ensures.none (c.clear_lines.ensures.at i)
          (c.clear_lines.ensures.ready i o.steps),
      end_here i o c.args.breaks.now.set.items d c.args.machine.now m old mid c.loop-pause.written gone new s.0 s.1 now c.in-Ok.bytes got counted next c.clear_lines.ensures.none (c.clear_lines.ensures.at i)
          (c.clear_lines.ensures.ready i o.steps) s.3.0 s.2 s.3.1 s.3.3 (λ watched. s.3.2 (c.many.ensures watched)),
    )

pub returns-in-Stop-clause-runs : goal.returns-in-Stop-clause-runs
returns-in-Stop-clause-runs g c d at =
    let i = c.args.system.now in
    let o = c.args.reach in
    let inv = c.loop-pause.invariant in
    let m = c.loop-pause.machine in
    let new = c.go_on.new.self in
    let next = c.clear_lines.new.self in
    let old = g.W.Write.contents c.args.out.now in
    let mid = g.W.Write.contents c.loop-pause.out in
    let now = g.W.Write.contents c.write_lines_with_count.new.out in
    let gone = inv.gone d at in
    let got = rw c.lines-lines.ensures at c.in-Ok.ensures.whole in
    let counted = rw c.lines-lines.ensures at c.in-Ok.ensures.counted in
    let s = subst (λ p. Stands i o.to o.steps c.many.result (last d gone.more) m new p) c.in-Stop.is (c.in_ok-pause.ensures.stands (last d gone.more) gone.run.at) in
    rw c.saturating_add-written.ensures (
      gone.more ++ s.0,
      run_more i o c.args.breaks.now.set.items d c.args.machine.now m old mid c.loop-pause.written gone new s.0 s.1 now c.in-Ok.bytes got counted next c.clear_lines.ensures.none (c.clear_lines.ensures.at i)
          (c.clear_lines.ensures.ready i o.steps),
      stop_here i o c.args.breaks.now.set.items d c.args.machine.now m old mid c.loop-pause.written gone new s.0 s.1 now c.in-Ok.bytes got counted next c.clear_lines.ensures.none (c.clear_lines.ensures.at i)
          (c.clear_lines.ensures.ready i o.steps) c.in-Stop.mark s.3.0 s.3.1 s.3.2 s.3.3 s.3.4 s.3.5 s.3.6 (λ watched. s.3.7 (c.many.ensures watched)),
    )

pub returns-in-Some-clause-runs : goal.returns-in-Some-clause-runs
returns-in-Some-clause-runs g c d at =
    let i = c.args.system.now in
    let o = c.args.reach in
    let inv = c.loop-pause.invariant in
    let m = c.loop-pause.machine in
    let new = c.go_on.new.self in
    let next = c.clear_lines.new.self in
    let old = g.W.Write.contents c.args.out.now in
    let mid = g.W.Write.contents c.loop-pause.out in
    let now = g.W.Write.contents c.write_lines_with_count.new.out in
    let gone = inv.gone d at in
    let got = rw c.lines-lines.ensures at c.in-Ok.ensures.whole in
    let counted = rw c.lines-lines.ensures at c.in-Ok.ensures.counted in
    let s = subst (λ p. Stands i o.to o.steps c.many.result (last d gone.more) m new p) c.in-Lines.is (c.in_ok-pause.ensures.stands (last d gone.more) gone.run.at) in
    let hit = subst (λ h. IfSome h (λ h. IsTrue o.is_watched × (l : run.Line) × Contains c.lines-lines.result.now l × (l.key.tick ≡ h.1))) c.in-Some.is c.in_ok-hit.ensures.hit in
    let there = subst (λ (ls : List run.Line). Contains ls hit.1) c.lines-lines.ensures hit.2 in
    let least = subst (λ (ls : List run.Line). IsHitBy (system_of i) c.args.breaks.now.set.items (map (line_of (system_of i)) ls) (Some c.in-Some.number)) c.lines-lines.ensures
    (subst (λ (bs : List Break). IsHitBy (system_of i) bs (map (line_of (system_of i)) c.lines-lines.result.now) (Some c.in-Some.number)) inv.set.0
    (subst (λ (h : Option (ℕ × ℕ)). IsHitBy (system_of i) c.loop-pause.breaks.set.items (map (line_of (system_of i)) c.lines-lines.result.now) (option_map (λ (x : ℕ × ℕ). x.0) h)) c.in-Some.is
    (c.in_ok-hit.ensures.least hit.0))) in
    rw c.saturating_add-written.ensures (
      gone.more ++ s.0,
      run_more i o c.args.breaks.now.set.items d c.args.machine.now m old mid c.loop-pause.written gone new s.0 s.1 now c.in-Ok.bytes got counted next c.clear_lines.ensures.none (c.clear_lines.ensures.at i)
          (c.clear_lines.ensures.ready i o.steps),
      break_here i o c.args.breaks.now.set.items d c.args.machine.now m old mid c.loop-pause.written gone new s.0 s.1 now c.in-Ok.bytes got counted next c.clear_lines.ensures.none (c.clear_lines.ensures.at i)
          (c.clear_lines.ensures.ready i o.steps) c.in-Some.number c.in-Some.tick hit.0 s.3.1 s.3.2 s.3.3 (s.3.5 (c.many.ensures hit.0)) s.3.6 hit.1 there hit.3 s.3.0 s.2 s.3.7 least,
    )

pub loop-pause-preserved : goal.loop-pause-preserved
loop-pause-preserved g c =
    let i = c.args.system.now in
    let o = c.args.reach in
    let ready = c.in_ok-pause.ensures.ready in
    let set = c.loop-pause.invariant.set in
    record {
      ready = (ready.0, c.clear_lines.ensures.ready i o.steps ready.0 ready.1);
      set = (c.hit.ensures.set.0 ∙ set.0, c.hit.ensures.set.1 ∙ set.1);
      gone = λ d at.
          let i = c.args.system.now in
          let o = c.args.reach in
          let inv = c.loop-pause.invariant in
          let m = c.loop-pause.machine in
          let new = c.go_on.new.self in
          let next = c.clear_lines.new.self in
          let old = g.W.Write.contents c.args.out.now in
          let mid = g.W.Write.contents c.loop-pause.out in
          let now = g.W.Write.contents c.write_lines_with_count.new.out in
          let gone = inv.gone d at in
          let got = rw c.lines-lines.ensures at c.in-Ok.ensures.whole in
          let counted = rw c.lines-lines.ensures at c.in-Ok.ensures.counted in
          let s = subst (λ p. Stands i o.to o.steps c.many.result (last d gone.more) m new p) c.in-Lines.is (c.in_ok-pause.ensures.stands (last d gone.more) gone.run.at) in
          let least = λ (watched : IsTrue o.is_watched).
          subst (λ (ls : List run.Line). IsHitBy (system_of i) c.args.breaks.now.set.items (map (line_of (system_of i)) ls) None) c.lines-lines.ensures
          (subst (λ (bs : List Break). IsHitBy (system_of i) bs (map (line_of (system_of i)) c.lines-lines.result.now) None) inv.set.0
          (subst (λ (h : Option (ℕ × ℕ)). IsHitBy (system_of i) c.loop-pause.breaks.set.items (map (line_of (system_of i)) c.lines-lines.result.now) (option_map (λ (x : ℕ × ℕ). x.0) h)) c.in-None.is
          (c.in_ok-hit.ensures.least watched))) in
          let passes = passes_here i o c.args.breaks.now.set.items d c.args.machine.now m old mid c.loop-pause.written gone new s.0 s.1 now c.in-Ok.bytes got counted next c.clear_lines.ensures.none (c.clear_lines.ensures.at i)
          (c.clear_lines.ensures.ready i o.steps) s.3.1 s.3.2 s.3.3 (λ watched. s.3.5 (c.many.ensures watched)) least in
          rw c.saturating_add-written.ensures (gone_more i o c.args.breaks.now.set.items d c.args.machine.now m old mid c.loop-pause.written gone new s.0 s.1 now c.in-Ok.bytes got counted next c.clear_lines.ensures.none (c.clear_lines.ensures.at i)
          (c.clear_lines.ensures.ready i o.steps) s.3.1 s.3.2 s.3.3 s.3.0 s.2 s.3.7 passes);
    }
