use Rattle.fbsim_command.proofs.lemmas.Common.{Bool, IfOk, None, Ok, Err, noted_of, sym, subst, IfErr, IfSome, OnOk, system_of, Cut}
use Rattle.fb_wave.specs.Fronts.{WritesBefore}
use Rattle.fb_wave.specs.CutOff.{BlamesShown, FailsShown, IsShown}
use Rattle.fbsim_command.specs.Showing.{Dumps, DumpsAs, NotesAs, cut_of}
use Rattle.fbsim_command.specs.StateDumping.{DumpsStates}
use Rattle.fbsim_command.specs.declared.statuses.Done.TheVariants.{Shown}
use Rattle.fbsim_command.proofs.lemmas.notes.NotedLines.{line-noted, line-undeclared, line-unnoted}
use Rattle.fbsim_command.proofs.lemmas.calls.WaveCalls.{dumps_front, dumps_none, no_names}
use Rattle.fbsim_command.proofs.wave.dump.Goals as goal

pub returns-then-wave-clause-dumped : goal.returns-then-wave-clause-dumped
returns-then-wave-clause-dumped g c =
    let w = c.args.wave.now in
    let trace = g.R.Read.remaining c.args.trace.now in
    let old = g.W.Write.contents c.args.out.now in
    let new = g.W.Write.contents c.dump_states.new.out in
    subst (λ (b : Bool). DumpsAs b w.steps (cut_of w) c.args.inputs.now trace old new c.dump_states.result.0) (sym c.if-wave.true)
    (subst (λ (m : Cut). DumpsStates m w.steps c.args.inputs.now trace old new c.dump_states.result.0) c.cut_of-cut.ensures c.dump_states.ensures.dumped)

pub returns-then-wave-clause-noted : goal.returns-then-wave-clause-noted
returns-then-wave-clause-noted g c =
    let w = c.args.wave.now in
    subst (λ (b : Bool). IfOk (noted_of c.dump_states.result.1) (NotesAs b w.why w.steps c.args.inputs.now (g.R.Read.remaining c.args.trace.now) c.dump_states.result.0)) (sym c.if-wave.true)
    c.dump_states.ensures.noted

pub returns-in-Err-clause-noted : goal.returns-in-Err-clause-noted
returns-in-Err-clause-noted g c =
    let w = c.args.wave.now in
    let trace = g.R.Read.remaining c.args.trace.now in
    subst (λ (b : Bool). NotesAs b w.why w.steps c.args.inputs.now trace (Err c.in-Err.failure) None) (sym c.if-wave.false)
    (line-undeclared w.why c.args.inputs.now trace c.in-Err.failure c.in-Err.ensures.refused)

pub returns-in-Err-clause-dumped : goal.returns-in-Err-clause-dumped
returns-in-Err-clause-dumped g c =
    let w = c.args.wave.now in
    let out = g.W.Write.contents c.args.out.now in
    let trace = g.R.Read.remaining c.args.trace.now in
    subst (λ (b : Bool). DumpsAs b w.steps (cut_of w) c.args.inputs.now trace out out (Err c.in-Err.failure)) (sym c.if-wave.false)
    (dumps_none (cut_of w) c.args.inputs.now trace out c.in-Err.failure c.in-Err.ensures.refused)

pub returns-in-Ok-written-clause-dumped : goal.returns-in-Ok-written-clause-dumped
returns-in-Ok-written-clause-dumped g c =
    let w = c.args.wave.now in
    let sys = system_of c.in-Ok.system in
    let old = g.W.Write.contents c.args.out.now in
    let new = g.W.Write.contents c.write_wave_with-written.new.out in
    let trace = g.R.Read.remaining c.args.trace.now in
    subst (λ (b : Bool). DumpsAs b w.steps (cut_of w) c.args.inputs.now trace old new (Ok Shown)) (sym c.if-wave.false) (
      c.in-Ok.system,
      c.in-Ok.ensures.system,
      subst (λ (m : Cut). IfSome trace (λ text. IsShown m sys text old new)) c.cut_of-cut.ensures
          (subst (λ r. OnOk r (IfSome trace (λ text. IsShown c.cut_of-cut.result sys text old new))) c.in-Ok-written.is c.write_wave_with-written.ensures.whole),
    )

pub returns-in-Ok-written-clause-noted : goal.returns-in-Ok-written-clause-noted
returns-in-Ok-written-clause-noted g c =
    let w = c.args.wave.now in
    let trace = g.R.Read.remaining c.args.trace.now in
    let note = noted_of c.note_of_trace_line-note.result in
    subst (λ (b : Bool). IfOk note (NotesAs b w.why w.steps c.args.inputs.now trace (Ok Shown))) (sym c.if-wave.false)
    (line-unnoted w.why c.args.inputs.now trace c.in-Ok.system c.write_wave_with-written.new.current c.write_wave_with-written.result c.in-Ok-written.field-0 Shown note c.in-Ok-written.is
    c.note_of_trace_line-note.ensures)

pub failure_of_wave-requires : goal.failure_of_wave-requires
failure_of_wave-requires g c =
    let trace = g.R.Read.remaining c.args.trace.now in
    no_names c.cut_of-cut.result c.args.inputs.now c.in-Ok.system trace c.in-Ok.ensures.system c.in-Err-written.error
    (subst (λ r. IfErr r (BlamesShown c.cut_of-cut.result (system_of c.in-Ok.system) trace)) c.in-Err-written.is c.write_wave_with-written.ensures.refused)

pub returns-clause-dumped : goal.returns-clause-dumped
returns-clause-dumped g c =
    let w = c.args.wave.now in
    let sys = system_of c.in-Ok.system in
    let old = g.W.Write.contents c.args.out.now in
    let new = g.W.Write.contents c.write_wave_with-written.new.out in
    let trace = g.R.Read.remaining c.args.trace.now in
    let e = c.in-Err-written.error in
    subst (λ (b : Bool). DumpsAs b w.steps (cut_of w) c.args.inputs.now trace old new (Err c.failure_of_wave.result)) (sym c.if-wave.false)
    (dumps_front (cut_of w) c.args.inputs.now trace old new c.in-Ok.system c.in-Ok.ensures.system e c.failure_of_wave.result c.failure_of_wave.ensures
    (subst (λ (m : Cut). FailsShown m sys old new e) c.cut_of-cut.ensures (subst (λ r. IfErr r (FailsShown c.cut_of-cut.result sys old new)) c.in-Err-written.is c.write_wave_with-written.ensures.part))
    (subst (λ (m : Cut). BlamesShown m sys trace e) c.cut_of-cut.ensures (subst (λ r. IfErr r (BlamesShown c.cut_of-cut.result sys trace)) c.in-Err-written.is c.write_wave_with-written.ensures.refused))
    (subst (λ r. IfErr r (WritesBefore sys trace old new)) c.in-Err-written.is c.write_wave_with-written.ensures.before))

pub returns-clause-noted : goal.returns-clause-noted
returns-clause-noted g c =
    let w = c.args.wave.now in
    let trace = g.R.Read.remaining c.args.trace.now in
    let note = noted_of c.note_of_trace_line-note.result in
    subst (λ (b : Bool). IfOk note (NotesAs b w.why w.steps c.args.inputs.now trace (Err c.failure_of_wave.result))) (sym c.if-wave.false)
    (line-noted w.why c.args.inputs.now trace c.in-Ok.system c.write_wave_with-written.new.current c.write_wave_with-written.result
    c.in-Err-written.error c.failure_of_wave.result note c.in-Ok.ensures.system c.in-Err-written.is c.write_wave_with-written.ensures.current
    c.failure_of_wave.ensures c.note_of_trace_line-note.ensures)
