use Rattle.fbsim_command.proofs.lemmas.Common.{◌≡◌, noted_of, subst, ◌≤◌, IfErr, IfSome, OnErr, OnOk, system_of, OfRefusal, IsWrongIn}
use Rattle.fb_wave.specs.CutOff.{IsUncut}
use Rattle.fb_wave.specs.Named.{HasNames}
use Rattle.fb_wave.specs.declared.truncation.Cut.TheVariants as cut
use Rattle.fb_inspect.specs.OfSystem.{IsWrongFor}
use Rattle.fb_inspect.specs.Refusals.{IsWrongAt}
use Rattle.fb_inspect.specs.walk.Looks.{most}
use Rattle.fb_inspect.specs.declared.error.InspectError.TheVariants as inspection
use Rattle.fb_inspect.specs.StateWaves.{IsShownWith, WritesBefore, WritesRead}
use Rattle.fbsim_command.specs.StateDumping.{DumpsStates}
use Rattle.fbsim_command.proofs.lemmas.calls.Inspecting.{no_names, wrong_so}
use Rattle.fbsim_command.proofs.lemmas.calls.StateWaveCalls.{states_front, states_none}
use Rattle.fbsim_command.proofs.lemmas.notes.NotedLines.{found-so, inside-noted, inside-undeclared, inside-unnoted}
use Rattle.fbsim_command.specs.declared.statuses.Done.TheVariants.{Shown}
use Rattle.fbsim_command.proofs.lemmas.names.ReadNames.{read-names}
use Rattle.fbsim_command.proofs.state_dump.dump_states.Goals as goal

pub returns-in-Err-clause-dumped : goal.returns-in-Err-clause-dumped
returns-in-Err-clause-dumped g c =
    let t = c.args.terms in
    let out = g.W.Write.contents c.args.out.now in
    let trace = g.R.Read.remaining c.args.trace.now in
    states_none t.cut t.steps c.args.inputs.now trace out c.in-Err.failure c.in-Err.ensures.refused

pub returns-in-Ok-gone-clause-dumped : goal.returns-in-Ok-gone-clause-dumped
returns-in-Ok-gone-clause-dumped g c =
    let t = c.args.terms in
    let sys = system_of c.in-Ok.system in
    let old = g.W.Write.contents c.args.out.now in
    let new = g.W.Write.contents c.write_states-gone.new.out in
    let trace = g.R.Read.remaining c.args.trace.now in
    (c.in-Ok.system, c.in-Ok.ensures.system, subst (λ r. OnOk r (IfSome trace (λ text. IsShownWith t.cut sys t.steps text old new))) c.in-Ok-gone.is c.write_states-gone.ensures.whole)

pub returns-in-Ok-gone-clause-noted : goal.returns-in-Ok-gone-clause-noted
returns-in-Ok-gone-clause-noted g c =
    inside-unnoted c.args.why c.args.inputs.now c.args.terms.steps (g.R.Read.remaining c.args.trace.now) c.in-Ok.system c.write_states-gone.new.refused c.write_states-gone.result c.in-Ok-gone.field-0 Shown (noted_of c.note_of_gone-note.result)
    c.in-Ok-gone.is c.note_of_gone-note.ensures

pub returns-in-Err-clause-noted : goal.returns-in-Err-clause-noted
returns-in-Err-clause-noted g c = inside-undeclared c.args.why c.args.inputs.now c.args.terms.steps (g.R.Read.remaining c.args.trace.now) c.in-Err.failure c.in-Err.ensures.refused

pub failure_of_inspection-requires : goal.failure_of_inspection-requires
failure_of_inspection-requires g c =
    let sys = system_of c.in-Ok.system in
    subst (λ r. IfErr r (λ e. e ≡ inspection.Names → ⊥)) c.in-Err-gone.is
    (no_names (HasNames sys) (read-names c.args.inputs.now c.in-Ok.system c.in-Ok.ensures.system) c.write_states-gone.result c.write_states-gone.ensures.names)

pub returns-clause-dumped : goal.returns-clause-dumped
returns-clause-dumped g c =
    let t = c.args.terms in
    let sys = system_of c.in-Ok.system in
    let old = g.W.Write.contents c.args.out.now in
    let new = g.W.Write.contents c.write_states-gone.new.out in
    let trace = g.R.Read.remaining c.args.trace.now in
    let names = read-names c.args.inputs.now c.in-Ok.system c.in-Ok.ensures.system in
    states_front t.cut t.steps c.args.inputs.now trace old new c.in-Ok.system c.in-Ok.ensures.system c.in-Err-gone.error c.failure_of_inspection.result c.failure_of_inspection.ensures
    (subst (λ r. OnErr r (WritesRead sys t.steps trace old new)) c.in-Err-gone.is c.write_states-gone.ensures.read)
    (subst (λ r. IfErr r (OfRefusal (IsWrongIn t.cut c.in-Ok.system t.steps trace))) c.in-Err-gone.is
    (wrong_so (HasNames sys) (t.steps ≤ most) (t.cut ≡ cut.Allowed) (λ n. IfSome trace (IsWrongAt sys t.steps n)) (λ n. IfSome trace (IsUncut sys n)) c.write_states-gone.result names
    c.write_states-gone.ensures.refused c.write_states-gone.ensures.uncut))
    (subst (λ r. IfErr r (λ e. e ≡ inspection.Unknown → ⊥)) c.in-Err-gone.is c.write_states-gone.ensures.paths)
    (subst (λ r. IfErr r (OfRefusal (λ n. t.steps ≤ most → IfSome trace (λ text. WritesBefore sys n text old new)))) c.in-Err-gone.is
    (found-so (HasNames sys) (t.steps ≤ most) (λ n. IfSome trace (λ text. WritesBefore sys n text old new)) c.write_states-gone.result names c.write_states-gone.ensures.before))

pub returns-clause-noted : goal.returns-clause-noted
returns-clause-noted g c =
    inside-noted c.args.why c.args.inputs.now c.args.terms.steps (g.R.Read.remaining c.args.trace.now) c.in-Ok.system c.write_states-gone.new.refused c.write_states-gone.result c.in-Err-gone.error c.failure_of_inspection.result
    (noted_of c.note_of_gone-note.result) c.in-Ok.ensures.system c.in-Err-gone.is (found-so (HasNames (system_of c.in-Ok.system)) (c.args.terms.steps ≤ most) (λ n. IfSome (g.R.Read.remaining c.args.trace.now) (IsWrongFor c.in-Ok.system c.args.terms.steps (record { number = n; finding = c.write_states-gone.new.refused.finding }) c.write_states-gone.new.refused.current.text.items)) c.write_states-gone.result (read-names c.args.inputs.now c.in-Ok.system c.in-Ok.ensures.system) c.write_states-gone.ensures.found) c.failure_of_inspection.ensures c.note_of_gone-note.ensures
