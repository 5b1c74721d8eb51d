use Rattle.fbsim_command.proofs.lemmas.Common.{◌≡◌, ◌≤◌, noted_of, subst, IfErr, IfSome, OnErr, OnOk, system_of, OfRefusal, IsWrongIn}
use Rattle.fb_inspect.specs.Inspections.{IsShownBy, ShowsBefore, ShowsRead}
use Rattle.fb_inspect.specs.walk.Looks.{most}
use Rattle.fb_inspect.specs.Refusals.{IsPathFault}
use Rattle.fb_inspect.specs.declared.error.InspectError.TheVariants as inspection
use Rattle.fbsim_command.specs.Inspecting.{Inspects, cut_of, selection_of}
use Rattle.fbsim_command.proofs.lemmas.calls.Inspecting.{inspects_front, inspects_none}
use Rattle.fbsim_command.proofs.lemmas.notes.NotedLines.{inside-noted, inside-undeclared, inside-unnoted}
use Rattle.fbsim_command.specs.declared.statuses.Done.TheVariants.{Shown}
use Rattle.fbsim_command.proofs.lemmas.names.ReadNames.{read-names}
use Rattle.fbsim_command.proofs.inspect.write_inspected.Goals as goal

pub returns-in-Err-clause-inspected : goal.returns-in-Err-clause-inspected
returns-in-Err-clause-inspected g c =
    let out = g.W.Write.contents c.args.out.now in
    let trace = g.R.Read.remaining c.args.trace.now in
    inspects_none c.args.inputs.now c.args.inspect.now trace out c.in-Err.failure c.in-Err.ensures.refused

pub returns-in-Ok-gone-clause-inspected : goal.returns-in-Ok-gone-clause-inspected
returns-in-Ok-gone-clause-inspected g c =
    let x = c.args.inspect.now in
    let sys = system_of c.in-Ok.system in
    let old = g.W.Write.contents c.args.out.now in
    let new = g.W.Write.contents c.go-gone.new.out in
    let trace = g.R.Read.remaining c.args.trace.now in
    (c.in-Ok.system, c.in-Ok.ensures.system, subst (λ r. OnOk r (IfSome trace (λ text. IsShownBy (cut_of x) sys (selection_of x) x.steps text old new))) c.in-Ok-gone.is c.go-gone.ensures.whole)

pub returns-in-Ok-gone-clause-noted : goal.returns-in-Ok-gone-clause-noted
returns-in-Ok-gone-clause-noted g c =
    inside-unnoted c.args.inspect.now.why c.args.inputs.now c.args.inspect.now.steps (g.R.Read.remaining c.args.trace.now) c.in-Ok.system c.go-gone.new.refused c.go-gone.result c.in-Ok-gone.field-0 Shown (noted_of c.note_of_gone-note.result)
    c.in-Ok-gone.is c.note_of_gone-note.ensures

pub returns-in-Err-clause-noted : goal.returns-in-Err-clause-noted
returns-in-Err-clause-noted g c = inside-undeclared c.args.inspect.now.why c.args.inputs.now c.args.inspect.now.steps (g.R.Read.remaining c.args.trace.now) c.in-Err.failure c.in-Err.ensures.refused

pub go-gone-requires : goal.go-gone-requires
go-gone-requires g c = read-names c.args.inputs.now c.in-Ok.system c.in-Ok.ensures.system

pub failure_of_inspection-requires : goal.failure_of_inspection-requires
failure_of_inspection-requires g c = subst (λ r. IfErr r (λ e. e ≡ inspection.Names → ⊥)) c.in-Err-gone.is c.go-gone.ensures.names

pub returns-clause-inspected : goal.returns-clause-inspected
returns-clause-inspected g c =
    let x = c.args.inspect.now in
    let sys = system_of c.in-Ok.system in
    let old = g.W.Write.contents c.args.out.now in
    let new = g.W.Write.contents c.go-gone.new.out in
    let trace = g.R.Read.remaining c.args.trace.now in
    inspects_front c.args.inputs.now x trace old new c.in-Ok.system c.in-Ok.ensures.system c.in-Err-gone.error c.failure_of_inspection.result c.failure_of_inspection.ensures
    (subst (λ r. OnErr r (ShowsRead sys (selection_of x) x.steps trace old new)) c.in-Err-gone.is c.go-gone.ensures.fault)
    (subst (λ r. IfErr r (OfRefusal (IsWrongIn (cut_of x) c.in-Ok.system x.steps trace))) c.in-Err-gone.is c.go-gone.ensures.refused)
    (subst (λ r. IfErr r (IsPathFault sys (selection_of x).only)) c.in-Err-gone.is c.go-gone.ensures.paths)
    (subst (λ r. IfErr r (OfRefusal (λ n. x.steps ≤ most → IfSome trace (λ text. ShowsBefore sys (selection_of x) n text old new)))) c.in-Err-gone.is c.go-gone.ensures.before)

pub returns-clause-noted : goal.returns-clause-noted
returns-clause-noted g c =
    inside-noted c.args.inspect.now.why c.args.inputs.now c.args.inspect.now.steps (g.R.Read.remaining c.args.trace.now) c.in-Ok.system c.go-gone.new.refused c.go-gone.result c.in-Err-gone.error c.failure_of_inspection.result
    (noted_of c.note_of_gone-note.result) c.in-Ok.ensures.system c.in-Err-gone.is c.go-gone.ensures.found c.failure_of_inspection.ensures c.note_of_gone-note.ensures
