use Rattle.fbsim_command.proofs.lemmas.Common.{◌∙◌, Bool, Err, ap, subst, sym, system_of, noted_of}
use Rattle.fb_inspect.specs.declared.error.InspectError.{InspectError}
use Rattle.fb_wave.specs.Named.{HasNames}
use Rattle.fbsim_command.specs.Covering.{IsStopped, IsTraceFailure, are_several, cut_of}
use Rattle.fbsim_command.proofs.lemmas.calls.CoverageCalls.{failed-at, goes-through, unopened}
use Rattle.fbsim_command.proofs.lemmas.calls.Inspecting.{never_names, never_unknown, wrong-covered}
use Rattle.fbsim_command.proofs.lemmas.notes.NotedLines.{found-covered}
use Rattle.fbsim_command.proofs.coverage.cover_one.Goals as goal

pub returns-in-Err-clause-stopped : goal.returns-in-Err-clause-stopped
returns-in-Err-clause-stopped g c =
    let note = noted_of c.note_where_asked.result in
    subst (IsStopped g.S.Streams.opens c.args.system.now c.args.coverage.now c.args.name.now c.args.source.now c.open.new.self note) (sym c.from.ensures)
    (unopened g.S.Streams.opens c.args.system.now c.args.coverage.now c.args.name.now c.args.source.now c.open.new.self note c.in-Err.fault c.in-Err.ensures c.note_where_asked.ensures)

pub returns-in-Ok-cover-clause-covered : goal.returns-in-Ok-cover-clause-covered
returns-in-Ok-cover-clause-covered g c =
    goes-through g.S.Streams.opens c.args.system.now c.args.coverage.now c.args.name.now c.args.source.now c.open.new.self _ c.cut_of.result c.args.gleaned c.parts-marks.result.0 c.in-Ok-cover.covered.marks
    c.in-Ok-cover.covered.extent c.parts-marks.result.1 c.gleaned_with.result c.in-Ok.ensures c.cut_of.ensures c.parts-marks.ensures.marks c.parts-marks.ensures.cut c.in-Ok-cover.ensures.covered
    c.gleaned_with.ensures.marks c.gleaned_with.ensures.cut

pub failure_of_trace-requires-clause-names : goal.failure_of_trace-requires-clause-names
failure_of_trace-requires-clause-names g c = λ is.
    never_names (HasNames (system_of c.args.system.now)) c.cover.result c.requires.names (c.in-Err-cover.is ∙ ap (λ (e : InspectError). Err e) is) c.cover.ensures.names

pub failure_of_trace-requires-clause-paths : goal.failure_of_trace-requires-clause-paths
failure_of_trace-requires-clause-paths g c = λ is. never_unknown c.cover.result (c.in-Err-cover.is ∙ ap (λ (e : InspectError). Err e) is) c.cover.ensures.paths

pub returns-clause-stopped : goal.returns-clause-stopped
returns-clause-stopped g c =
    let i = c.args.system.now in
    let x = c.args.coverage.now in
    failed-at g.S.Streams.opens i x c.args.name.now c.args.source.now c.open.new.self _ c.cover.new.refused (noted_of c.note_of_fault.result) c.in-Err-cover.error c.failure_of_trace.result c.in-Ok.ensures
    (wrong-covered (cut_of x) i x.steps _ c.cover.result c.in-Err-cover.error c.requires.names c.in-Err-cover.is c.cover.ensures.refused (λ has few may. c.cover.ensures.uncut has few (c.cut_of.ensures ∙ may)))
    (found-covered i x.steps _ c.cover.new.refused c.cover.result c.in-Err-cover.error c.requires.names c.in-Err-cover.is c.cover.ensures.found)
    c.note_of_fault.ensures
    (subst (λ (b : Bool). IsTraceFailure b c.args.name.now c.in-Err-cover.error c.failure_of_trace.result) c.are_several.ensures c.failure_of_trace.ensures)
