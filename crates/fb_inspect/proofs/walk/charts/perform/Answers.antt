use Rattle.fb_inspect.proofs.lemmas.Common.{◌++◌, ℕ, List, [], ◌∷◌, length, map, Option, refl, sym, ◌∙◌, ap, subst, length-map, Acts, Position, Name, emission_of, path_at, ports_at, values_of, place, sys_of, shown_text, Reading, Trail, Acting, ChartFails, EmitsFail}
use Rattle.fb_types.specs.declared.run.Emission as run
use Rattle.fb_ecc.specs.Indexes.{index}
use Rattle.fb_inspect.specs.walk.Notes.{ran_by_action}
use Rattle.fb_inspect.specs.Markings.{with_ran_by}
use Rattle.fb_inspect.specs.walk.OfWalk.{IsNext}
use Rattle.fb_inspect.proofs.lemmas.reactions.Charted.{act_goes}
use Rattle.fb_inspect.specs.Refusals.{IsPlainLine}
use Rattle.fb_inspect.proofs.lemmas.reactions.ChartFailing.{act_fails, emitted_fails, fit_chart}
use Rattle.fb_inspect.proofs.lemmas.results.Joined.{err_joined, ok_joined, ok_passed, on_any, on_joined}
use Rattle.fb_inspect.proofs.lemmas.results.Refused.{err_refused, none_passed}
use Rattle.fb_inspect.proofs.walk.charts.perform.Goals as goal

pub note_ran-requires : goal.note_ran-requires
note_ran-requires g c = λ some.
    let own : List Name = c.args.chart.now.own.items in
    ap length (c.in_ok-keep_before.ensures some ∙ ap (λ (ns : List Name). map (values_of c.args.chart.now.state.frame) ns) c.as_slice-variables.ensures.value)
    ∙ length-map own (values_of c.args.chart.now.state.frame)

pub emit_all-requires : goal.emit_all-requires
emit_all-requires g c =
    subst (λ (r : Reading). IsNext c.args.taking.now.fixed c.args.taking.now.line.now.key.tick r) (sym c.in_ok-note_ran.ensures.reading) c.requires.next

pub returns-clause-shown : goal.returns-clause-shown
returns-clause-shown g c = λ a at.
    let x = c.args.taking.now in
    let t = x.block.now in
    let left : ℕ = c.args.meter.now.left in
    let own : List Name = c.args.chart.now.own.items in
    let before = values_of c.args.chart.now.state.frame in
    let after = values_of c.acted.new.state.frame in
    let p : Position = place t c.args.chart.now left in
    let q : Position = index t c.acted.new.state.state c.acted.new.state.frame c.acted.new.meter.left c.acted.new.emits in
    let acts = subst (λ (es : List run.Emission). Acts t (a ∷ []) left (index t c.args.chart.now.state.state c.args.chart.now.state.frame left es) c.in_ok-end.end q) c.new-emits.ensures
    (c.in_ok-end.ensures.acted a at) in
    let trail : Trail = c.args.trail.now in
    let noted = c.in_ok-note_ran.ensures.noted before (λ some. c.in_ok-keep_before.ensures some ∙ ap (λ (ns : List Name). map before ns) c.as_slice-variables.ensures.value) in
    let named = c.algorithm_of-algorithm.ensures a at in
    ok_joined c.and.result c.emit_all.result _ _ _ c.and.ensures c.emit_all.ensures.goes
    (λ goes.
    act_goes x t a p q c.acted.new.emits _ trail c.note_ran.new.trail _ _ _ c.requires.taking.kind refl refl acts noted.aside
    (noted.marked ∙ ap (λ (n : Option Name). with_ran_by t x.number n left trail.marks.charts) named)
    c.emit_all.ensures.charts (ap (λ (r : Reading). r.line.items) c.in_ok-note_ran.ensures.reading)
    (noted.added
    ∙ ap (λ (n : Option Name). trail.page.text.items ++ shown_text trail.is_shown (ran_by_action n left before after own)) named
    ∙ ap (λ (ns : List Name). trail.page.text.items ++ shown_text trail.is_shown (ran_by_action a.algorithm left before after ns)) c.requires.chart.own)
    goes)

pub returns-clause-refused : goal.returns-clause-refused
returns-clause-refused g c = λ a others at names plain.
    let x = c.args.taking.now in
    let t = x.block.now in
    let left : ℕ = c.args.meter.now.left in
    let p : Position = place t c.args.chart.now left in
    let es : List run.Emission = c.acted.new.emits in
    let q : Position = index t c.acted.new.state.state c.acted.new.state.frame c.acted.new.meter.left es in
    let acts = subst (λ (es : List run.Emission). Acts t (a ∷ []) left (index t c.args.chart.now.state.state c.args.chart.now.state.frame left es) c.in_ok-end.end q) c.new-emits.ensures
    (c.in_ok-end.ensures.acted a at) in
    let before = g.R.Read.remaining c.args.input.now in
    let after = g.R.Read.remaining c.emit_all.new.input in
    let own : IsPlainLine (sys_of x) x.fixed.form x.line.now = record { names = names; line = c.requires.taking.line; plain = plain } in
    err_joined c.and.result c.emit_all.result _ _ c.and.ensures
    (err_refused c.emit_all.result
    (λ n. EmitsFail (sys_of x) x.fixed.form x.line.now (map (emission_of (ports_at (sys_of x) (path_at (sys_of x) x.line.now.instance))) es) c.note_ran.new.trail.reading c.emit_all.new.self.reading before after n)
    (λ n. ChartFails x (Acting t (a ∷ others)) p c.args.trail.now.reading c.emit_all.new.self.reading before after n)
    (c.emit_all.ensures.refused own (fit_chart x t es c.requires.taking.kind (c.in_ok-end.ensures.fit c.new-emits.ensures)))
    (λ n fails. act_fails x t a others p q c.in_ok-end.end c.args.trail.now.reading c.emit_all.new.self.reading before after n refl acts
    (emitted_fails x t es c.args.trail.now.reading c.emit_all.new.self.reading before after n c.requires.taking.kind
    (subst (λ (r : Reading). EmitsFail (sys_of x) x.fixed.form x.line.now (map (emission_of (ports_at (sys_of x) (path_at (sys_of x) x.line.now.instance))) es) r c.emit_all.new.self.reading before after n)
    c.in_ok-note_ran.ensures.reading fails))))

pub returns-in_err-end-clause-refused : goal.returns-in_err-end-clause-refused
returns-in_err-end-clause-refused g c = λ a others at names plain.
    none_passed _ _ _ c.from_residual-in_err-end.ensures.1 c.in_err-end.ensures.fault

pub returns-clause-chart : goal.returns-clause-chart
returns-clause-chart g c = on_any c.and.result _ (record { block = c.acted.ensures.block; own = c.requires.chart.own; hidden = c.requires.chart.hidden })

pub returns-clause-state : goal.returns-clause-state
returns-clause-state g c = c.acted.ensures.state

pub returns-clause-fewer : goal.returns-clause-fewer
returns-clause-fewer g c = c.acted.ensures.fewer

pub returns-clause-next : goal.returns-clause-next
returns-clause-next g c = on_joined c.and.result c.emit_all.result _ _ c.and.ensures c.emit_all.ensures.next

pub returns-in_err-keep_before-clause-chart : goal.returns-in_err-keep_before-clause-chart
returns-in_err-keep_before-clause-chart g c = ok_passed c.from_residual.result _ _ c.from_residual.ensures.1

pub returns-in_err-keep_before-clause-next : goal.returns-in_err-keep_before-clause-next
returns-in_err-keep_before-clause-next g c = ok_passed c.from_residual.result _ _ c.from_residual.ensures.1

pub returns-in_err-keep_before-clause-shown : goal.returns-in_err-keep_before-clause-shown
returns-in_err-keep_before-clause-shown g c = λ a at. ok_passed c.from_residual.result _ _ c.from_residual.ensures.1

pub returns-in_err-keep_before-clause-refused : goal.returns-in_err-keep_before-clause-refused
returns-in_err-keep_before-clause-refused g c = λ a others at names plain. none_passed _ _ _ c.from_residual.ensures.1 tt

pub returns-in_err-end-clause-chart : goal.returns-in_err-end-clause-chart
returns-in_err-end-clause-chart g c = ok_passed c.from_residual-in_err-end.result _ _ c.from_residual-in_err-end.ensures.1

pub returns-in_err-end-clause-next : goal.returns-in_err-end-clause-next
returns-in_err-end-clause-next g c = ok_passed c.from_residual-in_err-end.result _ _ c.from_residual-in_err-end.ensures.1

pub returns-in_err-end-clause-shown : goal.returns-in_err-end-clause-shown
returns-in_err-end-clause-shown g c = λ a at. ok_passed c.from_residual-in_err-end.result _ _ c.from_residual-in_err-end.ensures.1

pub returns-in_err-note_ran-clause-chart : goal.returns-in_err-note_ran-clause-chart
returns-in_err-note_ran-clause-chart g c = ok_passed c.from_residual-in_err-note_ran.result _ _ c.from_residual-in_err-note_ran.ensures.1

pub returns-in_err-note_ran-clause-next : goal.returns-in_err-note_ran-clause-next
returns-in_err-note_ran-clause-next g c = ok_passed c.from_residual-in_err-note_ran.result _ _ c.from_residual-in_err-note_ran.ensures.1

pub returns-in_err-note_ran-clause-shown : goal.returns-in_err-note_ran-clause-shown
returns-in_err-note_ran-clause-shown g c = λ a at. ok_passed c.from_residual-in_err-note_ran.result _ _ c.from_residual-in_err-note_ran.ensures.1

pub returns-in_err-note_ran-clause-refused : goal.returns-in_err-note_ran-clause-refused
returns-in_err-note_ran-clause-refused g c = λ a others at names plain. none_passed _ _ _ c.from_residual-in_err-note_ran.ensures.1 tt
