use Rattle.fb_inspect.proofs.lemmas.Common.{system_of, path_at, event_at, err_from_is_err_and, [], ◌∷◌, List, Some, inl, inr, refl, sym, ap, subst, ◌∙◌, Position, Name, Value, ChartTaking, values_of, ShowsChain, ChartGoes, place, Chart, Reading, Trail, IsTakingAt, ChartFails, FailsBy, IsUnbegun, Refusal}
use Rattle.fb_inspect.proofs.lemmas.walk.Walked.{chart_goes, chart_kept_at, chart_taking}
use Rattle.fb_ecc.specs.Indexes.{sampled}
use Rattle.fb_inspect.specs.walk.OfWalk.{IsNext}
use Rattle.fb_inspect.proofs.lemmas.reactions.ChartFailing.{reaction_fails}
use Rattle.fb_inspect.proofs.lemmas.reactions.Charted.{begun_at, reaction_goes}
use Rattle.fb_inspect.proofs.lemmas.walk.FailedTakings.{chart_fails, untaken_chart}
use Rattle.fb_inspect.proofs.lemmas.lines.NearStop.{basic_kept}
use Rattle.fb_inspect.proofs.lemmas.results.Errors.{of_refusal}
use Rattle.fb_inspect.proofs.lemmas.results.Refused.{err_passed, none_passed, none_refused, reads_of}
use Rattle.fb_inspect.proofs.lemmas.results.Joined.{ok_passed}
use Rattle.fb_inspect.specs.declared.refused.finding.Finding.TheVariants as why
use Rattle.fb_inspect.proofs.walk.react_basic.Goals as goal

pub returns-then-not-line-clause-refused : goal.returns-then-not-line-clause-refused
returns-then-not-line-clause-refused g c = λ look names plain kept.
    let sys = system_of c.args.fixed.now.table.now.system.now in
    let l = c.args.line.now in
    let k = sys.kind (path_at sys l.instance) in
    let old = c.args.trail.now.reading in
    let unmade : Refusal = record { number = old.number; finding = why.Unmade } in
    of_refusal (FailsBy (IsTakingAt c.args.meter.now.left look k) (IsUnbegun sys l) sys c.args.fixed.now.form l old old (g.R.Read.remaining c.args.input.now) (g.R.Read.remaining c.args.input.now)) c.refusal.result
    unmade c.refusal.ensures (inl (untaken_chart sys k c.in-Some.block.now look c.args.meter.now.left l old unmade c.in-Some.ensures.basic refl c.if-not-line.true refl))

pub returns-in_err-pass-clause-refused : goal.returns-in_err-pass-clause-refused
returns-in_err-pass-clause-refused g c = λ look names plain kept.
    let p = err_from_is_err_and c.from_residual.result c.from_residual.ensures.1 in rw (p.1, p.2) (none_refused _ _ c.in_err-pass.ensures.fault)

pub basic_type-requires : goal.basic_type-requires
basic_type-requires g c = c.requires.is.line.belongs.instance

pub unreachable-requires : goal.unreachable-requires
unreachable-requires g c =
    let sys = system_of c.args.fixed.now.table.now.system.now in
    let basic = basic_kept (sys.kind (path_at sys c.args.line.now.instance)) c.args.chart.now c.requires.seen c.requires.kept in
    c.in_default.ensures.other basic.0 basic.1

pub pass-requires : goal.pass-requires
pass-requires g c = c.requires.is

pub type_number-number-requires : goal.type_number-number-requires
type_number-number-requires g c = c.requires.is.line.belongs.instance

pub returns-in_err-pass-clause-goes : goal.returns-in_err-pass-clause-goes
returns-in_err-pass-clause-goes g c = λ _ _. ok_passed c.from_residual.result _ _ c.from_residual.ensures.1

pub returns-in_err-pass-clause-next : goal.returns-in_err-pass-clause-next
returns-in_err-pass-clause-next g c = ok_passed c.from_residual.result _ _ c.from_residual.ensures.1

pub begin-requires-clause-sound : goal.begin-requires-clause-sound
begin-requires-clause-sound g c =
    let sys = system_of c.args.fixed.now.table.now.system.now in
    let p = path_at sys c.args.line.now.instance in
    let is = chart_kept_at (sys.kind p) c.in-Some.block.now c.args.chart.now c.requires.seen c.in-Some.ensures.basic c.requires.kept in
    is.sound

pub begin-requires-clause-block : goal.begin-requires-clause-block
begin-requires-clause-block g c =
    let sys = system_of c.args.fixed.now.table.now.system.now in
    let p = path_at sys c.args.line.now.instance in
    let is = chart_kept_at (sys.kind p) c.in-Some.block.now c.args.chart.now c.requires.seen c.in-Some.ensures.basic c.requires.kept in
    is.chart.block

pub begin-requires-clause-event : goal.begin-requires-clause-event
begin-requires-clause-event g c =
    let sys = system_of c.args.fixed.now.table.now.system.now in
    let p = path_at sys c.args.line.now.instance in
    let is = chart_kept_at (sys.kind p) c.in-Some.block.now c.args.chart.now c.requires.seen c.in-Some.ensures.basic c.requires.kept in
    let x : ChartTaking = record { fixed = c.args.fixed.now; block = c.in-Some.block; number = c.type_number-number.result; line = c.args.line } in
    (chart_taking x c.requires.is.line c.if-not-line.false c.in-Some.ensures.basic is.sound (c.type_number-number.ensures c.in-Some.block.now c.in-Some.ensures.basic)).event

pub follow-requires-clause-chart : goal.follow-requires-clause-chart
follow-requires-clause-chart g c =
    let sys = system_of c.args.fixed.now.table.now.system.now in
    let p = path_at sys c.args.line.now.instance in
    let is = chart_kept_at (sys.kind p) c.in-Some.block.now c.args.chart.now c.requires.seen c.in-Some.ensures.basic c.requires.kept in
    record { block = c.begin.ensures.block; own = is.chart.own; hidden = is.chart.hidden }

pub follow-requires-clause-taking : goal.follow-requires-clause-taking
follow-requires-clause-taking g c =
    let sys = system_of c.args.fixed.now.table.now.system.now in
    let l = c.args.line.now in
    let p = path_at sys l.instance in
    let x : ChartTaking = record { fixed = c.args.fixed.now; block = c.in-Some.block; number = c.type_number-number.result; line = c.args.line } in
    let is = chart_kept_at (sys.kind p) c.in-Some.block.now c.args.chart.now c.requires.seen c.in-Some.ensures.basic c.requires.kept in
    chart_taking x c.requires.is.line c.if-not-line.false c.in-Some.ensures.basic is.sound (c.type_number-number.ensures c.in-Some.block.now c.in-Some.ensures.basic)

pub follow-requires-clause-next : goal.follow-requires-clause-next
follow-requires-clause-next g c = c.in_ok-pass.ensures.next

pub returns-clause-goes : goal.returns-clause-goes
returns-clause-goes g c = λ look kept.
    let sys = system_of c.args.fixed.now.table.now.system.now in
    let l = c.args.line.now in
    let p = path_at sys l.instance in
    let x : ChartTaking = record { fixed = c.args.fixed.now; block = c.in-Some.block; number = c.type_number-number.result; line = c.args.line } in
    let t = c.in-Some.block.now in
    let was = c.args.chart.now.state in
    let now = c.begin.new.state in
    let left = c.args.meter.now.left in
    let old = values_of was.frame in
    let e : Name = event_at t.ports.event_inputs l.event in
    let values_are = c.begin.ensures.sampled ∙ ap (λ (vs : List Value). sampled t l.event vs old) c.as_slice.ensures in
    let at = begun_at t was.state now.state was.frame now.frame (sampled t l.event l.values old) left c.begin.ensures.state values_are in
    let first : Position = record (place t c.args.chart.now left) { vars = sampled t l.event l.values old } in
    let passed = c.pass.new.self in
    let mid : Trail = record passed { marks = record (passed.marks) { charts = c.mark_taken.new.self } } in
    let before = g.R.Read.remaining c.args.input.now in
    let between = g.R.Read.remaining c.pass.new.input in
    let after = g.R.Read.remaining c.follow.new.input in
    let is = chart_kept_at (sys.kind p) t c.args.chart.now (look.blocks p) c.in-Some.ensures.basic kept in
    let taking = chart_taking x c.requires.is.line c.if-not-line.false c.in-Some.ensures.basic is.sound (c.type_number-number.ensures t c.in-Some.ensures.basic) in
    let noted = c.in_ok-note_stop.ensures.noted in
    let q : Position = place t c.follow.new.chart c.follow.new.meter.left in
    let goes =
    reaction_goes x e first q c.in_ok-end.end mid c.follow.new.trail c.note_stop.new.trail between after noted.aside noted.marked (ap (λ (r : Reading). r.line.items) c.in_ok-note_stop.ensures.reading) noted.added
    (subst (λ (m : Position). ChartGoes x (ShowsChain t (Some e)) m c.in_ok-end.end q mid c.follow.new.trail between after) at c.in_ok-end.ensures.shown) in
    chart_goes x look c.args.chart.now c.follow.new.chart left c.follow.new.meter.left c.in_ok-end.end c.args.trail.now passed c.note_stop.new.trail c.mark_taken.new.self
    before between after taking is c.in_ok-pass.ensures.charts c.mark_taken.ensures c.in_ok-pass.ensures.goes c.in_ok-pass.ensures.alone goes c.in_ok-end.ensures.chart

pub returns-in_err-end-clause-refused : goal.returns-in_err-end-clause-refused
returns-in_err-end-clause-refused g c = λ look names plain kept.
    let sys = system_of c.args.fixed.now.table.now.system.now in
    let l = c.args.line.now in
    let p = path_at sys l.instance in
    let x : ChartTaking = record { fixed = c.args.fixed.now; block = c.in-Some.block; number = c.type_number-number.result; line = c.args.line } in
    let t = c.in-Some.block.now in
    let was = c.args.chart.now.state in
    let now = c.begin.new.state in
    let left = c.args.meter.now.left in
    let old = values_of was.frame in
    let e : Name = event_at t.ports.event_inputs l.event in
    let values_are = c.begin.ensures.sampled ∙ ap (λ (vs : List Value). sampled t l.event vs old) c.as_slice.ensures in
    let at = begun_at t was.state now.state was.frame now.frame (sampled t l.event l.values old) left c.begin.ensures.state values_are in
    let first : Position = record (place t c.args.chart.now left) { vars = sampled t l.event l.values old } in
    let passed = c.pass.new.self in
    let mid : Trail = record passed { marks = record (passed.marks) { charts = c.mark_taken.new.self } } in
    let before = g.R.Read.remaining c.args.input.now in
    let between = g.R.Read.remaining c.pass.new.input in
    let after = g.R.Read.remaining c.follow.new.input in
    let is = chart_kept_at (sys.kind p) t c.args.chart.now (look.blocks p) c.in-Some.ensures.basic kept in
    let taking = chart_taking x c.requires.is.line c.if-not-line.false c.in-Some.ensures.basic is.sound (c.type_number-number.ensures t c.in-Some.ensures.basic) in
    let new : Reading = c.follow.new.trail.reading in
    let start : Chart = record (c.args.chart.now) { state = now } in
    err_passed _ _ (λ n. ChartFails x (ShowsChain t (Some e)) (place t start left) passed.reading new between after n)
    (FailsBy (IsTakingAt left look (sys.kind p)) (IsUnbegun sys l) sys x.fixed.form l c.args.trail.now.reading new before after) c.from_residual-in_err-end.ensures.1 (c.in_err-end.ensures.refused names plain)
    (λ n fails.
    inr
    (chart_fails x look c.args.chart.now c.args.chart.now left 0 c.args.trail.now.reading passed.reading new before between after n taking is
    (reads_of sys x.fixed.form l.key.tick (l ∷ []) _ c.args.trail.now passed before between c.in_ok-pass.ensures.goes c.in_ok-pass.ensures.alone)
    (reaction_fails x e first passed.reading new between after n (subst (λ (m : Position). ChartFails x (ShowsChain t (Some e)) m passed.reading new between after n) at fails))))

pub returns-in_err-note_stop-clause-refused : goal.returns-in_err-note_stop-clause-refused
returns-in_err-note_stop-clause-refused g c = λ _ _ _ _. none_passed _ _ _ c.from_residual-in_err-note_stop.ensures.1 tt

pub returns-clause-next : goal.returns-clause-next
returns-clause-next g c = subst (λ (r : Reading). IsNext c.args.fixed.now c.args.line.now.key.tick r) (sym c.in_ok-note_stop.ensures.reading) c.in_ok-end.ensures.next

pub returns-in_err-end-clause-goes : goal.returns-in_err-end-clause-goes
returns-in_err-end-clause-goes g c = λ _ _. ok_passed c.from_residual-in_err-end.result _ _ c.from_residual-in_err-end.ensures.1

pub returns-in_err-end-clause-next : goal.returns-in_err-end-clause-next
returns-in_err-end-clause-next g c = ok_passed c.from_residual-in_err-end.result _ _ c.from_residual-in_err-end.ensures.1

pub returns-in_err-note_stop-clause-goes : goal.returns-in_err-note_stop-clause-goes
returns-in_err-note_stop-clause-goes g c = λ _ _. ok_passed c.from_residual-in_err-note_stop.result _ _ c.from_residual-in_err-note_stop.ensures.1

pub returns-in_err-note_stop-clause-next : goal.returns-in_err-note_stop-clause-next
returns-in_err-note_stop-clause-next g c = ok_passed c.from_residual-in_err-note_stop.result _ _ c.from_residual-in_err-note_stop.ensures.1
