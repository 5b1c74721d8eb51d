use Rattle.fb_inspect.proofs.lemmas.Common.{◌≡◌, ◌<◌, ◌++◌, ℕ, length, List, None, Ok, Option, Some, refl, sym, ap, subst, ◌∙◌, arith, IfNone, IfSome, option_map, Position, actions_of, trial_at, Name, event_at, Reason, values_of, state_at, Acting, Clears_by, ShowsChain, ChartGoes, place, shown_text, Chart, Trail, ChartFails, Reading}
use Rattle.std.specs.Prelude.{OnSome}
use Rattle.fb_coverage.specs.Sets.{with_cleared}
use Rattle.fb_ecc.specs.Steps.{IsFirst, clearing_index, trial_by}
use Rattle.fb_ecc.specs.Trials.{transition_at}
use Rattle.fb_inspect.specs.Markings.{PieceMarks}
use Rattle.fb_inspect.specs.walk.Notes.{lost_if}
use Rattle.fb_inspect.specs.walk.OfWalk.{IsNext}
use Rattle.fb_inspect.proofs.lemmas.reactions.Charted.{link_failed, link_rested, link_stopped, link_went}
use Rattle.fb_inspect.proofs.lemmas.marks.Marked.{first_like, state_entered}
use Rattle.fb_inspect.proofs.lemmas.reactions.Placed.{entered_at, lost_any, marks_any, moved_at}
use Rattle.fb_inspect.proofs.lemmas.reactions.ChartFailing.{link_fails}
use Rattle.fb_inspect.proofs.lemmas.results.Refused.{err_passed, none_passed}
use Rattle.fb_inspect.proofs.lemmas.results.Joined.{ok_passed}
use Rattle.fb_inspect.proofs.walk.charts.link.Goals as goal

pub returns-in-Err-clause-linked : goal.returns-in-Err-clause-linked
returns-in-Err-clause-linked g c =
    let x = c.args.taking.now in
    let t = x.block.now in
    let was = c.args.chart.now.state in
    let now = c.clear.new.state in
    let at = moved_at t was.state now.state was.frame now.frame c.args.meter.now.left c.clear.new.meter.left c.in-Err.ensures.stopped c.in-Err.ensures.frame in
    let cleared : Chart = record (c.args.chart.now) { state = now } in
    link_failed x (option_map (event_at t.ports.event_inputs) c.args.present) c.clear.new.meter.left c.in-Err.reason (place t c.args.chart.now c.args.meter.now.left)
    (place t cleared c.clear.new.meter.left) c.args.trail.now (g.R.Read.remaining c.args.input.now) c.in-Err.ensures.trial at refl

pub returns-in_ok-note_lost-in-Ok-None-clause-linked :
    goal.returns-in_ok-note_lost-in-Ok-None-clause-linked
returns-in_ok-note_lost-in-Ok-None-clause-linked g c =
    let x = c.args.taking.now in
    let t = x.block.now in
    let was = c.args.chart.now.state in
    let now = c.clear.new.state in
    let trail : Trail = c.args.trail.now in
    let old : List ℕ = trail.page.text.items in
    let f = event_at t.ports.event_inputs in
    let p : Position = place t c.args.chart.now c.args.meter.now.left in
    let cleared : Chart = record (c.args.chart.now) { state = now } in
    let noted = c.in_ok-note_lost-in-Ok-None.ensures.noted in
    let stays = subst (λ (o : Option ℕ). IfNone o (now.state ≡ was.state)) c.in-Ok-None.field-0-is c.in-Ok-None.ensures.stays in
    let tried = subst (λ (o : Option ℕ). trial_at t (option_map f c.args.present) p ≡ trial_by t (Ok o) c.clear.new.meter.left) c.in-Ok-None.field-0-is c.in-Ok-None.ensures.trial in
    let at = moved_at t was.state now.state was.frame now.frame c.args.meter.now.left c.clear.new.meter.left stays c.in-Ok-None.ensures.frame in
    link_rested x (option_map f c.args.present) c.clear.new.meter.left p (place t cleared c.clear.new.meter.left) trail c.note_lost.new.trail (g.R.Read.remaining c.args.input.now) tried at refl noted.aside
    (noted.marked ∙ marks_any c.args.present f trail.marks.charts) (ap (λ (r : Reading). r.line.items) c.in_ok-note_lost-in-Ok-None.ensures.reading)
    (noted.added
    ∙ ap (λ (n : Name). old ++ shown_text trail.is_shown (lost_if c.args.present n)) (c.state_name-state.ensures ∙ ap (state_at t) stays)
    ∙ ap (λ (z : List ℕ). old ++ shown_text trail.is_shown z) (lost_any c.args.present f (state_at t was.state)))

pub returns-in-Some-clause-linked : goal.returns-in-Some-clause-linked
returns-in-Some-clause-linked g c =
    let x = c.args.taking.now in
    let t = x.block.now in
    let was = c.args.chart.now.state in
    let now = c.clear.new.state in
    let trail : Trail = c.args.trail.now in
    let present = option_map (event_at t.ports.event_inputs) c.args.present in
    let p : Position = place t c.args.chart.now c.args.meter.now.left in
    let cleared : Chart = record (c.args.chart.now) { state = now } in
    let between : Trail = c.note_cleared.new.trail in
    let noted = c.in_ok-note_cleared-in-Ok-Some.ensures.noted in
    let y = transition_at t c.in-Ok-Some.index in
    let m : Position = place t cleared c.clear.new.meter.left in
    let q : Position = place t c.perform_all.new.chart c.perform_all.new.meter.left in
    let left = g.R.Read.remaining c.args.input.now in
    let after = g.R.Read.remaining c.perform_all.new.input in
    let tried = subst (λ (o : Option ℕ). trial_at t present p ≡ trial_by t (Ok o) c.clear.new.meter.left) c.in-Ok-Some.field-0-is c.in-Ok-Some.ensures.trial in
    let first = subst (λ (o : Option ℕ). IfSome o (IsFirst t (state_at t was.state) present (values_of was.frame))) c.in-Ok-Some.field-0-is c.in-Ok-Some.ensures.first in
    let entered = subst (λ (o : Option ℕ). IfSome o (λ k. state_at t now.state ≡ (transition_at t k).to)) c.in-Ok-Some.field-0-is c.in-Ok-Some.ensures.entered in
    let within = subst (λ (o : Option ℕ). IfSome o (λ k. k < length t.transitions)) c.in-Ok-Some.field-0-is c.in-Ok-Some.ensures.within in
    let at_index = subst (λ (o : Option ℕ). IfSome o (λ k. clearing_index (state_at t was.state) 0 t.transitions present (values_of was.frame) ≡ Some k)) c.in-Ok-Some.field-0-is c.in-Ok-Some.ensures.index in
    let like = first_like (state_at t was.state) present (values_of was.frame) t c.in-Ok-Some.index at_index in
    let target = state_entered t now.state c.in-Ok-Some.index y.to c.requires.taking.sound within c.in-Ok-Some.ensures.block.state entered in
    let line = ap (λ (r : Reading). r.line.items) c.in_ok-note_cleared-in-Ok-Some.ensures.reading in
    let mark : PieceMarks t x.number x.line.now.event (Clears_by y) trail.marks.charts between.marks.charts =
    (c.in-Ok-Some.index, like, noted.marked ∙ ap (λ (s : ℕ). with_cleared x.number c.in-Ok-Some.index s x.line.now.event trail.marks.charts) (sym target)) in
    let at = entered_at t was.state now.state was.frame now.frame c.args.meter.now.left c.clear.new.meter.left y.to entered c.in-Ok-Some.ensures.frame in
    link_stopped x present y y.to c.clear.new.meter.left c.in-Some.reason p m q trail between c.perform_all.new.trail left after tried first noted.aside mark line noted.added at
    (subst (λ (n : Name). ChartGoes x (Acting t (actions_of t n)) m (Some c.in-Some.reason) q between c.perform_all.new.trail left after) entered
    (subst (λ (o : Option Reason). ChartGoes x (Acting t (actions_of t (state_at t now.state))) m o q between c.perform_all.new.trail left after) c.in-Some.is
    c.in_ok-reason-in-Ok-Some.ensures.shown))

pub returns-in-None-clause-linked : goal.returns-in-None-clause-linked
returns-in-None-clause-linked g c =
    let x = c.args.taking.now in
    let t = x.block.now in
    let was = c.args.chart.now.state in
    let now = c.clear.new.state in
    let trail : Trail = c.args.trail.now in
    let present = option_map (event_at t.ports.event_inputs) c.args.present in
    let p : Position = place t c.args.chart.now c.args.meter.now.left in
    let cleared : Chart = record (c.args.chart.now) { state = now } in
    let between : Trail = c.note_cleared.new.trail in
    let noted = c.in_ok-note_cleared-in-Ok-Some.ensures.noted in
    let y = transition_at t c.in-Ok-Some.index in
    let m : Position = place t cleared c.clear.new.meter.left in
    let q : Position = place t c.perform_all.new.chart c.perform_all.new.meter.left in
    let left = g.R.Read.remaining c.args.input.now in
    let after = g.R.Read.remaining c.perform_all.new.input in
    let tried = subst (λ (o : Option ℕ). trial_at t present p ≡ trial_by t (Ok o) c.clear.new.meter.left) c.in-Ok-Some.field-0-is c.in-Ok-Some.ensures.trial in
    let first = subst (λ (o : Option ℕ). IfSome o (IsFirst t (state_at t was.state) present (values_of was.frame))) c.in-Ok-Some.field-0-is c.in-Ok-Some.ensures.first in
    let entered = subst (λ (o : Option ℕ). IfSome o (λ k. state_at t now.state ≡ (transition_at t k).to)) c.in-Ok-Some.field-0-is c.in-Ok-Some.ensures.entered in
    let within = subst (λ (o : Option ℕ). IfSome o (λ k. k < length t.transitions)) c.in-Ok-Some.field-0-is c.in-Ok-Some.ensures.within in
    let at_index = subst (λ (o : Option ℕ). IfSome o (λ k. clearing_index (state_at t was.state) 0 t.transitions present (values_of was.frame) ≡ Some k)) c.in-Ok-Some.field-0-is c.in-Ok-Some.ensures.index in
    let like = first_like (state_at t was.state) present (values_of was.frame) t c.in-Ok-Some.index at_index in
    let target = state_entered t now.state c.in-Ok-Some.index y.to c.requires.taking.sound within c.in-Ok-Some.ensures.block.state entered in
    let line = ap (λ (r : Reading). r.line.items) c.in_ok-note_cleared-in-Ok-Some.ensures.reading in
    let mark : PieceMarks t x.number x.line.now.event (Clears_by y) trail.marks.charts between.marks.charts =
    (c.in-Ok-Some.index, like, noted.marked ∙ ap (λ (s : ℕ). with_cleared x.number c.in-Ok-Some.index s x.line.now.event trail.marks.charts) (sym target)) in
    let at = entered_at t was.state now.state was.frame now.frame c.args.meter.now.left c.clear.new.meter.left y.to entered c.in-Ok-Some.ensures.frame in
    link_went x present y y.to c.clear.new.meter.left p m q trail between c.perform_all.new.trail left after tried first noted.aside mark line noted.added at refl
    (subst (λ (n : Name). ChartGoes x (Acting t (actions_of t n)) m None q between c.perform_all.new.trail left after) entered
    (subst (λ (o : Option Reason). ChartGoes x (Acting t (actions_of t (state_at t now.state))) m o q between c.perform_all.new.trail left after) c.in-None.is
    c.in_ok-reason-in-Ok-Some.ensures.shown))

pub returns-in_err-reason-in-Ok-Some-clause-refused : goal.returns-in_err-reason-in-Ok-Some-clause-refused
returns-in_err-reason-in-Ok-Some-clause-refused g c = λ names plain.
    let x = c.args.taking.now in
    let t = x.block.now in
    let was = c.args.chart.now.state in
    let now = c.clear.new.state in
    let trail : Trail = c.args.trail.now in
    let present = option_map (event_at t.ports.event_inputs) c.args.present in
    let p : Position = place t c.args.chart.now c.args.meter.now.left in
    let cleared : Chart = record (c.args.chart.now) { state = now } in
    let y = transition_at t c.in-Ok-Some.index in
    let m : Position = place t cleared c.clear.new.meter.left in
    let new : Reading = c.perform_all.new.trail.reading in
    let left = g.R.Read.remaining c.args.input.now in
    let after = g.R.Read.remaining c.perform_all.new.input in
    let tried = subst (λ (o : Option ℕ). trial_at t present p ≡ trial_by t (Ok o) c.clear.new.meter.left) c.in-Ok-Some.field-0-is c.in-Ok-Some.ensures.trial in
    let first = subst (λ (o : Option ℕ). IfSome o (IsFirst t (state_at t was.state) present (values_of was.frame))) c.in-Ok-Some.field-0-is c.in-Ok-Some.ensures.first in
    let entered = subst (λ (o : Option ℕ). IfSome o (λ k. state_at t now.state ≡ (transition_at t k).to)) c.in-Ok-Some.field-0-is c.in-Ok-Some.ensures.entered in
    let at = entered_at t was.state now.state was.frame now.frame c.args.meter.now.left c.clear.new.meter.left y.to entered c.in-Ok-Some.ensures.frame in
    err_passed _ _ (λ n. ChartFails x (Acting t (actions_of t (state_at t now.state))) m c.note_cleared.new.trail.reading new left after n)
    (λ n. ChartFails x (ShowsChain t present) p trail.reading new left after n) c.from_residual-in_err-reason-in-Ok-Some.ensures.1 (c.in_err-reason-in-Ok-Some.ensures.refused names plain)
    (λ n fails. link_fails x present y y.to c.clear.new.meter.left p m trail.reading new left after n tried first at
    (subst (λ (s : Name). ChartFails x (Acting t (actions_of t s)) m trail.reading new left after n) entered
    (subst (λ (r : Reading). ChartFails x (Acting t (actions_of t (state_at t now.state))) m r new left after n) c.in_ok-note_cleared-in-Ok-Some.ensures.reading fails)))

pub perform_all-requires-clause-next : goal.perform_all-requires-clause-next
perform_all-requires-clause-next g c =
    subst (λ (r : Reading). IsNext c.args.taking.now.fixed c.args.taking.now.line.now.key.tick r) (sym c.in_ok-note_cleared-in-Ok-Some.ensures.reading) c.requires.next

pub returns-in_ok-note_lost-in-Ok-None-clause-next :
    goal.returns-in_ok-note_lost-in-Ok-None-clause-next
returns-in_ok-note_lost-in-Ok-None-clause-next g c =
    subst (λ (r : Reading). IsNext c.args.taking.now.fixed c.args.taking.now.line.now.key.tick r) (sym c.in_ok-note_lost-in-Ok-None.ensures.reading) c.requires.next

pub note_cleared-requires : goal.note_cleared-requires
note_cleared-requires g c = subst (λ (o : Option ℕ). IfSome o (λ k. k < length c.args.taking.now.block.now.transitions)) c.in-Ok-Some.field-0-is c.in-Ok-Some.ensures.within

pub perform_all-requires-clause-chart : goal.perform_all-requires-clause-chart
perform_all-requires-clause-chart g c = record { block = c.in-Ok-Some.ensures.block; own = c.requires.chart.own; hidden = c.requires.chart.hidden }

pub returns-in-Err-clause-chart : goal.returns-in-Err-clause-chart
returns-in-Err-clause-chart g c = record { block = c.in-Err.ensures.block; own = c.requires.chart.own; hidden = c.requires.chart.hidden }

pub returns-in-Err-clause-less : goal.returns-in-Err-clause-less
returns-in-Err-clause-less g c = λ same. absurd (cc)

pub returns-in-Err-clause-fewer : goal.returns-in-Err-clause-fewer
returns-in-Err-clause-fewer g c = c.in-Err.ensures.fewer

pub returns-in-Err-clause-next : goal.returns-in-Err-clause-next
returns-in-Err-clause-next g c = c.requires.next

pub returns-in_ok-note_lost-in-Ok-None-clause-chart : goal.returns-in_ok-note_lost-in-Ok-None-clause-chart
returns-in_ok-note_lost-in-Ok-None-clause-chart g c = record { block = c.in-Ok-None.ensures.block; own = c.requires.chart.own; hidden = c.requires.chart.hidden }

pub returns-in_ok-note_lost-in-Ok-None-clause-less : goal.returns-in_ok-note_lost-in-Ok-None-clause-less
returns-in_ok-note_lost-in-Ok-None-clause-less g c = λ same. absurd (cc)

pub returns-in_ok-note_lost-in-Ok-None-clause-fewer : goal.returns-in_ok-note_lost-in-Ok-None-clause-fewer
returns-in_ok-note_lost-in-Ok-None-clause-fewer g c = c.in-Ok-None.ensures.fewer

pub returns-in_err-note_lost-in-Ok-None-clause-linked : goal.returns-in_err-note_lost-in-Ok-None-clause-linked
returns-in_err-note_lost-in-Ok-None-clause-linked g c = ok_passed c.from_residual.result _ _ c.from_residual.ensures.1

pub returns-in_err-note_lost-in-Ok-None-clause-chart : goal.returns-in_err-note_lost-in-Ok-None-clause-chart
returns-in_err-note_lost-in-Ok-None-clause-chart g c = ok_passed c.from_residual.result _ _ c.from_residual.ensures.1

pub returns-in_err-note_lost-in-Ok-None-clause-less : goal.returns-in_err-note_lost-in-Ok-None-clause-less
returns-in_err-note_lost-in-Ok-None-clause-less g c = ok_passed c.from_residual.result _ _ c.from_residual.ensures.1

pub returns-in_err-note_lost-in-Ok-None-clause-next : goal.returns-in_err-note_lost-in-Ok-None-clause-next
returns-in_err-note_lost-in-Ok-None-clause-next g c = ok_passed c.from_residual.result _ _ c.from_residual.ensures.1

pub returns-in_err-note_lost-in-Ok-None-clause-refused : goal.returns-in_err-note_lost-in-Ok-None-clause-refused
returns-in_err-note_lost-in-Ok-None-clause-refused g c = λ names plain. none_passed _ _ _ c.from_residual.ensures.1 tt

pub returns-in_err-note_cleared-in-Ok-Some-clause-linked : goal.returns-in_err-note_cleared-in-Ok-Some-clause-linked
returns-in_err-note_cleared-in-Ok-Some-clause-linked g c = ok_passed c.from_residual-in_err-note_cleared-in-Ok-Some.result _ _ c.from_residual-in_err-note_cleared-in-Ok-Some.ensures.1

pub returns-in_err-note_cleared-in-Ok-Some-clause-chart : goal.returns-in_err-note_cleared-in-Ok-Some-clause-chart
returns-in_err-note_cleared-in-Ok-Some-clause-chart g c = ok_passed c.from_residual-in_err-note_cleared-in-Ok-Some.result _ _ c.from_residual-in_err-note_cleared-in-Ok-Some.ensures.1

pub returns-in_err-note_cleared-in-Ok-Some-clause-less : goal.returns-in_err-note_cleared-in-Ok-Some-clause-less
returns-in_err-note_cleared-in-Ok-Some-clause-less g c = ok_passed c.from_residual-in_err-note_cleared-in-Ok-Some.result _ _ c.from_residual-in_err-note_cleared-in-Ok-Some.ensures.1

pub returns-in_err-note_cleared-in-Ok-Some-clause-next : goal.returns-in_err-note_cleared-in-Ok-Some-clause-next
returns-in_err-note_cleared-in-Ok-Some-clause-next g c = ok_passed c.from_residual-in_err-note_cleared-in-Ok-Some.result _ _ c.from_residual-in_err-note_cleared-in-Ok-Some.ensures.1

pub returns-in_err-note_cleared-in-Ok-Some-clause-refused : goal.returns-in_err-note_cleared-in-Ok-Some-clause-refused
returns-in_err-note_cleared-in-Ok-Some-clause-refused g c = λ names plain. none_passed _ _ _ c.from_residual-in_err-note_cleared-in-Ok-Some.ensures.1 tt

pub returns-in_err-reason-in-Ok-Some-clause-linked : goal.returns-in_err-reason-in-Ok-Some-clause-linked
returns-in_err-reason-in-Ok-Some-clause-linked g c = ok_passed c.from_residual-in_err-reason-in-Ok-Some.result _ _ c.from_residual-in_err-reason-in-Ok-Some.ensures.1

pub returns-in_err-reason-in-Ok-Some-clause-chart : goal.returns-in_err-reason-in-Ok-Some-clause-chart
returns-in_err-reason-in-Ok-Some-clause-chart g c = ok_passed c.from_residual-in_err-reason-in-Ok-Some.result _ _ c.from_residual-in_err-reason-in-Ok-Some.ensures.1

pub returns-in_err-reason-in-Ok-Some-clause-less : goal.returns-in_err-reason-in-Ok-Some-clause-less
returns-in_err-reason-in-Ok-Some-clause-less g c = ok_passed c.from_residual-in_err-reason-in-Ok-Some.result _ _ c.from_residual-in_err-reason-in-Ok-Some.ensures.1

pub returns-in_err-reason-in-Ok-Some-clause-next : goal.returns-in_err-reason-in-Ok-Some-clause-next
returns-in_err-reason-in-Ok-Some-clause-next g c = ok_passed c.from_residual-in_err-reason-in-Ok-Some.result _ _ c.from_residual-in_err-reason-in-Ok-Some.ensures.1

pub returns-in_err-note_lost-in-Ok-None-clause-fewer : goal.returns-in_err-note_lost-in-Ok-None-clause-fewer
returns-in_err-note_lost-in-Ok-None-clause-fewer g c = c.in-Ok-None.ensures.fewer

pub returns-in_err-note_cleared-in-Ok-Some-clause-fewer : goal.returns-in_err-note_cleared-in-Ok-Some-clause-fewer
returns-in_err-note_cleared-in-Ok-Some-clause-fewer g c = c.in-Ok-Some.ensures.fewer

pub returns-in_err-reason-in-Ok-Some-clause-fewer : goal.returns-in_err-reason-in-Ok-Some-clause-fewer
returns-in_err-reason-in-Ok-Some-clause-fewer g c = omega (arith, c.perform_all.ensures.fewer, c.in-Ok-Some.ensures.fewer)

pub returns-in-Some-clause-fewer : goal.returns-in-Some-clause-fewer
returns-in-Some-clause-fewer g c = omega (arith, c.perform_all.ensures.fewer, c.in-Ok-Some.ensures.fewer)

pub returns-in-None-clause-fewer : goal.returns-in-None-clause-fewer
returns-in-None-clause-fewer g c = omega (arith, c.perform_all.ensures.fewer, c.in-Ok-Some.ensures.fewer)

pub returns-in-Some-clause-chart : goal.returns-in-Some-clause-chart
returns-in-Some-clause-chart g c = c.in_ok-reason-in-Ok-Some.ensures.chart

pub returns-in-Some-clause-next : goal.returns-in-Some-clause-next
returns-in-Some-clause-next g c = c.in_ok-reason-in-Ok-Some.ensures.next

pub returns-in-None-clause-chart : goal.returns-in-None-clause-chart
returns-in-None-clause-chart g c = c.in_ok-reason-in-Ok-Some.ensures.chart

pub returns-in-None-clause-next : goal.returns-in-None-clause-next
returns-in-None-clause-next g c = c.in_ok-reason-in-Ok-Some.ensures.next

pub returns-in-Some-clause-less : goal.returns-in-Some-clause-less
returns-in-Some-clause-less g c = λ same. absurd (cc)

pub returns-in-None-clause-less : goal.returns-in-None-clause-less
returns-in-None-clause-less g c = λ same.
    let less = subst (λ (o : Option ℕ). OnSome o (c.clear.new.meter.left < c.args.meter.now.left)) c.in-Ok-Some.field-0-is c.in-Ok-Some.ensures.less in
    omega (arith, less, c.perform_all.ensures.fewer)
