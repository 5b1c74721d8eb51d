use Rattle.fb_inspect.proofs.lemmas.Common.{[], ◌∷◌, None, inl, inr, refl, subst, sym, ◌∙◌, system_of, path_at, IsTakingAt, emissions_by, EmitsFail, FailsBy, IsUnbegun, taken_reaction, IsKept, Remembered}
use Rattle.fb_inspect.specs.walk.OfWalk.{CanReact}
use Rattle.fb_inspect.specs.Refusals.{IsNotDue}
use Rattle.fb_inspect.specs.walk.Walking.{KeptGoes}
use Rattle.fb_inspect.proofs.lemmas.walk.FailedTakings.{block_fails, not_due}
use Rattle.fb_inspect.proofs.lemmas.results.Joined.{both_joined, err_joined, ok_joined, ok_passed, on_joined}
use Rattle.fb_inspect.proofs.lemmas.results.Refused.{err_none, err_refused, none_passed, reads_of}
use Rattle.fb_inspect.proofs.lemmas.walk.Walked.{composite_goes, event_goes, event_kept_at, event_line, expired_goes}
use Rattle.fb_inspect.proofs.walk.react_kept.Goals as goal

pub expire_block-requires-clause-line : goal.expire_block-requires-clause-line
expire_block-requires-clause-line g c =
    event_line (system_of c.args.fixed.now.table.now.system.now) c.args.fixed.now.form c.in-Event.block c.args.line.now c.args.trail.now.reading.line.items
    (subst (λ (r : Remembered). CanReact c.args.fixed.now r c.args.line.now c.args.trail.now.reading.line.items) c.in-Event.is c.requires)

pub expire_block-requires-clause-text : goal.expire_block-requires-clause-text
expire_block-requires-clause-text g c = c.requires.is

pub returns-in-Event-clause-goes : goal.returns-in-Event-clause-goes
returns-in-Event-clause-goes g c = λ look kept.
    let sys = system_of c.args.fixed.now.table.now.system.now in
    let form = c.args.fixed.now.form in
    let b = c.in-Event.block in
    let l = c.args.line.now in
    let p = path_at sys l.instance in
    let line = event_line sys form b l c.args.trail.now.reading.line.items (subst (λ (r : Remembered). CanReact c.args.fixed.now r l c.args.trail.now.reading.line.items) c.in-Event.is c.requires) in
    let own = subst (λ (r : Remembered). IsKept (sys.kind p) r (look.blocks p)) c.in-Event.is kept in
    ok_joined c.and.result c.expire_block.result None _ _ c.and.ensures (c.expire_block.ensures.takes (look.blocks p) (event_kept_at (sys.kind p) b (look.blocks p) own))
    (λ goes.
    expired_goes c.args.fixed.now.table.now.system.now.library.blocks sys form look c.args.meter.now.left l b c.expire_block.new.block line.kind c.args.trail.now c.expire_block.new.trail (g.R.Read.remaining c.args.input.now) (g.R.Read.remaining c.expire_block.new.input)
    c.expire_block.ensures.charts goes)

pub returns-in-Event-clause-refused : goal.returns-in-Event-clause-refused
returns-in-Event-clause-refused g c = λ look names plain kept.
    let sys = system_of c.args.fixed.now.table.now.system.now in
    let form = c.args.fixed.now.form in
    let b = c.in-Event.block in
    let l = c.args.line.now in
    let p = path_at sys l.instance in
    let left = c.args.meter.now.left in
    let old = c.args.trail.now.reading in
    let new = c.expire_block.new.trail.reading in
    let line = event_line sys form b l old.line.items (subst (λ (r : Remembered). CanReact c.args.fixed.now r l old.line.items) c.in-Event.is c.requires) in
    let own = subst (λ (r : Remembered). IsKept (sys.kind p) r (look.blocks p)) c.in-Event.is kept in
    err_joined c.and.result c.expire_block.result None _ c.and.ensures
    (err_refused c.expire_block.result (IsNotDue sys b.state.kind (look.blocks p) l old new)
    (FailsBy (IsTakingAt left look (sys.kind p)) (IsUnbegun sys l) sys form l old new (g.R.Read.remaining c.args.input.now) (g.R.Read.remaining c.expire_block.new.input))
    (c.expire_block.ensures.refused (look.blocks p) (event_kept_at (sys.kind p) b (look.blocks p) own) names plain)
    (λ n due. inl (not_due sys (sys.kind p) b.state.kind look left l old new n line.kind refl c.if-not-line.true due)))

pub returns-in-Event-clause-next : goal.returns-in-Event-clause-next
returns-in-Event-clause-next g c = on_joined c.and.result c.expire_block.result None _ c.and.ensures c.expire_block.ensures.next

pub react_block-requires-clause-line : goal.react_block-requires-clause-line
react_block-requires-clause-line g c =
    event_line (system_of c.args.fixed.now.table.now.system.now) c.args.fixed.now.form c.in-Event.block c.args.line.now c.args.trail.now.reading.line.items
    (subst (λ (r : Remembered). CanReact c.args.fixed.now r c.args.line.now c.args.trail.now.reading.line.items) c.in-Event.is c.requires)

pub returns-in_ok-pass-in-Event-2-clause-goes : goal.returns-in_ok-pass-in-Event-2-clause-goes
returns-in_ok-pass-in-Event-2-clause-goes g c = λ look kept.
    let sys = system_of c.args.fixed.now.table.now.system.now in
    let form = c.args.fixed.now.form in
    let b = c.in-Event.block in
    let l = c.args.line.now in
    let p = path_at sys l.instance in
    let line = event_line sys form b l c.args.trail.now.reading.line.items (subst (λ (r : Remembered). CanReact c.args.fixed.now r l c.args.trail.now.reading.line.items) c.in-Event.is c.requires) in
    let own = subst (λ (r : Remembered). IsKept (sys.kind p) r (look.blocks p)) c.in-Event.is kept in
    ok_joined c.and-in-Event-2.result c.react_block.result None _ _ c.and-in-Event-2.ensures (c.react_block.ensures.takes (look.blocks p) (event_kept_at (sys.kind p) b (look.blocks p) own))
    (λ goes.
    event_goes c.args.fixed.now.table.now.system.now.library.blocks sys form look c.args.meter.now.left l b c.react_block.new.block line.kind c.args.trail.now c.pass.new.self c.react_block.new.trail (g.R.Read.remaining c.args.input.now)
    (g.R.Read.remaining c.pass.new.input) (g.R.Read.remaining c.react_block.new.input) c.if-not-line.false (c.react_block.ensures.charts ∙ c.in_ok-pass-in-Event-2.ensures.charts) c.in_ok-pass-in-Event-2.ensures.goes c.in_ok-pass-in-Event-2.ensures.alone goes)

pub returns-in_ok-pass-in-Event-2-clause-refused : goal.returns-in_ok-pass-in-Event-2-clause-refused
returns-in_ok-pass-in-Event-2-clause-refused g c = λ look names plain kept.
    let sys = system_of c.args.fixed.now.table.now.system.now in
    let form = c.args.fixed.now.form in
    let b = c.in-Event.block in
    let l = c.args.line.now in
    let p = path_at sys l.instance in
    let left = c.args.meter.now.left in
    let old = c.args.trail.now in
    let mid = c.pass.new.self in
    let new = c.react_block.new.trail.reading in
    let before = g.R.Read.remaining c.args.input.now in
    let between = g.R.Read.remaining c.pass.new.input in
    let after = g.R.Read.remaining c.react_block.new.input in
    let line = event_line sys form b l old.reading.line.items (subst (λ (r : Remembered). CanReact c.args.fixed.now r l old.reading.line.items) c.in-Event.is c.requires) in
    let own = subst (λ (r : Remembered). IsKept (sys.kind p) r (look.blocks p)) c.in-Event.is kept in
    err_joined c.and-in-Event-2.result c.react_block.result None _ c.and-in-Event-2.ensures
    (err_refused c.react_block.result (EmitsFail sys form l (emissions_by b.state.kind (taken_reaction sys b.state.kind (look.blocks p) l)) mid.reading new between after)
    (FailsBy (IsTakingAt left look (sys.kind p)) (IsUnbegun sys l) sys form l old.reading new before after)
    (c.react_block.ensures.refused (look.blocks p) (event_kept_at (sys.kind p) b (look.blocks p) own) names plain)
    (λ n fails.
    inr
    (block_fails sys form look left l b.state.kind old.reading mid.reading new before between after n line.kind c.if-not-line.false
    (reads_of sys form l.key.tick (l ∷ []) _ old mid before between c.in_ok-pass-in-Event-2.ensures.goes c.in_ok-pass-in-Event-2.ensures.alone) fails)))

pub returns-in_ok-pass-in-Event-2-clause-next : goal.returns-in_ok-pass-in-Event-2-clause-next
returns-in_ok-pass-in-Event-2-clause-next g c = on_joined c.and-in-Event-2.result c.react_block.result None _ c.and-in-Event-2.ensures c.react_block.ensures.next

pub returns-in_err-pass-in-Event-2-clause-goes : goal.returns-in_err-pass-in-Event-2-clause-goes
returns-in_err-pass-in-Event-2-clause-goes g c = λ _ _. ok_passed c.from_residual.result _ _ c.from_residual.ensures.1

pub returns-in_err-pass-in-Event-2-clause-next : goal.returns-in_err-pass-in-Event-2-clause-next
returns-in_err-pass-in-Event-2-clause-next g c = ok_passed c.from_residual.result _ _ c.from_residual.ensures.1

pub returns-in_err-pass-in-Event-2-clause-refused : goal.returns-in_err-pass-in-Event-2-clause-refused
returns-in_err-pass-in-Event-2-clause-refused g c = λ _ _ _ _. none_passed _ _ _ c.from_residual.ensures.1 c.in_err-pass-in-Event-2.ensures.fault

pub returns-in-Composite-clause-goes : goal.returns-in-Composite-clause-goes
returns-in-Composite-clause-goes g c = λ look kept.
    let sys = system_of c.args.fixed.now.table.now.system.now in
    let form = c.args.fixed.now.form in
    let l = c.args.line.now in
    let p = path_at sys l.instance in
    let left = c.args.meter.now.left in
    let before = g.R.Read.remaining c.args.input.now in
    let after = g.R.Read.remaining c.pass-in-Composite.new.input in
    let types = c.args.fixed.now.table.now.system.now.library.blocks in
    both_joined c.and-in-Composite.result c.pass-in-Composite.result None _ _ _ c.and-in-Composite.ensures c.pass-in-Composite.ensures.goes c.pass-in-Composite.ensures.alone
    (λ goes alone.
    subst (λ (r : Remembered). KeptGoes types sys form look left l None r left c.args.trail.now c.pass-in-Composite.new.self before after) (sym c.in-Composite.is)
    (composite_goes types sys form look left l c.args.trail.now c.pass-in-Composite.new.self before after c.pass-in-Composite.ensures.charts
    (subst (λ (r : Remembered). IsKept (sys.kind p) r (look.blocks p)) c.in-Composite.is kept) goes alone))

pub returns-in-Composite-clause-refused : goal.returns-in-Composite-clause-refused
returns-in-Composite-clause-refused g c = λ look names plain kept.
    err_joined c.and-in-Composite.result c.pass-in-Composite.result None _ c.and-in-Composite.ensures (err_none c.pass-in-Composite.result _ c.pass-in-Composite.ensures.fault)

pub returns-in-Composite-clause-next : goal.returns-in-Composite-clause-next
returns-in-Composite-clause-next g c = on_joined c.and-in-Composite.result c.pass-in-Composite.result None _ c.and-in-Composite.ensures c.pass-in-Composite.ensures.next

pub react_basic-requires : goal.react_basic-requires
react_basic-requires g c =
    subst (λ (r : Remembered). CanReact c.args.fixed.now r c.args.line.now c.args.trail.now.reading.line.items) c.in-Basic.is c.requires

pub pass-requires : goal.pass-requires
pass-requires g c = c.requires.is

pub pass-requires-in-Composite : goal.pass-requires-in-Composite
pass-requires-in-Composite g c = c.requires.is

pub returns-in-Basic-clause-goes : goal.returns-in-Basic-clause-goes
returns-in-Basic-clause-goes g c = λ look kept.
    let sys = system_of c.args.fixed.now.table.now.system.now in
    let p = path_at sys c.args.line.now.instance in
    c.react_basic.ensures.goes look (subst (λ (r : Remembered). IsKept (sys.kind p) r (look.blocks p)) c.in-Basic.is kept)

pub returns-in-Basic-clause-refused : goal.returns-in-Basic-clause-refused
returns-in-Basic-clause-refused g c = λ look names plain kept.
    let sys = system_of c.args.fixed.now.table.now.system.now in
    let p = path_at sys c.args.line.now.instance in
    c.react_basic.ensures.refused look names plain (subst (λ (r : Remembered). IsKept (sys.kind p) r (look.blocks p)) c.in-Basic.is kept)

pub returns-in-Basic-clause-next : goal.returns-in-Basic-clause-next
returns-in-Basic-clause-next g c = c.react_basic.ensures.next
