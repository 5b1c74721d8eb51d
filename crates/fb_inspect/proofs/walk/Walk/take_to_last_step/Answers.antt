use Rattle.fb_inspect.proofs.lemmas.Common.{Vec, system_of, ◌≡◌, ◌<◌, ℕ, List, [], Some, ap, inl, inr, refl, subst, sym, line_of, steps_stop, IsNext, arith, err_from_is_err_and, Steps, limited, last_look, IsLookOf, unread, Remembered, IsTaking, Look, left_at, most, opening_look, FailsBy, IsUnstarted, IsWrongLine, Next, Trail, left_of, TickSteps, ◌≤◌}
use Rattle.fb_inspect.proofs.lemmas.walk.OneStep.{limited_ends}
use Rattle.fb_inspect.proofs.lemmas.walk.Stepped.{look_limited}
use Rattle.fb_types.proofs.lemmas.lists.ByIndex.{element_at}
use Rattle.fb_inspect.proofs.lemmas.walk.StepsStop.{end_found, stop_same, last_fails, last_goes, last_limit}
use Rattle.fb_inspect.proofs.lemmas.lines.OneEnd.{no_stop_text}
use Rattle.fb_inspect.proofs.lemmas.results.Errors.{of_refusal}
use Rattle.fb_inspect.proofs.lemmas.results.Refused.{refused_then}
use Rattle.fb_inspect.proofs.lemmas.results.Joined.{ok_passed}
use Rattle.fb_inspect.specs.declared.refused.finding.Finding.TheVariants as why
use Rattle.fb_inspect.proofs.lemmas.walk.Held.{below, fails_later, takes_later}
use Rattle.fb_inspect.proofs.walk.Walk.take_to_last_step.Goals as goal

pub take_from_ahead-requires-clause-look : goal.take_from_ahead-requires-clause-look
take_from_ahead-requires-clause-look c =
    let sys = system_of c.args.fixed.now.table.now.system.now in
    let key = c.args.line.now.key in
    let look = limited c.args.steps key.tick key.resource c.requires.look.0 in (
      look,
      subst (λ (b : Vec Remembered). IsLookOf sys b.items c.limit.new.self.steps.items look) (sym c.limit.ensures.blocks)
          (look_limited sys c.args.steps key c.requires.look.0 c.args.self.now.blocks.items c.args.self.now.steps.items c.limit.new.self.steps.items c.requires.look.1
          (c.limit.ensures.limited c.if-not-limit.false)),
    )

pub returns-clause-takes : goal.returns-clause-takes
returns-clause-takes c = λ look remaining is.
    let fixed = c.args.fixed.now in
    let sys = system_of fixed.table.now.system.now in
    limited_ends fixed.table.now.system.now.library.blocks sys fixed.form c.args.steps look c.args.line.now c.args.self.now c.limit.new.self c.take_from_ahead.new.self (unread c.args.ahead.now remaining)
    (unread c.take_from_ahead.new.ahead remaining) c.in_ok-stop.stop c.stop_of.result (c.requires.kept look is) c.limit.ensures.shown c.limit.ensures.trail c.limit.ensures.blocks is (c.limit.ensures.limited c.if-not-limit.false)
    (λ l at. c.in_ok-stop.ensures.goes l remaining at) (λ l at. c.has_run_out.ensures.out sys l at c.if-not-has_run_out.false) c.in_ok-stop.ensures.next (c.is_stop.ensures.stop c.if-not-is_stop.false)
    c.stop_of.ensures

pub returns-then-not-limit-clause-stands : goal.returns-then-not-limit-clause-stands
returns-then-not-limit-clause-stands c = λ takings rest text rows few at ahead near.
    let fixed = c.args.fixed.now in
    let sys = system_of fixed.table.now.system.now in
    let l = c.args.line.now in
    let look = last_look (opening_look sys) takings in
    let old : List TickSteps = c.args.self.now.steps.items in
    let own = element_at old l.key.resource (subst (λ (n : ℕ). l.key.resource < n) (sym at.stands.look.counts) at.is.line.belongs.resource) in
    let less = c.limit.ensures.more c.if-not-limit.true few own.0 own.1 in
    let same : left_at most l.key.tick (look.steps l.key.resource) ≡ left_at most l.key.tick (left_of own.0) = ap (left_at most l.key.tick) (at.stands.look.lefts l.key.resource own.0 own.1) in
    of_refusal (λ n. IsWrongLine sys c.args.steps n c.limit.new.self.trail.reading.line.items text) c.refusal.result (record { number = c.limit.new.self.trail.reading.number; finding = why.NoStep }) c.refusal.ensures
    (subst (λ (r : Trail). IsWrongLine sys c.args.steps (record { number = c.limit.new.self.trail.reading.number; finding = why.NoStep }) r.reading.line.items text) (sym c.limit.ensures.trail)
    (last_limit fixed.table.now fixed.form takings c.args.self.now c.args.ahead.now l rest text at rows ahead c.args.steps near (record { number = c.limit.new.self.trail.reading.number; finding = why.NoStep })
    (ap (λ (r : Trail). record { number = r.reading.number; finding = why.NoStep }) c.limit.ensures.trail)
    (λ kept. absurd (omega (arith, less, same, kept)))))

pub returns-in_err-stop-clause-stands : goal.returns-in_err-stop-clause-stands
returns-in_err-stop-clause-stands c = λ takings rest text rows few at ahead near.
    let fixed = c.args.fixed.now in
    let sys = system_of fixed.table.now.system.now in
    let l = c.args.line.now in
    let look = last_look (opening_look sys) takings in
    let less : Look = limited c.args.steps l.key.tick l.key.resource look in
    let is_look : IsLookOf sys c.limit.new.self.blocks.items c.limit.new.self.steps.items less =
    subst (λ (b : Vec Remembered). IsLookOf sys b.items c.limit.new.self.steps.items less) (sym c.limit.ensures.blocks)
    (look_limited sys c.args.steps l.key look c.args.self.now.blocks.items c.args.self.now.steps.items c.limit.new.self.steps.items at.stands.look (c.limit.ensures.limited c.if-not-limit.false)) in
    let T = IsTaking sys c.args.steps less in
    let new = c.take_from_ahead.new.self.trail.reading in
    let q = err_from_is_err_and c.from_residual.result c.from_residual.ensures.1 in
    rw (q.1, q.2)
    (refused_then c.in_err-stop.field-0.0
    (λ n. (left : List ℕ) × FailsBy T (IsUnstarted sys c.args.steps less l) sys fixed.form l c.limit.new.self.trail.reading new (Some c.args.ahead.now.text.items) (Some left) n) (λ n. IsWrongLine sys c.args.steps n new.line.items text)
    (c.in_err-stop.ensures.refused less at.names at.plain is_look)
    (λ n fails.
    last_fails fixed.table.now fixed.form takings c.args.self.now c.args.ahead.now l rest text at rows ahead c.args.steps near n new fails.0
    (subst (λ (r : Trail). FailsBy T (IsUnstarted sys c.args.steps less l) sys fixed.form l r.reading new (Some c.args.ahead.now.text.items) (Some fails.0) n) c.limit.ensures.trail fails.1)))

pub returns-then-not-is_stop-clause-stands : goal.returns-then-not-is_stop-clause-stands
returns-then-not-is_stop-clause-stands c = λ takings rest text rows few at ahead near.
    let fixed = c.args.fixed.now in
    let sys = system_of fixed.table.now.system.now in
    let l = c.args.line.now in
    let look = last_look (opening_look sys) takings in
    let less : Look = limited c.args.steps l.key.tick l.key.resource look in
    let is_look : IsLookOf sys c.limit.new.self.blocks.items c.limit.new.self.steps.items less =
    subst (λ (b : Vec Remembered). IsLookOf sys b.items c.limit.new.self.steps.items less) (sym c.limit.ensures.blocks)
    (look_limited sys c.args.steps l.key look c.args.self.now.blocks.items c.args.self.now.steps.items c.limit.new.self.steps.items at.stands.look (c.limit.ensures.limited c.if-not-limit.false)) in
    let read = c.take_from_ahead.new.self.trail.reading in
    let other = no_stop_text sys fixed.form at.names at.apart l.key.tick read.line.items read.next l.key.tick l.key.resource Steps c.in_ok-stop.ensures.next (omega arith)
    (at.is.line.range.tick, at.is.line.belongs.resource) (c.is_stop.ensures.other c.if-not-is_stop.true) in
    of_refusal (λ n. IsWrongLine sys c.args.steps n read.line.items text) c.refusal-then-not-is_stop.result (record { number = read.number; finding = c.found_by.result }) c.refusal-then-not-is_stop.ensures
    (last_goes fixed.table.now fixed.form takings c.args.self.now c.args.ahead.now l rest text at rows ahead c.args.steps near fixed.table.now.system.now.library.blocks c.in_ok-stop.stop c.limit.new.self
    c.take_from_ahead.new.self c.take_from_ahead.new.ahead c.limit.ensures.trail (c.in_ok-stop.ensures.goes less (Some []) is_look) c.in_ok-stop.ensures.alone (record { number = read.number; finding = c.found_by.result }) refl
    (end_found c.in_ok-stop.stop (read.line.items ≡ steps_stop sys (line_of sys l)) c.found_by.result why.Unmade c.found_by.ensures.stopped c.found_by.ensures.other (λ unmade. inr (unmade, other))) (λ is out. other is))

pub returns-then-not-has_run_out-clause-stands : goal.returns-then-not-has_run_out-clause-stands
returns-then-not-has_run_out-clause-stands c = λ takings rest text rows few at ahead near.
    let fixed = c.args.fixed.now in
    let sys = system_of fixed.table.now.system.now in
    let l = c.args.line.now in
    let look = last_look (opening_look sys) takings in
    let less : Look = limited c.args.steps l.key.tick l.key.resource look in
    let is_look : IsLookOf sys c.limit.new.self.blocks.items c.limit.new.self.steps.items less =
    subst (λ (b : Vec Remembered). IsLookOf sys b.items c.limit.new.self.steps.items less) (sym c.limit.ensures.blocks)
    (look_limited sys c.args.steps l.key look c.args.self.now.blocks.items c.args.self.now.steps.items c.limit.new.self.steps.items at.stands.look (c.limit.ensures.limited c.if-not-limit.false)) in
    let goes = c.in_ok-stop.ensures.goes less (Some []) is_look in
    let read = c.take_from_ahead.new.self.trail.reading in
    let here = subst (λ (n : Next). IsNext sys fixed.form l.key.tick read.line.items n) (c.is_stop.ensures.stop c.if-not-is_stop.false) c.in_ok-stop.ensures.next in
    of_refusal (λ n. IsWrongLine sys c.args.steps n read.line.items text) c.refusal-then-not-has_run_out.result (record { number = read.number; finding = c.found_by-then-not-has_run_out.result })
    c.refusal-then-not-has_run_out.ensures
    (last_goes fixed.table.now fixed.form takings c.args.self.now c.args.ahead.now l rest text at rows ahead c.args.steps near fixed.table.now.system.now.library.blocks c.in_ok-stop.stop c.limit.new.self
    c.take_from_ahead.new.self c.take_from_ahead.new.ahead c.limit.ensures.trail goes c.in_ok-stop.ensures.alone (record { number = read.number; finding = c.found_by-then-not-has_run_out.result }) refl
    (end_found c.in_ok-stop.stop (read.line.items ≡ steps_stop sys (line_of sys l)) c.found_by-then-not-has_run_out.result why.Runs c.found_by-then-not-has_run_out.ensures.stopped
    c.found_by-then-not-has_run_out.ensures.other (λ runs. inl (runs, here.0.is)))
    (λ is out.
    c.has_run_out.ensures.other sys goes.taking.after goes.look_after at.is.line.belongs.resource c.if-not-has_run_out.true
    (stop_same goes.taking.stop c.in_ok-stop.stop (left_at c.args.steps l.key.tick (goes.taking.after.steps l.key.resource) ≡ 0) goes.stop_is out)))

pub returns-in_err-stop-clause-takes : goal.returns-in_err-stop-clause-takes
returns-in_err-stop-clause-takes c = λ _ _ _. ok_passed c.from_residual.result _ _ c.from_residual.ensures.1

pub returns-in_err-stop-clause-whole : goal.returns-in_err-stop-clause-whole
returns-in_err-stop-clause-whole c = ok_passed c.from_residual.result _ _ c.from_residual.ensures.1

-- ---- The number of a line that is refused

pub returns-then-not-limit-clause-later : goal.returns-then-not-limit-clause-later
returns-then-not-limit-clause-later c = λ takings rest text at.
    let old = c.args.self.now.trail.reading in
    of_refusal (λ n. old.number ≤ n.number) c.refusal.result (record { number = c.limit.new.self.trail.reading.number; finding = why.NoStep }) c.refusal.ensures
    (subst (λ (r : Trail). old.number ≤ r.reading.number) (sym c.limit.ensures.trail) (omega arith))

pub returns-in_err-stop-clause-later : goal.returns-in_err-stop-clause-later
returns-in_err-stop-clause-later c = λ takings rest text at.
    let fixed = c.args.fixed.now in
    let sys = system_of fixed.table.now.system.now in
    let l = c.args.line.now in
    let look = last_look (opening_look sys) takings in
    let less : Look = limited c.args.steps l.key.tick l.key.resource look in
    let is_look : IsLookOf sys c.limit.new.self.blocks.items c.limit.new.self.steps.items less =
    subst (λ (b : Vec Remembered). IsLookOf sys b.items c.limit.new.self.steps.items less) (sym c.limit.ensures.blocks)
    (look_limited sys c.args.steps l.key look c.args.self.now.blocks.items c.args.self.now.steps.items c.limit.new.self.steps.items at.stands.look (c.limit.ensures.limited c.if-not-limit.false)) in
    let T = IsTaking sys c.args.steps less in
    let old = c.args.self.now.trail.reading in
    let mid = c.limit.new.self.trail.reading in
    let new = c.take_from_ahead.new.self.trail.reading in
    let q = err_from_is_err_and c.from_residual.result c.from_residual.ensures.1 in
    rw (q.1, q.2)
    (refused_then c.in_err-stop.field-0.0 (λ n. (left : List ℕ) × FailsBy T (IsUnstarted sys c.args.steps less l) sys fixed.form l mid new (Some c.args.ahead.now.text.items) (Some left) n) (λ n. old.number ≤ n.number)
    (c.in_err-stop.ensures.refused less at.names at.plain is_look)
    (λ n fails.
    let all = fails_later T (IsUnstarted sys c.args.steps less l) sys fixed.form l mid new (Some c.args.ahead.now.text.items) (Some fails.0) n fails.1 in
    subst (λ (r : Trail). r.reading.number ≤ n.number) c.limit.ensures.trail (subst (λ (k : ℕ). mid.number ≤ k) (sym all.1) all.0)))

pub returns-then-not-is_stop-clause-later : goal.returns-then-not-is_stop-clause-later
returns-then-not-is_stop-clause-later c = λ takings rest text at.
    let read = c.take_from_ahead.new.self.trail.reading in
    let old = c.args.self.now.trail.reading in
    of_refusal (λ n. old.number ≤ n.number) c.refusal-then-not-is_stop.result (record { number = read.number; finding = c.found_by.result }) c.refusal-then-not-is_stop.ensures
    (subst (λ (r : Trail). r.reading.number ≤ read.number) c.limit.ensures.trail (below (let fixed = c.args.fixed.now in
    let sys = system_of fixed.table.now.system.now in
    let l = c.args.line.now in
    let look = last_look (opening_look sys) takings in
    let less : Look = limited c.args.steps l.key.tick l.key.resource look in
    let is_look : IsLookOf sys c.limit.new.self.blocks.items c.limit.new.self.steps.items less =
    subst (λ (b : Vec Remembered). IsLookOf sys b.items c.limit.new.self.steps.items less) (sym c.limit.ensures.blocks)
    (look_limited sys c.args.steps l.key look c.args.self.now.blocks.items c.args.self.now.steps.items c.limit.new.self.steps.items at.stands.look (c.limit.ensures.limited c.if-not-limit.false)) in
    takes_later fixed.table.now.system.now.library.blocks sys fixed.form c.args.steps less l c.in_ok-stop.stop c.limit.new.self c.take_from_ahead.new.self _ _ (c.in_ok-stop.ensures.goes less (Some []) is_look))))

pub returns-then-not-has_run_out-clause-later : goal.returns-then-not-has_run_out-clause-later
returns-then-not-has_run_out-clause-later c = λ takings rest text at.
    let read = c.take_from_ahead.new.self.trail.reading in
    let old = c.args.self.now.trail.reading in
    of_refusal (λ n. old.number ≤ n.number) c.refusal-then-not-has_run_out.result (record { number = read.number; finding = c.found_by-then-not-has_run_out.result }) c.refusal-then-not-has_run_out.ensures
    (subst (λ (r : Trail). r.reading.number ≤ read.number) c.limit.ensures.trail (below (let fixed = c.args.fixed.now in
    let sys = system_of fixed.table.now.system.now in
    let l = c.args.line.now in
    let look = last_look (opening_look sys) takings in
    let less : Look = limited c.args.steps l.key.tick l.key.resource look in
    let is_look : IsLookOf sys c.limit.new.self.blocks.items c.limit.new.self.steps.items less =
    subst (λ (b : Vec Remembered). IsLookOf sys b.items c.limit.new.self.steps.items less) (sym c.limit.ensures.blocks)
    (look_limited sys c.args.steps l.key look c.args.self.now.blocks.items c.args.self.now.steps.items c.limit.new.self.steps.items at.stands.look (c.limit.ensures.limited c.if-not-limit.false)) in
    takes_later fixed.table.now.system.now.library.blocks sys fixed.form c.args.steps less l c.in_ok-stop.stop c.limit.new.self c.take_from_ahead.new.self _ _ (c.in_ok-stop.ensures.goes less (Some []) is_look))))
