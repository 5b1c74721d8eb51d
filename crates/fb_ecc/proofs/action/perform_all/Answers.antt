use Rattle.fb_types.proofs.Common.{◌≡◌, ◌<◌, ◌≤◌, ◌+◌, ◌∷◌, ℕ, List, [], drop, Option, Some, None, length, get_or, map, refl, sym, ◌∙◌, arith, subst, slice_get, same_Some, slice_get_within, err_from_is_err_and, Acts, Halts, Performs, Position, RunsAll, body_of, stmt_of}
use Rattle.fb_types.specs.declared.library.Action.{Action}
use Rattle.fb_types.specs.declared.library.Algorithm.{Algorithm}
use Rattle.fb_types.specs.declared.value.Reason.TheVariants.{Steps}
use Rattle.fb_st.specs.FrameRuns.{IsKept}
use Rattle.fb_st.specs.Flows.{end_of, point}
use Rattle.fb_st.specs.Frames.{Declared, declared_in, types_in}
use Rattle.fb_st.specs.Known.{AllKnown}
use Rattle.fb_st.specs.declared.frame.Slot.{Slot}
use Rattle.fb_st.specs.declared.meter.Meter.{Meter}
use Rattle.fb_ecc.specs.Actions.{IsAlgorithm}
use Rattle.fb_ecc.specs.Indexes.{index}
use Rattle.fb_ecc.specs.Programs.{IsProgramOf}
use Rattle.fb_ecc.specs.declared.chart.Act.{Act}
use Rattle.fb_ecc.proofs.lemmas.Actions.{action_here, acts_goes, acts_stops, algorithm_here, begins_on, begins_same, next_acts, no_action_left, no_next_acts, performed_err, performed_none, performed_ok, read_here}
use Rattle.fb_ecc.proofs.lemmas.Programs.{body_says}
use Rattle.fb_ecc.proofs.action.perform_all.Goals as goal
use Rattle.fb_ecc.proofs.action.perform_all.Goals.{in-Some+in-Some-exec_compiled+in_ok-end-in-Some-exec_compiled, in-Some+in-None+in_ok-exec-in-None, in_default}
use Rattle.fb_ecc.specs.declared.shared.Shared.{Shared}

abbrev unread : Act
unread = record { algorithm = None; output = None }

pub loop-act-init : goal.loop-act-init
loop-act-init c = record {
  performed = λ actions state are stop q rest. rest;
  declared = refl;
  fewer = omega arith;
  begins = begins_same c.args.emits.now;
  well_formed = λ all. all;
}

-- ---- No step is left

pub returns-in_err-step-clause-performed : goal.returns-in_err-step-clause-performed
returns-in_err-step-clause-performed c = λ actions state are.
    let t = c.args.block.now in
    let i : ℕ = c.loop-act.act-index in
    let found = action_here t c.args.acts.now actions i unread are c.loop-act-test.true in
    let a : Action = found.action in
    let from : Position = index t state c.loop-act.frame c.loop-act.meter.left c.loop-act.emits in
    let err = c.in_err-step.ensures.err in
    let x = err_from_is_err_and c.from_residual.result c.from_residual.ensures.1 in
    let stopped : Acts t (a ∷ drop (i + 1) actions) c.loop-act.meter.left from (Some Steps) from =
    subst (λ (n : ℕ). Acts t (a ∷ drop (i + 1) actions) n from (Some Steps) from) (sym err.1) (refl, refl) in
    let all = c.loop-act.invariant.performed actions state are (Some Steps) from
    (subst (λ (l : List Action). Acts t l c.loop-act.meter.left from (Some Steps) from) (sym found.here) stopped) in
    rw (x.1, x.2, err.0, err.2 ∙ sym err.1) all

-- ---- The compiled form

pub exec_compiled-requires-clause-layout : goal.exec_compiled-requires-clause-layout
exec_compiled-requires-clause-layout c =
    let t = c.args.block.now in
    let declared = c.loop-act.invariant.declared ∙ c.requires.declared in
    let prog = subst (λ (x : Shared). IsProgramOf t x.program) (sym c.parts-parts.ensures) c.requires.chart.program in
    prog.layout ∙ sym declared

pub exec_compiled-requires-clause-says : goal.exec_compiled-requires-clause-says
exec_compiled-requires-clause-says c =
    let t = c.args.block.now in
    let prog = subst (λ (x : Shared). IsProgramOf t x.program) (sym c.parts-parts.ensures) c.requires.chart.program in
    let i : ℕ = c.loop-act.act-index in
    let found = action_here t c.args.acts.now c.requires.acts.0 i unread c.requires.acts.1 c.loop-act-test.true in
    let a : Action = found.action in
    let here = found.is in
    let k : ℕ = c.in-Some.algorithm in
    let n = algorithm_here t k a.algorithm (subst (λ (o : Option ℕ). IsAlgorithm t o a.algorithm) c.in-Some.is here.algorithm) in
    let says = body_says c.parts-parts.result.now.program.layout t.algorithms c.parts-parts.result.now.program.bodies k n.element c.body-codes.result prog.bodies n.at c.body-codes.ensures in
    (map stmt_of n.element.body.statements, says)

pub returns-in_err-end-in-Some-exec_compiled-clause-performed : goal.returns-in_err-end-in-Some-exec_compiled-clause-performed
returns-in_err-end-in-Some-exec_compiled-clause-performed c = λ actions state are.
    let t = c.args.block.now in
    let slots = c.loop-act.frame in
    let left = c.step.new.self.left in
    let declared = c.loop-act.invariant.declared ∙ c.requires.declared in
    let prog = subst (λ (x : Shared). IsProgramOf t x.program) (sym c.parts-parts.ensures) c.requires.chart.program in
    let p : Position = index t state slots left c.loop-act.emits in
    let from : Position = index t state slots c.loop-act.meter.left c.loop-act.emits in
    let i : ℕ = c.loop-act.act-index in
    let found = action_here t c.args.acts.now actions i unread are c.loop-act-test.true in
    let a : Action = found.action in
    let here = found.is in
    let k : ℕ = c.in-Some.algorithm in
    let n = algorithm_here t k a.algorithm (subst (λ (o : Option ℕ). IsAlgorithm t o a.algorithm) c.in-Some.is here.algorithm) in
    let says = body_says c.parts-parts.result.now.program.layout t.algorithms c.parts-parts.result.now.program.bodies k n.element c.body-codes.result prog.bodies n.at c.body-codes.ensures in
    let ran = c.in-Some-exec_compiled.ensures.run (map stmt_of n.element.body.statements) says in
    let failed = c.in_err-end-in-Some-exec_compiled in
    let r = failed.field-0.0 in
    let x = err_from_is_err_and c.from_residual-in_err-end-in-Some-exec_compiled.result c.from_residual-in_err-end-in-Some-exec_compiled.ensures.1 in
    let q : Position = index t state c.exec_compiled.new.frame c.exec_compiled.new.meter.left c.loop-act.emits in
    let one = acts_stops t a [] from q c.loop-act.meter.left left r c.in_ok-step.ensures.ok
    (performed_err t k a.algorithm n n.element (declared_in slots) p slots c.exec_compiled.new.frame left c.exec_compiled.new.meter.left
    c.in-Some-exec_compiled.end r n.at declared failed.was ran) in
    rw (x.1, x.2)
    (c.loop-act.invariant.performed actions state are (Some r) q
    (subst (λ (l : List Action). Acts t l c.loop-act.meter.left from (Some r) q) (sym found.here)
    (no_next_acts t a (drop (i + 1) actions) from q c.loop-act.meter.left r one)))

-- ---- The text

pub bounds-as_slice-algorithm : goal.bounds-as_slice-algorithm
bounds-as_slice-algorithm c =
    let t = c.args.block.now in
    let i : ℕ = c.loop-act.act-index in
    let found = action_here t c.args.acts.now c.requires.acts.0 i unread c.requires.acts.1 c.loop-act-test.true in
    let a : Action = found.action in
    let here = found.is in
    let k : ℕ = c.in-Some.algorithm in
    let n = algorithm_here t k a.algorithm (subst (λ (o : Option ℕ). IsAlgorithm t o a.algorithm) c.in-Some.is here.algorithm) in
    subst (λ (l : List Algorithm). k < length l) (sym c.as_slice.ensures) (slice_get_within t.algorithms k n.element n.at)

pub offset_bounds-as_slice-algorithm : goal.offset_bounds-as_slice-algorithm
offset_bounds-as_slice-algorithm c =
    let t = c.args.block.now in
    let i : ℕ = c.loop-act.act-index in
    let found = action_here t c.args.acts.now c.requires.acts.0 i unread c.requires.acts.1 c.loop-act-test.true in
    let a : Action = found.action in
    let here = found.is in
    let k : ℕ = c.in-Some.algorithm in
    let n = algorithm_here t k a.algorithm (subst (λ (o : Option ℕ). IsAlgorithm t o a.algorithm) c.in-Some.is here.algorithm) in
    let within = subst (λ (l : List Algorithm). k < length l) (sym c.as_slice.ensures) (slice_get_within t.algorithms k n.element n.at) in
    let fits = c.as_slice.type_inv.1 in
    omega arith

pub exec-requires : goal.exec-requires
exec-requires c =
    let t = c.args.block.now in
    let declared = c.loop-act.invariant.declared ∙ c.requires.declared in
    let i : ℕ = c.loop-act.act-index in
    let found = action_here t c.args.acts.now c.requires.acts.0 i unread c.requires.acts.1 c.loop-act-test.true in
    let a : Action = found.action in
    let here = found.is in
    let k : ℕ = c.in-Some.algorithm in
    let n = algorithm_here t k a.algorithm (subst (λ (o : Option ℕ). IsAlgorithm t o a.algorithm) c.in-Some.is here.algorithm) in
    let within = subst (λ (l : List Algorithm). k < length l) (sym c.as_slice.ensures) (slice_get_within t.algorithms k n.element n.at) in
    let y : Algorithm = get_or c.as_slice.result.now k c.index-as_slice-algorithm.result in
    record {
      known = subst (λ (ds : List Declared). AllKnown ds (body_of y.body)) (sym (c.exec_compiled.ensures.declared ∙ declared))
          (c.requires.sound.bodies k y (read_here t k c.as_slice.result.now c.index-as_slice-algorithm.result c.as_slice.ensures within));
    }

pub returns-in_err-exec-in-None-clause-performed : goal.returns-in_err-exec-in-None-clause-performed
returns-in_err-exec-in-None-clause-performed c = λ actions state are.
    let t = c.args.block.now in
    let slots = c.loop-act.frame in
    let left = c.step.new.self.left in
    let declared = c.loop-act.invariant.declared ∙ c.requires.declared in
    let p : Position = index t state slots left c.loop-act.emits in
    let from : Position = index t state slots c.loop-act.meter.left c.loop-act.emits in
    let i : ℕ = c.loop-act.act-index in
    let found = action_here t c.args.acts.now actions i unread are c.loop-act-test.true in
    let a : Action = found.action in
    let here = found.is in
    let k : ℕ = c.in-Some.algorithm in
    let n = algorithm_here t k a.algorithm (subst (λ (o : Option ℕ). IsAlgorithm t o a.algorithm) c.in-Some.is here.algorithm) in
    let within = subst (λ (l : List Algorithm). k < length l) (sym c.as_slice.ensures) (slice_get_within t.algorithms k n.element n.at) in
    let y : Algorithm = get_or c.as_slice.result.now k c.index-as_slice-algorithm.result in
    let there : slice_get t.algorithms k ≡ Some y = read_here t k c.as_slice.result.now c.index-as_slice-algorithm.result c.as_slice.ensures within in
    let same = c.exec_compiled.ensures.none c.in-None.is in
    let Framed : List Slot → Type 0 = λ l.
    RunsAll (types_in (declared_in l)) (body_of y.body) (point l c.exec_compiled.new.meter) (end_of c.exec.result) (point c.exec.new.frame c.exec.new.meter) in
    let Metered : Meter → Type 0 = λ m.
    RunsAll (types_in (declared_in slots)) (body_of y.body) (point slots m) (end_of c.exec.result) (point c.exec.new.frame c.exec.new.meter) in
    let Read : Algorithm → Type 0 = λ x.
    RunsAll (types_in (declared_in slots)) (body_of x.body) (point slots c.step.new.self) (end_of c.exec.result) (point c.exec.new.frame c.exec.new.meter) in
    let ran = subst Read (same_Some y n.element (sym there ∙ n.at)) (subst Metered same.1 (subst Framed same.0 c.exec.ensures.run)) in
    let failed = c.in_err-exec-in-None in
    let r = failed.field-0.0 in
    let x = err_from_is_err_and c.from_residual-in_err-exec-in-None.result c.from_residual-in_err-exec-in-None.ensures.1 in
    let q : Position = index t state c.exec.new.frame c.exec.new.meter.left c.loop-act.emits in
    let one = acts_stops t a [] from q c.loop-act.meter.left left r c.in_ok-step.ensures.ok
    (performed_err t k a.algorithm n n.element (declared_in slots) p slots c.exec.new.frame left c.exec.new.meter.left
    c.exec.result r n.at declared failed.was ran) in
    rw (x.1, x.2)
    (c.loop-act.invariant.performed actions state are (Some r) q
    (subst (λ (l : List Action). Acts t l c.loop-act.meter.left from (Some r) q) (sym found.here)
    (no_next_acts t a (drop (i + 1) actions) from q c.loop-act.meter.left r one)))

-- ---- Its output event

pub emit-requires-clause-declared : goal.emit-requires-clause-declared
emit-requires-clause-declared c =
    let slots = c.loop-act.frame in
    let declared = c.loop-act.invariant.declared ∙ c.requires.declared in
    let kept : IsKept slots c.step.new.self c.match-act.frame c.match-act.meter = elim c.match-act.branch [
      | in-Some+in-Some-exec_compiled+in_ok-end-in-Some-exec_compiled w ↦
          rw (w.frame-is, w.meter-is) (record { declared = w.exec_compiled.ensures.declared; fewer = w.exec_compiled.ensures.fewer })
      | in-Some+in-None+in_ok-exec-in-None w ↦
          rw (w.frame-is, w.meter-is)
          (record {
            declared = w.exec.ensures.declared ∙ w.exec_compiled.ensures.declared;
            fewer = let a = w.exec_compiled.ensures.fewer in let b = w.exec.ensures.fewer in omega arith;
          })
      | in_default w ↦ rw (w.frame-is, w.meter-is) (record { declared = refl; fewer = omega arith })
    ] in
    kept.declared ∙ declared

pub emit-requires-clause-event : goal.emit-requires-clause-event
emit-requires-clause-event c =
    let t = c.args.block.now in
    let i : ℕ = c.loop-act.act-index in
    let found = action_here t c.args.acts.now c.requires.acts.0 i unread c.requires.acts.1 c.loop-act-test.true in
    let a : Action = found.action in
    let here = found.is in
    (a.output, here.output)

pub loop-act-preserved : goal.loop-act-preserved
loop-act-preserved c =
    let t = c.args.block.now in
    let slots = c.loop-act.frame in
    let left = c.step.new.self.left in
    let declared = c.loop-act.invariant.declared ∙ c.requires.declared in
    let prog = subst (λ (x : Shared). IsProgramOf t x.program) (sym c.parts-parts.ensures) c.requires.chart.program in
    let kept : IsKept slots c.step.new.self c.match-act.frame c.match-act.meter = elim c.match-act.branch [
      | in-Some+in-Some-exec_compiled+in_ok-end-in-Some-exec_compiled w ↦
          rw (w.frame-is, w.meter-is) (record { declared = w.exec_compiled.ensures.declared; fewer = w.exec_compiled.ensures.fewer })
      | in-Some+in-None+in_ok-exec-in-None w ↦
          rw (w.frame-is, w.meter-is)
          (record {
            declared = w.exec.ensures.declared ∙ w.exec_compiled.ensures.declared;
            fewer = let a = w.exec_compiled.ensures.fewer in let b = w.exec.ensures.fewer in omega arith;
          })
      | in_default w ↦ rw (w.frame-is, w.meter-is) (record { declared = refl; fewer = omega arith })
    ] in
    record {
      performed = λ actions state are stop q rest.
          let p : Position = index t state slots left c.loop-act.emits in
          let from : Position = index t state slots c.loop-act.meter.left c.loop-act.emits in
          let i : ℕ = c.loop-act.act-index in
          let found = action_here t c.args.acts.now actions i unread are c.loop-act-test.true in
          let a : Action = found.action in
          let here = found.is in
          let m : Position = index t state c.match-act.frame c.match-act.meter.left c.loop-act.emits in
          let ran : Performs t a.algorithm (Halts None) p None m = elim c.match-act.branch [
            | in-Some+in-Some-exec_compiled+in_ok-end-in-Some-exec_compiled w ↦
                let k : ℕ = w.in-Some.algorithm in
                let n = algorithm_here t k a.algorithm (subst (λ (o : Option ℕ). IsAlgorithm t o a.algorithm) w.in-Some.is here.algorithm) in
                let says = body_says c.parts-parts.result.now.program.layout t.algorithms c.parts-parts.result.now.program.bodies k n.element w.body-codes.result prog.bodies n.at w.body-codes.ensures in
                let ran = w.in-Some-exec_compiled.ensures.run (map stmt_of n.element.body.statements) says in
                let ended = w.in_ok-end-in-Some-exec_compiled in
                rw (w.frame-is, w.meter-is)
                (performed_ok t k a.algorithm n n.element (declared_in slots) p slots w.exec_compiled.new.frame left w.exec_compiled.new.meter.left
                w.in-Some-exec_compiled.end ended.field-0 n.at declared ended.was ran)
            | in-Some+in-None+in_ok-exec-in-None w ↦
                let k : ℕ = w.in-Some.algorithm in
                let n = algorithm_here t k a.algorithm (subst (λ (o : Option ℕ). IsAlgorithm t o a.algorithm) w.in-Some.is here.algorithm) in
                let within = subst (λ (l : List Algorithm). k < length l) (sym w.as_slice.ensures) (slice_get_within t.algorithms k n.element n.at) in
                let y : Algorithm = get_or w.as_slice.result.now k w.index-as_slice-algorithm.result in
                let there : slice_get t.algorithms k ≡ Some y = read_here t k w.as_slice.result.now w.index-as_slice-algorithm.result w.as_slice.ensures within in
                let same = w.exec_compiled.ensures.none w.in-None.is in
                let Framed : List Slot → Type 0 = λ l.
                RunsAll (types_in (declared_in l)) (body_of y.body) (point l w.exec_compiled.new.meter) (end_of w.exec.result) (point w.exec.new.frame w.exec.new.meter) in
                let Metered : Meter → Type 0 = λ m.
                RunsAll (types_in (declared_in slots)) (body_of y.body) (point slots m) (end_of w.exec.result) (point w.exec.new.frame w.exec.new.meter) in
                let Read : Algorithm → Type 0 = λ x.
                RunsAll (types_in (declared_in slots)) (body_of x.body) (point slots c.step.new.self) (end_of w.exec.result) (point w.exec.new.frame w.exec.new.meter) in
                let ran = subst Read (same_Some y n.element (sym there ∙ n.at)) (subst Metered same.1 (subst Framed same.0 w.exec.ensures.run)) in
                let ended = w.in_ok-exec-in-None in
                rw (w.frame-is, w.meter-is)
                (performed_ok t k a.algorithm n n.element (declared_in slots) p slots w.exec.new.frame left w.exec.new.meter.left
                w.exec.result ended.field-0 n.at declared ended.was ran)
            | in_default w ↦
                rw (w.frame-is, w.meter-is) (performed_none t a.algorithm p (subst (λ (o : Option ℕ). IsAlgorithm t o a.algorithm) w.in_default.is here.algorithm))
          ] in
          let o : Position = index t state c.match-act.frame c.match-act.meter.left c.emit.new.emits in
          let one = acts_goes t a from m o c.loop-act.meter.left left c.in_ok-step.ensures.ok ran (c.in_ok-emit.ensures.emitted a.output state c.match-act.meter.left here.output) in
          c.loop-act.invariant.performed actions state are stop q
          (subst (λ (l : List Action). Acts t l c.loop-act.meter.left from stop q) (sym found.here)
          (next_acts t a (drop (i + 1) actions) from o q c.loop-act.meter.left stop one rest));
      declared = kept.declared ∙ c.loop-act.invariant.declared;
      fewer = let s = c.in_ok-step.ensures.ok in let b = kept.fewer in let d = c.loop-act.invariant.fewer in omega arith;
      begins = begins_on c.args.emits.now c.loop-act.emits c.emit.new.emits c.loop-act.invariant.begins c.emit.ensures.begins;
      well_formed = λ all. c.emit.ensures.well_formed (c.loop-act.invariant.well_formed all);
    }

pub returns-clause-performed : goal.returns-clause-performed
returns-clause-performed c = λ actions state are.
    let i : ℕ = c.loop-act.act-index in
    let m : Position = index c.args.block.now state c.loop-act.frame c.loop-act.meter.left c.loop-act.emits in
    let over : length c.args.acts.now ≤ i = let f = c.loop-act-test.false in omega arith in
    c.loop-act.invariant.performed actions state are None m
    (subst (λ (l : List Action). Acts c.args.block.now l c.loop-act.meter.left m None m) (sym (no_action_left c.args.block.now c.args.acts.now actions i are over)) (refl, refl))

-- ---- What is kept

pub returns-in_err-step-clause-kept : goal.returns-in_err-step-clause-kept
returns-in_err-step-clause-kept c = record {
  declared = c.loop-act.invariant.declared;
  fewer = let a = c.in_err-step.ensures.err.2 in omega arith;
  begins = c.loop-act.invariant.begins;
  well_formed = c.loop-act.invariant.well_formed;
}

pub returns-in_err-end-in-Some-exec_compiled-clause-kept : goal.returns-in_err-end-in-Some-exec_compiled-clause-kept
returns-in_err-end-in-Some-exec_compiled-clause-kept c = record {
  declared = c.exec_compiled.ensures.declared ∙ c.loop-act.invariant.declared;
  fewer = let s = c.in_ok-step.ensures.ok in let b = c.exec_compiled.ensures.fewer in let d = c.loop-act.invariant.fewer in omega arith;
  begins = c.loop-act.invariant.begins;
  well_formed = c.loop-act.invariant.well_formed;
}

pub returns-in_err-exec-in-None-clause-kept : goal.returns-in_err-exec-in-None-clause-kept
returns-in_err-exec-in-None-clause-kept c = record {
  declared = c.exec.ensures.declared ∙ c.exec_compiled.ensures.declared ∙ c.loop-act.invariant.declared;
  fewer = let s = c.in_ok-step.ensures.ok in let b = c.exec_compiled.ensures.fewer in let e = c.exec.ensures.fewer in let d = c.loop-act.invariant.fewer in omega arith;
  begins = c.loop-act.invariant.begins;
  well_formed = c.loop-act.invariant.well_formed;
}

pub returns-in_err-emit-clause-kept : goal.returns-in_err-emit-clause-kept
returns-in_err-emit-clause-kept c =
    let slots = c.loop-act.frame in
    let kept : IsKept slots c.step.new.self c.match-act.frame c.match-act.meter = elim c.match-act.branch [
      | in-Some+in-Some-exec_compiled+in_ok-end-in-Some-exec_compiled w ↦
          rw (w.frame-is, w.meter-is) (record { declared = w.exec_compiled.ensures.declared; fewer = w.exec_compiled.ensures.fewer })
      | in-Some+in-None+in_ok-exec-in-None w ↦
          rw (w.frame-is, w.meter-is)
          (record {
            declared = w.exec.ensures.declared ∙ w.exec_compiled.ensures.declared;
            fewer = let a = w.exec_compiled.ensures.fewer in let b = w.exec.ensures.fewer in omega arith;
          })
      | in_default w ↦ rw (w.frame-is, w.meter-is) (record { declared = refl; fewer = omega arith })
    ] in
    record {
      declared = kept.declared ∙ c.loop-act.invariant.declared;
      fewer = let s = c.in_ok-step.ensures.ok in let b = kept.fewer in let d = c.loop-act.invariant.fewer in omega arith;
      begins = begins_on c.args.emits.now c.loop-act.emits c.emit.new.emits c.loop-act.invariant.begins c.emit.ensures.begins;
      well_formed = λ all. c.emit.ensures.well_formed (c.loop-act.invariant.well_formed all);
    }
