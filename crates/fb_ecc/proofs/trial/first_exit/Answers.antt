use Rattle.fb_types.proofs.Common.{ℕ, Bool, true, false, List, get_or, Option, None, Ok, Err, sym, ◌∙◌, ap, arith, option_map, slice_get-get_or, err_from_is_err_and, Name, event_at, Values}
use Rattle.fb_st.specs.Frames.{values_of}
use Rattle.fb_ecc.specs.declared.chart.Exit.{Exit}
use Rattle.fb_ecc.proofs.lemmas.Trials.{tried, not_tried, condition_meant, exit_here}
use Rattle.fb_ecc.proofs.lemmas.Stepwise.{clearing_tried, first_tried}
use Rattle.fb_ecc.proofs.trial.first_exit.Goals as goal

abbrev unread : Exit
unread = record { transition = 0; event = None; is_guarded = false; target = 0 }

pub is_true-requires-clause-exit : goal.is_true-requires-clause-exit
is_true-requires-clause-exit c = exit_here c.args.block.now c.args.exits.now c.loop-exit.exit-index unread c.requires.exits c.loop-exit-test.true

pub returns-in_err-step-clause-trial : goal.returns-in_err-step-clause-trial
returns-in_err-step-clause-trial c =
    let exits : List Exit = c.args.exits.now in
    let i : ℕ = c.loop-exit.exit-index in
    let event : Option Name = option_map (event_at c.args.block.now.ports.event_inputs) c.args.present in
    let vars : Values = values_of c.args.frame.now in
    let at = slice_get-get_or exits i unread c.loop-exit-test.true in
    let e = c.in_err-step.ensures.err in
    let x = err_from_is_err_and c.from_residual.result c.from_residual.ensures.1 in
    rw (x.1, x.2, e.0, e.2) (c.loop-exit.invariant.run ∙ not_tried c.args.block.now event vars exits i (get_or exits i unread) c.loop-exit.meter.left at e.1)

pub returns-in_err-is_true-clause-trial : goal.returns-in_err-is_true-clause-trial
returns-in_err-is_true-clause-trial c =
    let exits : List Exit = c.args.exits.now in
    let i : ℕ = c.loop-exit.exit-index in
    let f : Exit = get_or exits i unread in
    let event : Option Name = option_map (event_at c.args.block.now.ports.event_inputs) c.args.present in
    let vars : Values = values_of c.args.frame.now in
    let at = slice_get-get_or exits i unread c.loop-exit-test.true in
    let is = exit_here c.args.block.now exits i unread c.requires.exits c.loop-exit-test.true in
    let condition = condition_meant c.args.block.now f c.args.present vars c.requires.may.sound is c.requires.present ∙ sym c.is_true.ensures in
    let x = err_from_is_err_and c.from_residual-in_err-is_true.result c.from_residual-in_err-is_true.ensures.1 in
    rw (x.1, x.2)
    (c.loop-exit.invariant.run
    ∙ tried c.args.block.now event vars exits i f c.loop-exit.meter.left c.step.new.self.left (Err c.in_err-is_true.field-0.0) at c.in_ok-step.ensures.ok (condition ∙ c.in_err-is_true.was))

pub returns-then-branch-clause-trial : goal.returns-then-branch-clause-trial
returns-then-branch-clause-trial c =
    let exits : List Exit = c.args.exits.now in
    let i : ℕ = c.loop-exit.exit-index in
    let f : Exit = get_or exits i unread in
    let event : Option Name = option_map (event_at c.args.block.now.ports.event_inputs) c.args.present in
    let vars : Values = values_of c.args.frame.now in
    let at = slice_get-get_or exits i unread c.loop-exit-test.true in
    let is = exit_here c.args.block.now exits i unread c.requires.exits c.loop-exit-test.true in
    let condition = condition_meant c.args.block.now f c.args.present vars c.requires.may.sound is c.requires.present ∙ sym c.is_true.ensures in
    let shown = c.in_ok-is_true.was ∙ ap (λ (b : Bool). Ok b) c.if-branch.true in
    c.loop-exit.invariant.run
    ∙ tried c.args.block.now event vars exits i f c.loop-exit.meter.left c.step.new.self.left (Ok true) at c.in_ok-step.ensures.ok (condition ∙ shown)

pub returns-then-branch-clause-first : goal.returns-then-branch-clause-first
returns-then-branch-clause-first c =
    let exits : List Exit = c.args.exits.now in
    let i : ℕ = c.loop-exit.exit-index in
    let f : Exit = get_or exits i unread in
    let event : Option Name = option_map (event_at c.args.block.now.ports.event_inputs) c.args.present in
    let vars : Values = values_of c.args.frame.now in
    let at = slice_get-get_or exits i unread c.loop-exit-test.true in
    let is = exit_here c.args.block.now exits i unread c.requires.exits c.loop-exit-test.true in
    let condition = condition_meant c.args.block.now f c.args.present vars c.requires.may.sound is c.requires.present ∙ sym c.is_true.ensures in
    let holds = c.in_ok-is_true.was ∙ ap (λ (b : Bool). Ok b) c.if-branch.true in
    c.loop-exit.invariant.first ∙ first_tried c.args.block.now event vars exits i f (Ok true) at (condition ∙ holds)

pub returns-then-branch-clause-clearing : goal.returns-then-branch-clause-clearing
returns-then-branch-clause-clearing c =
    let exits : List Exit = c.args.exits.now in
    let i : ℕ = c.loop-exit.exit-index in
    let f : Exit = get_or exits i unread in
    let event : Option Name = option_map (event_at c.args.block.now.ports.event_inputs) c.args.present in
    let vars : Values = values_of c.args.frame.now in
    let at = slice_get-get_or exits i unread c.loop-exit-test.true in
    let is = exit_here c.args.block.now exits i unread c.requires.exits c.loop-exit-test.true in
    let condition = condition_meant c.args.block.now f c.args.present vars c.requires.may.sound is c.requires.present ∙ sym c.is_true.ensures in
    let holds = c.in_ok-is_true.was ∙ ap (λ (b : Bool). Ok b) c.if-branch.true in
    c.loop-exit.invariant.clearing ∙ clearing_tried c.args.block.now event vars exits i f (Ok true) at (condition ∙ holds)

pub returns-then-branch-clause-exit : goal.returns-then-branch-clause-exit
returns-then-branch-clause-exit c = exit_here c.args.block.now c.args.exits.now c.loop-exit.exit-index unread c.requires.exits c.loop-exit-test.true

pub loop-exit-preserved : goal.loop-exit-preserved
loop-exit-preserved c =
    let exits : List Exit = c.args.exits.now in
    let i : ℕ = c.loop-exit.exit-index in
    let f : Exit = get_or exits i unread in
    let event : Option Name = option_map (event_at c.args.block.now.ports.event_inputs) c.args.present in
    let vars : Values = values_of c.args.frame.now in
    let at = slice_get-get_or exits i unread c.loop-exit-test.true in
    let is = exit_here c.args.block.now exits i unread c.requires.exits c.loop-exit-test.true in
    let condition = condition_meant c.args.block.now f c.args.present vars c.requires.may.sound is c.requires.present ∙ sym c.is_true.ensures in
    let shown = c.in_ok-is_true.was ∙ ap (λ (b : Bool). Ok b) c.if-branch.false in
    record {
      run = c.loop-exit.invariant.run
          ∙ tried c.args.block.now event vars exits i f c.loop-exit.meter.left c.step.new.self.left (Ok false) at c.in_ok-step.ensures.ok (condition ∙ shown);
      first = c.loop-exit.invariant.first ∙ first_tried c.args.block.now event vars exits i f (Ok false) at (condition ∙ shown);
      clearing = c.loop-exit.invariant.clearing ∙ clearing_tried c.args.block.now event vars exits i f (Ok false) at (condition ∙ shown);
      fewer = let a = c.in_ok-step.ensures.ok in let b = c.loop-exit.invariant.fewer in omega arith;
    }
