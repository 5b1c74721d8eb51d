use Rattle.fb_types.proofs.Common.{◌≡◌, List, Option, Some, Ok, inr, sym, ◌∙◌, ap, subst, option_map, IfSome, slice_get_within, err_from_is_err_and, Name, trial_of, event_at, Values}
use Rattle.fb_types.specs.declared.library.Transition.{Transition}
use Rattle.fb_st.specs.Frames.{values_of}
use Rattle.fb_ecc.specs.Programs.{IsProgramOf}
use Rattle.fb_ecc.specs.Steps.{clearing_exit, first_true, trial_at_exit}
use Rattle.fb_ecc.specs.Trials.{IsExit, transition_at, transitions_at}
use Rattle.fb_ecc.specs.declared.chart.Exit.{Exit}
use Rattle.fb_ecc.proofs.lemmas.Links.{exits_read}
use Rattle.fb_ecc.proofs.lemmas.Trials.{target_meant}
use Rattle.fb_ecc.specs.declared.shared.Shared.{Shared}
use Rattle.fb_ecc.proofs.steps.clear.Goals as goal

pub first_exit-requires-clause-may : goal.first_exit-requires-clause-may
first_exit-requires-clause-may c = record {
  sound = c.requires.sound;
  program = subst (λ (x : Shared). IsProgramOf c.args.block.now x.program) (sym c.parts.ensures) c.requires.block.chart.program;
  declared = c.requires.block.declared;
}

pub first_exit-requires-clause-exits : goal.first_exit-requires-clause-exits
first_exit-requires-clause-exits c =
    let has = exits_read c.args.block.now c.args.state.now.chart.chart c.args.state.now.state c.leaving-exits.result.now c.requires.sound c.requires.block.chart.chart c.requires.block.state c.leaving-exits.ensures in
    has.each

pub returns-in-Some-clause-trial : goal.returns-in-Some-clause-trial
returns-in-Some-clause-trial c =
    let has = exits_read c.args.block.now c.args.state.now.chart.chart c.args.state.now.state c.leaving-exits.result.now c.requires.sound c.requires.block.chart.chart c.requires.block.state c.leaving-exits.ensures in
    let event : Option Name = option_map (event_at c.args.block.now.ports.event_inputs) c.args.present in
    let vars : Values = values_of c.args.state.now.frame in
    ap (λ (l : List Transition). trial_of l event vars c.args.meter.now.left) (sym has.leaving_is)
    ∙ c.in_ok-exit.ensures.trial ∙ ap (λ (o : Option Exit). trial_at_exit c.args.block.now (Ok o) c.first_exit.new.meter.left) c.in-Some.is

pub returns-in-Some-clause-first : goal.returns-in-Some-clause-first
returns-in-Some-clause-first c =
    let has = exits_read c.args.block.now c.args.state.now.chart.chart c.args.state.now.state c.leaving-exits.result.now c.requires.sound c.requires.block.chart.chart c.requires.block.state c.leaving-exits.ensures in
    let event : Option Name = option_map (event_at c.args.block.now.ports.event_inputs) c.args.present in
    let vars : Values = values_of c.args.state.now.frame in
    ap (λ (l : List Transition). first_true l event vars) (sym has.leaving_is)
    ∙ subst (λ (o : Option Exit). IfSome o (λ e. first_true (transitions_at c.args.block.now c.leaving-exits.result.now) event vars ≡ Some (transition_at c.args.block.now e.transition)))
    c.in-Some.is c.in_ok-exit.ensures.first

pub returns-in-Some-clause-index : goal.returns-in-Some-clause-index
returns-in-Some-clause-index c =
    let has = exits_read c.args.block.now c.args.state.now.chart.chart c.args.state.now.state c.leaving-exits.result.now c.requires.sound c.requires.block.chart.chart c.requires.block.state c.leaving-exits.ensures in
    let event : Option Name = option_map (event_at c.args.block.now.ports.event_inputs) c.args.present in
    let vars : Values = values_of c.args.state.now.frame in
    has.clearing_is event vars c.in-Some.exit
    (subst (λ (o : Option Exit). IfSome o (λ e. clearing_exit c.args.block.now c.leaving-exits.result.now event vars ≡ Some e)) c.in-Some.is c.in_ok-exit.ensures.clearing)

pub returns-in-Some-clause-within : goal.returns-in-Some-clause-within
returns-in-Some-clause-within c =
    let is = subst (λ (o : Option Exit). IfSome o (IsExit c.args.block.now)) c.in-Some.is c.in_ok-exit.ensures.exit in
    slice_get_within c.args.block.now.transitions c.in-Some.exit.transition is.0 is.1

pub returns-in-Some-clause-entered : goal.returns-in-Some-clause-entered
returns-in-Some-clause-entered c =
    let is = subst (λ (o : Option Exit). IfSome o (IsExit c.args.block.now)) c.in-Some.is c.in_ok-exit.ensures.exit in
    (target_meant c.args.block.now c.in-Some.exit c.requires.sound is).named

pub returns-in-Some-clause-block : goal.returns-in-Some-clause-block
returns-in-Some-clause-block c =
    let is = subst (λ (o : Option Exit). IfSome o (IsExit c.args.block.now)) c.in-Some.is c.in_ok-exit.ensures.exit in
    record {
      state = inr (target_meant c.args.block.now c.in-Some.exit c.requires.sound is).within;
      chart = c.requires.block.chart;
      declared = c.requires.block.declared;
    }

pub returns-in-None-clause-trial : goal.returns-in-None-clause-trial
returns-in-None-clause-trial c =
    let has = exits_read c.args.block.now c.args.state.now.chart.chart c.args.state.now.state c.leaving-exits.result.now c.requires.sound c.requires.block.chart.chart c.requires.block.state c.leaving-exits.ensures in
    let event : Option Name = option_map (event_at c.args.block.now.ports.event_inputs) c.args.present in
    let vars : Values = values_of c.args.state.now.frame in
    ap (λ (l : List Transition). trial_of l event vars c.args.meter.now.left) (sym has.leaving_is)
    ∙ c.in_ok-exit.ensures.trial ∙ ap (λ (o : Option Exit). trial_at_exit c.args.block.now (Ok o) c.first_exit.new.meter.left) c.in-None.is

pub returns-in_err-exit-clause-trial : goal.returns-in_err-exit-clause-trial
returns-in_err-exit-clause-trial c =
    let has = exits_read c.args.block.now c.args.state.now.chart.chart c.args.state.now.state c.leaving-exits.result.now c.requires.sound c.requires.block.chart.chart c.requires.block.state c.leaving-exits.ensures in
    let event : Option Name = option_map (event_at c.args.block.now.ports.event_inputs) c.args.present in
    let vars : Values = values_of c.args.state.now.frame in
    let x = err_from_is_err_and c.from_residual.result c.from_residual.ensures.1 in
    rw (x.1, x.2) (ap (λ (l : List Transition). trial_of l event vars c.args.meter.now.left) (sym has.leaving_is) ∙ c.in_err-exit.ensures.trial)
