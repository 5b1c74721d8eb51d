use Rattle.fb_types.proofs.Common.{◌≡◌, rules, ◌<◌, ℕ, List, length, Option, Some, None, Result, Ok, Err, Bool, inr, arith, sym, ◌∙◌, ap, subst, IfSome, option_map, length-map, err_from_is_err_and, Name, Acts, ChartReacts, Clears, Position, Values, actions_of, event_at}
use Rattle.std.specs.Prelude.{OnSome}
use Rattle.fb_types.specs.declared.library.BasicType.{BasicType}
use Rattle.fb_types.specs.declared.run.Halt.{Halt}
use Rattle.fb_types.specs.declared.value.Reason.TheVariants.{Steps}
use Rattle.fb_st.specs.Frames.{values_of, declared_in}
use Rattle.fb_st.specs.declared.meter.Meter.{Meter}
use Rattle.fb_ecc.specs.Actions.{AreActions}
use Rattle.fb_ecc.specs.Indexes.{Ended, index, sampled, state_at}
use Rattle.fb_ecc.specs.Links.{Chain}
use Rattle.fb_ecc.specs.Programs.{IsProgramOf}
use Rattle.fb_ecc.specs.Numbered.{chart_of, row_of}
use Rattle.fb_ecc.specs.Steps.{trial_at_exit}
use Rattle.fb_ecc.specs.Trials.{IsExit}
use Rattle.fb_ecc.specs.declared.chart.Act.{Act}
use Rattle.fb_ecc.specs.declared.chart.Chart.{Chart}
use Rattle.fb_ecc.specs.declared.chart.ChartState.{ChartState}
use Rattle.fb_ecc.specs.declared.chart.Exit.{Exit}
use Rattle.fb_ecc.proofs.lemmas.Actions.{begins_on, begins_same}
use Rattle.fb_ecc.proofs.lemmas.Links.{IsRow, chain_early, exits_read, fails, goes_on, linked_early, rests, row_read, stops_in, trial_here, variables_here}
use Rattle.fb_ecc.proofs.lemmas.Trials.{fails_waiting, none_waiting, target_meant}
use Rattle.fb_ecc.specs.declared.shared.Shared.{Shared}
use Rattle.fb_ecc.proofs.reaction.react.Goals as goal

pub links-init : goal.links-init
links-init c = record {
  linked = λ stop q chain. chain;
  within = c.requires.event;
  block = record {
    state = c.requires.block.state;
    chart = c.requires.block.chart;
    declared = c.sample.ensures.declared ∙ c.requires.block.declared;
  };
  fewer = omega arith;
  begins = begins_same c.args.emits.now;
  well_formed = λ all. all;
}

pub first_exit-requires-clause-may : goal.first_exit-requires-clause-may
first_exit-requires-clause-may c =
    let inv = c.links.invariant in
    record {
      sound = c.requires.sound;
      program = subst (λ (x : Shared). IsProgramOf c.args.block.now x.program) (sym c.parts-parts.ensures) inv.block.chart.program;
      declared = inv.block.declared;
    }

pub first_exit-requires-clause-exits : goal.first_exit-requires-clause-exits
first_exit-requires-clause-exits c =
    let t : BasicType = c.args.block.now in
    let inv = c.links.invariant in
    let has = exits_read t c.links.state.chart.chart c.links.state.state c.leaving-exits.result.now c.requires.sound inv.block.chart.chart inv.block.state c.leaving-exits.ensures in
    has.each

pub bounds-rows-exit : goal.bounds-rows-exit
bounds-rows-exit c =
    let t : BasicType = c.args.block.now in
    let leads = target_meant t c.in-Some.exit c.requires.sound (subst (λ (o : Option Exit). IfSome o (IsExit t)) c.in-Some.is c.in_ok-exit.ensures.exit) in
    let rows : (chart_of t).rows ≡ c.as_slice-rows.result.now = sym (c.as_slice-rows.ensures ∙ ap (λ (x : Shared). x.chart.rows) c.parts-parts.ensures ∙ ap (λ (x : Chart). x.rows) c.links.invariant.block.chart.chart) in
    subst (λ (l : List ChartState). c.in-Some.exit.target < length l) rows
    (subst (λ (n : ℕ). c.in-Some.exit.target < n) (sym (length-map t.states (row_of t))) leads.within)

pub perform_all-requires-clause-acts : goal.perform_all-requires-clause-acts
perform_all-requires-clause-acts c =
    let t : BasicType = c.args.block.now in
    let leads = target_meant t c.in-Some.exit c.requires.sound (subst (λ (o : Option Exit). IfSome o (IsExit t)) c.in-Some.is c.in_ok-exit.ensures.exit) in
    let actions = actions_of t (state_at t c.in-Some.exit.target) in
    let row = subst (λ (r : ChartState). IsRow t c.in-Some.exit.target r) (sym c.index-rows-exit.is)
    (row_read t c.links.state.chart.chart c.as_slice-rows.result.now c.in-Some.exit.target c.index-rows-exit.result c.requires.sound c.links.invariant.block.chart.chart (c.as_slice-rows.ensures ∙ ap (λ (x : Shared). x.chart.rows) c.parts-parts.ensures)
    leads.within) in
    (actions, subst (λ (l : List Act). AreActions t l actions) (sym c.as_slice-acts.ensures) row.acts)

-- ---- Where the reaction ends

pub returns-in_err-exit-clause-reacted : goal.returns-in_err-exit-clause-reacted
returns-in_err-exit-clause-reacted c =
    let t : BasicType = c.args.block.now in
    let inv = c.links.invariant in
    let state = c.links.state in
    let has = exits_read t state.chart.chart state.state c.leaving-exits.result.now c.requires.sound inv.block.chart.chart inv.block.state c.leaving-exits.ensures in
    let present : Option Name = option_map (event_at t.ports.event_inputs) c.links.present in
    let p : Position = index t state.state state.frame c.links.meter.left c.links.emits in
    let left : ℕ = c.first_exit.new.meter.left in
    let event : Name = event_at t.ports.event_inputs c.args.event in
    let at = variables_here t (declared_in c.args.state.now.frame) c.args.state.now.chart.chart c.as_slice-sampled.result.now c.args.event c.as_slice-slots.result.now c.index-sampled-event.result c.requires.block.declared c.requires.block.chart.chart
    (c.as_slice-sampled.ensures ∙ ap (λ (x : Shared). x.chart.sampled) c.parts.ensures) c.requires.event (c.as_slice-slots.ensures ∙ c.index-sampled-event.is) in
    let start : Position = index t c.args.state.now.state c.sample.new.frame c.args.meter.now.left c.args.emits.now in
    let begun : values_of c.sample.new.frame ≡ sampled t c.args.event c.args.values.now (values_of c.args.state.now.frame) =
    c.sample.ensures.sampled _ at in
    let tried = trial_here t c.leaving-exits.result.now present p _ has.leaving_is c.in_err-exit.ensures.trial in
    let x = err_from_is_err_and c.from_residual.result c.from_residual.ensures.1 in
    let z : Position = record p { left = left } in
    rw (x.1, x.2)
    (subst (λ (v : Values). ChartReacts t event (record start { vars = v }) (Some c.in_err-exit.field-0.0) z) begun (inv.linked (Some c.in_err-exit.field-0.0) z (fails t present p left c.in_err-exit.field-0.0 tried)))

pub returns-in-None-clause-reacted : goal.returns-in-None-clause-reacted
returns-in-None-clause-reacted c =
    let t : BasicType = c.args.block.now in
    let inv = c.links.invariant in
    let state = c.links.state in
    let has = exits_read t state.chart.chart state.state c.leaving-exits.result.now c.requires.sound inv.block.chart.chart inv.block.state c.leaving-exits.ensures in
    let present : Option Name = option_map (event_at t.ports.event_inputs) c.links.present in
    let p : Position = index t state.state state.frame c.links.meter.left c.links.emits in
    let left : ℕ = c.first_exit.new.meter.left in
    let event : Name = event_at t.ports.event_inputs c.args.event in
    let at = variables_here t (declared_in c.args.state.now.frame) c.args.state.now.chart.chart c.as_slice-sampled.result.now c.args.event c.as_slice-slots.result.now c.index-sampled-event.result c.requires.block.declared c.requires.block.chart.chart
    (c.as_slice-sampled.ensures ∙ ap (λ (x : Shared). x.chart.sampled) c.parts.ensures) c.requires.event (c.as_slice-slots.ensures ∙ c.index-sampled-event.is) in
    let start : Position = index t c.args.state.now.state c.sample.new.frame c.args.meter.now.left c.args.emits.now in
    let begun : values_of c.sample.new.frame ≡ sampled t c.args.event c.args.values.now (values_of c.args.state.now.frame) =
    c.sample.ensures.sampled _ at in
    let tried = trial_here t c.leaving-exits.result.now present p _ has.leaving_is (c.in_ok-exit.ensures.trial ∙ ap (λ (o : Option Exit). trial_at_exit t (Ok o) left) c.in-None.is) in
    let z : Position = record p { left = left } in
    (subst (λ (v : Values). ChartReacts t event (record start { vars = v }) (None) z) begun (inv.linked (None) z (rests t present p left tried)))

pub returns-in_err-perform_all-in-Some-clause-reacted : goal.returns-in_err-perform_all-in-Some-clause-reacted
returns-in_err-perform_all-in-Some-clause-reacted c =
    let t : BasicType = c.args.block.now in
    let inv = c.links.invariant in
    let state = c.links.state in
    let has = exits_read t state.chart.chart state.state c.leaving-exits.result.now c.requires.sound inv.block.chart.chart inv.block.state c.leaving-exits.ensures in
    let present : Option Name = option_map (event_at t.ports.event_inputs) c.links.present in
    let p : Position = index t state.state state.frame c.links.meter.left c.links.emits in
    let left : ℕ = c.first_exit.new.meter.left in
    let leads = target_meant t c.in-Some.exit c.requires.sound (subst (λ (o : Option Exit). IfSome o (IsExit t)) c.in-Some.is c.in_ok-exit.ensures.exit) in
    let target : Name = state_at t c.in-Some.exit.target in
    let m : Position = index t c.in-Some.exit.target state.frame left c.links.emits in
    let q : Position = index t c.in-Some.exit.target c.perform_all.new.frame c.perform_all.new.meter.left c.perform_all.new.emits in
    let tried = trial_here t c.leaving-exits.result.now present p _ has.leaving_is (c.in_ok-exit.ensures.trial ∙ ap (λ (o : Option Exit). trial_at_exit t (Ok o) left) c.in-Some.is ∙ ap (λ (n : Name). Clears n left) (sym leads.named)) in
    let actions = actions_of t target in
    let moves = Acts t actions left in
    let row = subst (λ (r : ChartState). IsRow t c.in-Some.exit.target r) (sym c.index-rows-exit.is)
    (row_read t state.chart.chart c.as_slice-rows.result.now c.in-Some.exit.target c.index-rows-exit.result c.requires.sound inv.block.chart.chart (c.as_slice-rows.ensures ∙ ap (λ (x : Shared). x.chart.rows) c.parts-parts.ensures)
    leads.within) in
    let are = subst (λ (l : List Act). AreActions t l actions) (sym c.as_slice-acts.ensures) row.acts in
    let performed = c.perform_all.ensures.performed actions c.in-Some.exit.target are in
    let event : Name = event_at t.ports.event_inputs c.args.event in
    let at = variables_here t (declared_in c.args.state.now.frame) c.args.state.now.chart.chart c.as_slice-sampled.result.now c.args.event c.as_slice-slots.result.now c.index-sampled-event.result c.requires.block.declared c.requires.block.chart.chart
    (c.as_slice-sampled.ensures ∙ ap (λ (x : Shared). x.chart.sampled) c.parts.ensures) c.requires.event (c.as_slice-slots.ensures ∙ c.index-sampled-event.is) in
    let start : Position = index t c.args.state.now.state c.sample.new.frame c.args.meter.now.left c.args.emits.now in
    let begun : values_of c.sample.new.frame ≡ sampled t c.args.event c.args.values.now (values_of c.args.state.now.frame) =
    c.sample.ensures.sampled _ at in
    let halt = c.in_err-perform_all-in-Some.field-0.0 in
    let ended = subst (λ (r : Result (Unit {0}) Halt). Ended r moves m q) c.in_err-perform_all-in-Some.was performed in
    let x = err_from_is_err_and c.from_residual-in_err-perform_all-in-Some.result c.from_residual-in_err-perform_all-in-Some.ensures.1 in
    let linked = linked_early t halt present moves p m q (λ r acts. stops_in t present p q target left r tried acts) ended in
    rw (x.1, x.2)
    (subst (λ (v : Values). Ended (Err halt) (ChartReacts t event) (record start { vars = v }) q) begun
    (chain_early t halt (Some event) present start p q (λ stop chain. inv.linked stop q chain) linked))

pub returns-in_err-goes_on-in-Some-clause-reacted : goal.returns-in_err-goes_on-in-Some-clause-reacted
returns-in_err-goes_on-in-Some-clause-reacted c =
    let t : BasicType = c.args.block.now in
    let inv = c.links.invariant in
    let state = c.links.state in
    let has = exits_read t state.chart.chart state.state c.leaving-exits.result.now c.requires.sound inv.block.chart.chart inv.block.state c.leaving-exits.ensures in
    let present : Option Name = option_map (event_at t.ports.event_inputs) c.links.present in
    let p : Position = index t state.state state.frame c.links.meter.left c.links.emits in
    let left : ℕ = c.first_exit.new.meter.left in
    let leads = target_meant t c.in-Some.exit c.requires.sound (subst (λ (o : Option Exit). IfSome o (IsExit t)) c.in-Some.is c.in_ok-exit.ensures.exit) in
    let target : Name = state_at t c.in-Some.exit.target in
    let m : Position = index t c.in-Some.exit.target state.frame left c.links.emits in
    let q : Position = index t c.in-Some.exit.target c.perform_all.new.frame c.perform_all.new.meter.left c.perform_all.new.emits in
    let tried = trial_here t c.leaving-exits.result.now present p _ has.leaving_is (c.in_ok-exit.ensures.trial ∙ ap (λ (o : Option Exit). trial_at_exit t (Ok o) left) c.in-Some.is ∙ ap (λ (n : Name). Clears n left) (sym leads.named)) in
    let actions = actions_of t target in
    let moves = Acts t actions left in
    let row = subst (λ (r : ChartState). IsRow t c.in-Some.exit.target r) (sym c.index-rows-exit.is)
    (row_read t state.chart.chart c.as_slice-rows.result.now c.in-Some.exit.target c.index-rows-exit.result c.requires.sound inv.block.chart.chart (c.as_slice-rows.ensures ∙ ap (λ (x : Shared). x.chart.rows) c.parts-parts.ensures)
    leads.within) in
    let are = subst (λ (l : List Act). AreActions t l actions) (sym c.as_slice-acts.ensures) row.acts in
    let performed = c.perform_all.ensures.performed actions c.in-Some.exit.target are in
    let event : Name = event_at t.ports.event_inputs c.args.event in
    let at = variables_here t (declared_in c.args.state.now.frame) c.args.state.now.chart.chart c.as_slice-sampled.result.now c.args.event c.as_slice-slots.result.now c.index-sampled-event.result c.requires.block.declared c.requires.block.chart.chart
    (c.as_slice-sampled.ensures ∙ ap (λ (x : Shared). x.chart.sampled) c.parts.ensures) c.requires.event (c.as_slice-slots.ensures ∙ c.index-sampled-event.is) in
    let start : Position = index t c.args.state.now.state c.sample.new.frame c.args.meter.now.left c.args.emits.now in
    let begun : values_of c.sample.new.frame ≡ sampled t c.args.event c.args.values.now (values_of c.args.state.now.frame) =
    c.sample.ensures.sampled _ at in
    let ended = subst (λ (r : Result (Unit {0}) Halt). Ended r moves m q) c.in_ok-perform_all-in-Some.was performed in
    let out = c.in_err-goes_on-in-Some.ensures.fails in
    let stops = trial_here t c.index-rows-exit.result.exits None q _ row.leaving_is
    (fails_waiting t q.vars c.index-rows-exit.result.exits q.left row.exits (sym row.waiting ∙ out.1) out.2) in
    let x = err_from_is_err_and c.from_residual-in_err-goes_on-in-Some.result c.from_residual-in_err-goes_on-in-Some.ensures.1 in
    let z : Position = record q { left = 0 } in
    rw (x.1, x.2, out.0, out.3)
    (subst (λ (v : Values). ChartReacts t event (record start { vars = v }) (Some Steps) z) begun (inv.linked (Some Steps) z (goes_on t present p q z target left (Some Steps) tried ended (fails t None q 0 Steps stops))))

pub returns-then-not-branch-clause-reacted : goal.returns-then-not-branch-clause-reacted
returns-then-not-branch-clause-reacted c =
    let t : BasicType = c.args.block.now in
    let inv = c.links.invariant in
    let state = c.links.state in
    let has = exits_read t state.chart.chart state.state c.leaving-exits.result.now c.requires.sound inv.block.chart.chart inv.block.state c.leaving-exits.ensures in
    let present : Option Name = option_map (event_at t.ports.event_inputs) c.links.present in
    let p : Position = index t state.state state.frame c.links.meter.left c.links.emits in
    let left : ℕ = c.first_exit.new.meter.left in
    let leads = target_meant t c.in-Some.exit c.requires.sound (subst (λ (o : Option Exit). IfSome o (IsExit t)) c.in-Some.is c.in_ok-exit.ensures.exit) in
    let target : Name = state_at t c.in-Some.exit.target in
    let m : Position = index t c.in-Some.exit.target state.frame left c.links.emits in
    let q : Position = index t c.in-Some.exit.target c.perform_all.new.frame c.perform_all.new.meter.left c.perform_all.new.emits in
    let tried = trial_here t c.leaving-exits.result.now present p _ has.leaving_is (c.in_ok-exit.ensures.trial ∙ ap (λ (o : Option Exit). trial_at_exit t (Ok o) left) c.in-Some.is ∙ ap (λ (n : Name). Clears n left) (sym leads.named)) in
    let actions = actions_of t target in
    let moves = Acts t actions left in
    let row = subst (λ (r : ChartState). IsRow t c.in-Some.exit.target r) (sym c.index-rows-exit.is)
    (row_read t state.chart.chart c.as_slice-rows.result.now c.in-Some.exit.target c.index-rows-exit.result c.requires.sound inv.block.chart.chart (c.as_slice-rows.ensures ∙ ap (λ (x : Shared). x.chart.rows) c.parts-parts.ensures)
    leads.within) in
    let are = subst (λ (l : List Act). AreActions t l actions) (sym c.as_slice-acts.ensures) row.acts in
    let performed = c.perform_all.ensures.performed actions c.in-Some.exit.target are in
    let event : Name = event_at t.ports.event_inputs c.args.event in
    let at = variables_here t (declared_in c.args.state.now.frame) c.args.state.now.chart.chart c.as_slice-sampled.result.now c.args.event c.as_slice-slots.result.now c.index-sampled-event.result c.requires.block.declared c.requires.block.chart.chart
    (c.as_slice-sampled.ensures ∙ ap (λ (x : Shared). x.chart.sampled) c.parts.ensures) c.requires.event (c.as_slice-slots.ensures ∙ c.index-sampled-event.is) in
    let start : Position = index t c.args.state.now.state c.sample.new.frame c.args.meter.now.left c.args.emits.now in
    let begun : values_of c.sample.new.frame ≡ sampled t c.args.event c.args.values.now (values_of c.args.state.now.frame) =
    c.sample.ensures.sampled _ at in
    let ended = subst (λ (r : Result (Unit {0}) Halt). Ended r moves m q) c.in_ok-perform_all-in-Some.was performed in
    let out = c.goes_on.ensures.rests (c.in_ok-goes_on-in-Some.was ∙ ap (λ (b : Bool). Ok b) c.if-not-branch.true) in
    let z : Position = record q { left = c.goes_on.new.meter.left } in
    let stays = rests t None q c.goes_on.new.meter.left
    (trial_here t c.index-rows-exit.result.exits None q _ row.leaving_is
    (none_waiting t q.vars c.index-rows-exit.result.exits q.left c.goes_on.new.meter.left row.exits (sym row.waiting ∙ out.0) out.1)) in
    (subst (λ (v : Values). ChartReacts t event (record start { vars = v }) (None) z) begun (inv.linked (None) z (goes_on t present p q z target left None tried ended stays)))

-- ---- Where it goes on

pub links-preserved : goal.links-preserved
links-preserved c =
    let t : BasicType = c.args.block.now in
    let inv = c.links.invariant in
    let state = c.links.state in
    let has = exits_read t state.chart.chart state.state c.leaving-exits.result.now c.requires.sound inv.block.chart.chart inv.block.state c.leaving-exits.ensures in
    let present : Option Name = option_map (event_at t.ports.event_inputs) c.links.present in
    let p : Position = index t state.state state.frame c.links.meter.left c.links.emits in
    let left : ℕ = c.first_exit.new.meter.left in
    let leads = target_meant t c.in-Some.exit c.requires.sound (subst (λ (o : Option Exit). IfSome o (IsExit t)) c.in-Some.is c.in_ok-exit.ensures.exit) in
    let target : Name = state_at t c.in-Some.exit.target in
    let m : Position = index t c.in-Some.exit.target state.frame left c.links.emits in
    let q : Position = index t c.in-Some.exit.target c.perform_all.new.frame c.perform_all.new.meter.left c.perform_all.new.emits in
    let tried = trial_here t c.leaving-exits.result.now present p _ has.leaving_is (c.in_ok-exit.ensures.trial ∙ ap (λ (o : Option Exit). trial_at_exit t (Ok o) left) c.in-Some.is ∙ ap (λ (n : Name). Clears n left) (sym leads.named)) in
    let actions = actions_of t target in
    let moves = Acts t actions left in
    let row = subst (λ (r : ChartState). IsRow t c.in-Some.exit.target r) (sym c.index-rows-exit.is)
    (row_read t state.chart.chart c.as_slice-rows.result.now c.in-Some.exit.target c.index-rows-exit.result c.requires.sound inv.block.chart.chart (c.as_slice-rows.ensures ∙ ap (λ (x : Shared). x.chart.rows) c.parts-parts.ensures)
    leads.within) in
    let are = subst (λ (l : List Act). AreActions t l actions) (sym c.as_slice-acts.ensures) row.acts in
    let performed = c.perform_all.ensures.performed actions c.in-Some.exit.target are in
    let ended = subst (λ (r : Result (Unit {0}) Halt). Ended r moves m q) c.in_ok-perform_all-in-Some.was performed in
    let went = c.in_ok-goes_on-in-Some.was ∙ ap (λ (b : Bool). Ok b) c.if-not-branch.false in
    let same = ap (λ (n : Meter). n.left) (c.goes_on.ensures.on went) in
    record {
      linked = λ stop last rest. inv.linked stop last
          (goes_on t present p q last target left stop tried ended
          (subst (λ (n : ℕ). Chain t None (index t c.in-Some.exit.target c.perform_all.new.frame n c.perform_all.new.emits) stop last) same rest));
      within = search rules;
      block = record { state = inr leads.within; chart = inv.block.chart; declared = c.perform_all.ensures.kept.declared ∙ inv.block.declared };
      fewer = let a = c.links.invariant.fewer in let b = c.first_exit.ensures.fewer in let d = c.perform_all.ensures.kept.fewer in let e = c.goes_on.ensures.fewer in omega arith;
      begins = begins_on c.args.emits.now c.links.emits c.perform_all.new.emits c.links.invariant.begins c.perform_all.ensures.kept.begins;
      well_formed = λ all. c.perform_all.ensures.kept.well_formed (inv.well_formed all);
    }

pub links-smaller : goal.links-smaller
links-smaller c =
    let less = subst (λ (o : Option Exit). OnSome o (c.first_exit.new.meter.left < c.links.meter.left)) c.in-Some.is c.in_ok-exit.ensures.less in
    let d = c.perform_all.ensures.kept.fewer in let e = c.goes_on.ensures.fewer in omega arith

-- ---- What is kept

pub returns-in_err-perform_all-in-Some-clause-fewer : goal.returns-in_err-perform_all-in-Some-clause-fewer
returns-in_err-perform_all-in-Some-clause-fewer c =
    let a = c.links.invariant.fewer in let b = c.first_exit.ensures.fewer in let d = c.perform_all.ensures.kept.fewer in omega arith

pub returns-in_err-perform_all-in-Some-clause-block : goal.returns-in_err-perform_all-in-Some-clause-block
returns-in_err-perform_all-in-Some-clause-block c =
    let t : BasicType = c.args.block.now in
    let leads = target_meant t c.in-Some.exit c.requires.sound (subst (λ (o : Option Exit). IfSome o (IsExit t)) c.in-Some.is c.in_ok-exit.ensures.exit) in
    record { state = inr leads.within; chart = c.links.invariant.block.chart; declared = c.perform_all.ensures.kept.declared ∙ c.links.invariant.block.declared }

pub returns-in_err-perform_all-in-Some-clause-kept : goal.returns-in_err-perform_all-in-Some-clause-kept
returns-in_err-perform_all-in-Some-clause-kept c =
    begins_on c.args.emits.now c.links.emits c.perform_all.new.emits c.links.invariant.begins c.perform_all.ensures.kept.begins

pub returns-in_err-perform_all-in-Some-clause-well_formed : goal.returns-in_err-perform_all-in-Some-clause-well_formed
returns-in_err-perform_all-in-Some-clause-well_formed c =
    λ all. c.perform_all.ensures.kept.well_formed (c.links.invariant.well_formed all)

pub returns-in_err-goes_on-in-Some-clause-fewer : goal.returns-in_err-goes_on-in-Some-clause-fewer
returns-in_err-goes_on-in-Some-clause-fewer c =
    let a = c.links.invariant.fewer in let b = c.first_exit.ensures.fewer in let d = c.perform_all.ensures.kept.fewer in let e = c.goes_on.ensures.fewer in omega arith

pub returns-in_err-goes_on-in-Some-clause-block : goal.returns-in_err-goes_on-in-Some-clause-block
returns-in_err-goes_on-in-Some-clause-block c =
    let t : BasicType = c.args.block.now in
    let leads = target_meant t c.in-Some.exit c.requires.sound (subst (λ (o : Option Exit). IfSome o (IsExit t)) c.in-Some.is c.in_ok-exit.ensures.exit) in
    record { state = inr leads.within; chart = c.links.invariant.block.chart; declared = c.perform_all.ensures.kept.declared ∙ c.links.invariant.block.declared }

pub returns-in_err-goes_on-in-Some-clause-kept : goal.returns-in_err-goes_on-in-Some-clause-kept
returns-in_err-goes_on-in-Some-clause-kept c =
    begins_on c.args.emits.now c.links.emits c.perform_all.new.emits c.links.invariant.begins c.perform_all.ensures.kept.begins

pub returns-in_err-goes_on-in-Some-clause-well_formed : goal.returns-in_err-goes_on-in-Some-clause-well_formed
returns-in_err-goes_on-in-Some-clause-well_formed c =
    λ all. c.perform_all.ensures.kept.well_formed (c.links.invariant.well_formed all)

pub returns-then-not-branch-clause-fewer : goal.returns-then-not-branch-clause-fewer
returns-then-not-branch-clause-fewer c =
    let a = c.links.invariant.fewer in let b = c.first_exit.ensures.fewer in let d = c.perform_all.ensures.kept.fewer in let e = c.goes_on.ensures.fewer in omega arith

pub returns-then-not-branch-clause-block : goal.returns-then-not-branch-clause-block
returns-then-not-branch-clause-block c =
    let t : BasicType = c.args.block.now in
    let leads = target_meant t c.in-Some.exit c.requires.sound (subst (λ (o : Option Exit). IfSome o (IsExit t)) c.in-Some.is c.in_ok-exit.ensures.exit) in
    record { state = inr leads.within; chart = c.links.invariant.block.chart; declared = c.perform_all.ensures.kept.declared ∙ c.links.invariant.block.declared }

pub returns-then-not-branch-clause-kept : goal.returns-then-not-branch-clause-kept
returns-then-not-branch-clause-kept c =
    begins_on c.args.emits.now c.links.emits c.perform_all.new.emits c.links.invariant.begins c.perform_all.ensures.kept.begins

pub returns-then-not-branch-clause-well_formed : goal.returns-then-not-branch-clause-well_formed
returns-then-not-branch-clause-well_formed c =
    λ all. c.perform_all.ensures.kept.well_formed (c.links.invariant.well_formed all)

pub returns-in_err-exit-clause-kept : goal.returns-in_err-exit-clause-kept
returns-in_err-exit-clause-kept c =
    c.links.invariant.begins

pub returns-in_err-exit-clause-well_formed : goal.returns-in_err-exit-clause-well_formed
returns-in_err-exit-clause-well_formed c =
    λ all. c.links.invariant.well_formed all

pub returns-in-None-clause-kept : goal.returns-in-None-clause-kept
returns-in-None-clause-kept c =
    c.links.invariant.begins

pub returns-in-None-clause-well_formed : goal.returns-in-None-clause-well_formed
returns-in-None-clause-well_formed c =
    λ all. c.links.invariant.well_formed all
