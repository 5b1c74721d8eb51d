use Rattle.fb_types.proofs.Common.{◌∙◌, ap, List, [], ◌∷◌, None, arith, subst, sym, actions_of}
use Rattle.fb_types.specs.declared.library.Action.{Action}
use Rattle.fb_types.proofs.lemmas.lists.ByIndex.{element_at}
use Rattle.fb_ecc.specs.Actions.{AreActions}
use Rattle.fb_ecc.specs.Indexes.{state_at}
use Rattle.fb_ecc.specs.declared.chart.Act.{Act}
use Rattle.fb_ecc.proofs.lemmas.Stepwise.{act_at, acts_read, acts_within}
use Rattle.fb_ecc.specs.declared.shared.Shared.{Shared}
use Rattle.fb_ecc.proofs.steps.act.Goals as goal

abbrev unread : Act
unread = record { algorithm = None; output = None }

pub bounds-acts-index : goal.bounds-acts-index
bounds-acts-index c =
    let are = acts_read c.args.block.now c.args.state.now.chart.chart c.as_slice.result.now c.args.state.now.state c.acts_of-acts.result.now c.requires.sound c.requires.block.chart.chart c.requires.block.state (c.as_slice.ensures ∙ ap (λ (x : Shared). x.chart.rows) c.parts.ensures) c.acts_of-acts.ensures in
    acts_within c.args.block.now c.acts_of-acts.result.now (actions_of c.args.block.now (state_at c.args.block.now c.args.state.now.state)) c.args.index are c.requires.within

pub offset_bounds-acts-index : goal.offset_bounds-acts-index
offset_bounds-acts-index c =
    let are = acts_read c.args.block.now c.args.state.now.chart.chart c.as_slice.result.now c.args.state.now.state c.acts_of-acts.result.now c.requires.sound c.requires.block.chart.chart c.requires.block.state (c.as_slice.ensures ∙ ap (λ (x : Shared). x.chart.rows) c.parts.ensures) c.acts_of-acts.ensures in
    let within = acts_within c.args.block.now c.acts_of-acts.result.now (actions_of c.args.block.now (state_at c.args.block.now c.args.state.now.state)) c.args.index are c.requires.within in
    let sized = c.acts_of-acts.type_inv in
    omega arith

pub perform_all-requires-clause-acts : goal.perform_all-requires-clause-acts
perform_all-requires-clause-acts c =
    let are = acts_read c.args.block.now c.args.state.now.chart.chart c.as_slice.result.now c.args.state.now.state c.acts_of-acts.result.now c.requires.sound c.requires.block.chart.chart c.requires.block.state (c.as_slice.ensures ∙ ap (λ (x : Shared). x.chart.rows) c.parts.ensures) c.acts_of-acts.ensures in
    let actions : List Action = actions_of c.args.block.now (state_at c.args.block.now c.args.state.now.state) in
    let a = element_at actions c.args.index c.requires.within in
    let act = act_at c.args.block.now c.acts_of-acts.result.now actions c.args.index unread a.0 are a.1 in
    (a.0 ∷ [], subst (λ (l : List Act). AreActions c.args.block.now l (a.0 ∷ [])) (sym c.from_ref-act.ensures.value) (act, tt))

pub returns-clause-performed : goal.returns-clause-performed
returns-clause-performed c = λ a at.
    let are = acts_read c.args.block.now c.args.state.now.chart.chart c.as_slice.result.now c.args.state.now.state c.acts_of-acts.result.now c.requires.sound c.requires.block.chart.chart c.requires.block.state (c.as_slice.ensures ∙ ap (λ (x : Shared). x.chart.rows) c.parts.ensures) c.acts_of-acts.ensures in
    let actions : List Action = actions_of c.args.block.now (state_at c.args.block.now c.args.state.now.state) in
    let act = act_at c.args.block.now c.acts_of-acts.result.now actions c.args.index unread a are at in
    c.perform_all.ensures.performed (a ∷ []) c.args.state.now.state
    (subst (λ (l : List Act). AreActions c.args.block.now l (a ∷ [])) (sym c.from_ref-act.ensures.value) (act, tt))
