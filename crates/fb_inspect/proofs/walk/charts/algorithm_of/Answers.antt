use Rattle.fb_types.proofs.Common.{◌≡◌, List, Some, None, sym, ◌∙◌, ap, slice_get}
use Rattle.fb_types.specs.declared.library.Action.{Action}
use Rattle.fb_inspect.proofs.lemmas.reactions.Actions.{actions_here}
use Rattle.fb_inspect.proofs.walk.charts.algorithm_of.Goals as goal

same_action : (a b : Action) → Some a ≡ Some b → a ≡ b
same_action a b e = cc

no_action : (a : Action) → None ≡ Some a → ⊥
no_action a e = cc

pub returns-in_err-action : goal.returns-in_err-action
returns-in_err-action c = λ a at.
    let t = c.args.block.now in
    let here = actions_here t c.args.state c.in_ok-state.state.now c.requires.sound (sym c.in_ok-state.ensures.value) in
    absurd (no_action a (c.in_err-action.ensures.value ∙ ap (λ (l : List Action). slice_get l c.args.action) (sym here) ∙ at))

pub returns : goal.returns
returns c = λ a at.
    let t = c.args.block.now in
    let here = actions_here t c.args.state c.in_ok-state.state.now c.requires.sound (sym c.in_ok-state.ensures.value) in
    c.as_ref.ensures.value
    ∙ ap (λ (x : Action). x.algorithm) (same_action c.in_ok-action.action.now a (c.in_ok-action.ensures.value ∙ ap (λ (l : List Action). slice_get l c.args.action) (sym here) ∙ at))
