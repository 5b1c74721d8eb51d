-- The actions of the state at an index.
use Rattle.fb_types.proofs.Common.{◌≡◌, ℕ, List, [], Option, Some, None, ◌∙◌, ap, option_and_then, slice_get, named, actions_of}
use Rattle.fb_types.specs.declared.library.Action.{Action}
use Rattle.fb_types.specs.declared.library.BasicType.{BasicType}
use Rattle.fb_types.specs.declared.library.State.{State}
use Rattle.fb_st.proofs.lemmas.Indexes.{named_at_index}
use Rattle.fb_ecc.specs.Indexes.{state_at}
use Rattle.fb_ecc.specs.Sound.{IsSound}
use Rattle.fb_ecc.proofs.lemmas.Trials.{state_here}

abbrev actions_or : Option State → List Action
actions_or o = elim o [ None ↦ [] | Some x ↦ x.actions ]

pub actions_here : (t : BasicType) (i : ℕ) (s : State) → IsSound t → slice_get t.states i ≡ Some s → actions_of t (state_at t i) ≡ s.actions
actions_here t i s sound at =
    let there : named (λ x. x.name) s.name t.states ≡ Some s =
    named_at_index (λ x. x.name) s.name t.states ∙ ap (option_and_then (slice_get t.states)) (sound.states i s at) ∙ at in
    ap (actions_of t) (state_here t i s at) ∙ ap actions_or there
