-- What a chart needs of its type, as each accepted type has it (IEC 61499-1, 5.2; the name spaces are this project's profile).
use Rattle.std.specs.Prelude.{◌≡◌, ℕ, List, map, position, slice_get, Option, Some, None, Bool, true, ◌&&◌}
use Rattle.std.specs.List.{list_all}
use Rattle.fb_types.specs.Names.{Name, same_name}
use Rattle.fb_types.specs.Blocks.{among, event_names, variable_names, variables_of}
use Rattle.fb_types.specs.Repeated.{Twice, state_names, algorithm_names}
use Rattle.fb_types.specs.Syntax.{body_of}
use Rattle.fb_types.specs.declared.library.Action.{Action}
use Rattle.fb_types.specs.declared.library.BasicType.{BasicType}
use Rattle.fb_types.specs.declared.library.State.{State}
use Rattle.fb_types.specs.declared.library.Variable.{Variable}
use Rattle.fb_st.specs.Frames.{Declared}
use Rattle.fb_st.specs.Known.{AllKnown}

-- each name is first at its own index, so it is once
abbrev pub AreFirst : {A : Type 0} → (A → Name) → List A → Type 0
AreFirst {A} name_of xs =
    (i : ℕ) (x : A) → slice_get xs i ≡ Some x → position (λ y. same_name (name_of x) (name_of y)) xs ≡ Some i

-- what holds of each element
abbrev pub Each : {A : Type 0} → (A → Type 0) → List A → Type 0
Each {A} P xs = (i : ℕ) (x : A) → slice_get xs i ≡ Some x → P x

-- a variable with its type
abbrev pub declared_as : Variable → Declared
declared_as v = (v.name, v.ty)

-- the variables of a basic type, with their types
abbrev pub declared_by : BasicType → List Declared
declared_by t = map declared_as (variables_of t)

abbrev pub is_named : List Name → Option Name → Bool
is_named names None = true
is_named names (Some n) = among names n

abbrev pub action_known : BasicType → Action → Bool
action_known t a = is_named (algorithm_names t) a.algorithm && is_named (event_names t.ports.event_outputs) a.output

abbrev pub actions_known : BasicType → State → Bool
actions_known t s = list_all (action_known t) s.actions

-- States, event inputs and variables have names of their own; transitions, actions and algorithms name what there is.
pub record IsSound (t : BasicType) : Type 0 where
  pub states : AreFirst (λ s. s.name) t.states
  pub events : AreFirst (λ p. p.name) t.ports.event_inputs
  pub variables : ¬ (Twice (variable_names (variables_of t)))
  pub sources : list_all (λ x. among (state_names t) x.from) t.transitions ≡ true
  pub targets : list_all (λ x. among (state_names t) x.to) t.transitions ≡ true
  pub actions : list_all (actions_known t) t.states ≡ true
  pub bodies : Each (λ a. AllKnown (declared_by t) (body_of a.body)) t.algorithms
