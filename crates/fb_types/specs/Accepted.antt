-- What is refused of a declaration, a deployment and stimuli (IEC 61499-1, 5 to 7; this project's profile). Each condition is stated for inputs to which no earlier one applies.
use Rattle.std.specs.Prelude.{◌≡◌, ◌⊎◌, ◌<◌, ℕ, List, [], ◌∷◌, map, length, Bool, true, false, Option, Some, None, Contains, option_and_then}
use Rattle.std.specs.List.{list_all}
use Rattle.fb_types.specs.Names.{Name}
use Rattle.fb_types.specs.Values.{fits}
use Rattle.fb_types.specs.Blocks.{Kind, named, ports_of, is_event_input, inputs_with}
use Rattle.fb_types.specs.Flat.{instance_in, kind_of_instance, paths_of, source_of}
use Rattle.fb_types.specs.Repeated.{Twice, NameTwice}
use Rattle.fb_types.specs.Unknown.{NameUnknown}
use Rattle.fb_types.specs.Kinds.{KindWrong}
use Rattle.fb_types.specs.Joined.{OutOfRange, TwoSources, TooHigh}
use Rattle.fb_types.specs.Mapped.{NotMapped, NoLink, NoEvent}
use Rattle.fb_types.specs.declared.library.Library.{Library}
use Rattle.fb_types.specs.declared.library.Ports.{Ports}
use Rattle.fb_types.specs.declared.deploy.Plan.{Plan}
use Rattle.fb_types.specs.declared.deploy.Stimulus.{Stimulus}
use Rattle.fb_types.specs.declared.deploy.Setting.{Setting}

-- ---- E29: stimuli

abbrev pub kind_of_stimulus : Library → Stimulus → Option Kind
kind_of_stimulus lib s = option_and_then (kind_of_instance lib) (instance_in lib.application.network s.instance)

abbrev pub set_names : Stimulus → List Name
set_names s = map (λ x. x.variable) s.settings

abbrev pub is_held : Ports → Setting → Bool
is_held its x = elim (named (λ v. v.name) x.variable its.inputs) [ None ↦ false | Some v ↦ fits v.ty x.value ]

-- A stimulus names an event input of an instance of the application, and sets variables WITH that event, each once, that
-- are not connected and whose types contain the values.
pub record IsGood (lib : Library) (s : Stimulus) : Type 0 where
  pub kind : Kind
  pub of_kind : kind_of_stimulus lib s ≡ Some kind
  pub is_event : is_event_input (ports_of kind) s.event ≡ true
  pub once : ¬ (Twice (set_names s))
  pub with_event : (x : Name) → Contains (set_names s) x → Contains (inputs_with (ports_of kind) s.event) x
  pub unconnected : (x : Name) → Contains (set_names s) x → source_of lib (record { at = s.instance ∷ []; name = x }) ≡ None
  pub held : list_all (is_held (ports_of kind)) s.settings ≡ true

abbrev pub BadStimulus : Library → List Stimulus → Type 0
BadStimulus lib stimuli = (s : Stimulus) × Contains stimuli s × ¬ (IsGood lib s)

-- ---- E30: limits

abbrev pub OverLimit : Library → List Stimulus → Type 0
OverLimit lib stimuli = (4096 < length (paths_of lib)) ⊎ (100000 < length stimuli)

-- ---- Acceptance

-- What the numbers from E20 to E30 mean.
abbrev pub Applies : (number : ℕ) → Library → Plan → List Stimulus → Type 0
Applies n lib plan stimuli =
    ((n ≡ 20) × NameTwice lib plan) ⊎ ((n ≡ 21) × NameUnknown lib plan) ⊎ ((n ≡ 22) × KindWrong lib)
    ⊎ ((n ≡ 23) × OutOfRange lib) ⊎ ((n ≡ 24) × TwoSources lib) ⊎ ((n ≡ 25) × TooHigh lib)
    ⊎ ((n ≡ 26) × NotMapped lib plan) ⊎ ((n ≡ 27) × NoLink lib plan) ⊎ ((n ≡ 28) × NoEvent lib plan)
    ⊎ ((n ≡ 29) × BadStimulus lib stimuli) ⊎ ((n ≡ 30) × OverLimit lib stimuli)

-- The refusal: the least number that applies.
pub record IsLeastFault (n : ℕ) (lib : Library) (plan : Plan) (stimuli : List Stimulus) : Type 0 where
  pub applies : Applies n lib plan stimuli
  pub least : (m : ℕ) → m < n → ¬ (Applies m lib plan stimuli)

abbrev pub IsAccepted : Library → Plan → List Stimulus → Type 0
IsAccepted lib plan stimuli = (n : ℕ) → ¬ (Applies n lib plan stimuli)
