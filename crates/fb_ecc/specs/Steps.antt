-- The steps of a chain of states, one after another: the transition that clears, and the actions of the state that it enters.
use Rattle.std.specs.Prelude.{◌≡◌, ℕ, suc, List, [], ◌∷◌, Bool, true, false, if◌then◌else◌, Option, Some, None, Result, Ok, Err, slice_get}
use Rattle.fb_types.specs.Names.{Name, same_name}
use Rattle.fb_types.specs.Charts.{Trial, Clears, NoneClears, Fails, is_true, leaving}
use Rattle.fb_types.specs.Values.{Values}
use Rattle.fb_types.specs.declared.library.BasicType.{BasicType}
use Rattle.fb_types.specs.declared.library.Transition.{Transition}
use Rattle.fb_types.specs.declared.value.Reason.{Reason}
use Rattle.fb_ecc.specs.declared.chart.Act.{Act}
use Rattle.fb_ecc.specs.declared.chart.ChartState.{ChartState}
use Rattle.fb_ecc.specs.declared.chart.Exit.{Exit}
use Rattle.fb_ecc.specs.Trials.{transition_at}

abbrev pub first_by : Result Bool Reason → Transition → Option Transition → Option Transition
first_by (Ok true) t later = Some t
first_by (Ok false) t later = later
first_by (Err r) t later = None

-- the first true transition
abbrev pub first_true : List Transition → (present : Option Name) → Values → Option Transition
first_true [] present vars = None
first_true (t ∷ ts) present vars = first_by (is_true t.condition present vars) t (first_true ts present vars)

-- what trying the transitions came to, by the index of the transition that cleared
abbrev pub trial_by : BasicType → Result (Option ℕ) Reason → (left : ℕ) → Trial
trial_by t (Ok None) left = NoneClears left
trial_by t (Ok (Some k)) left = Clears (transition_at t k).to left
trial_by t (Err r) left = Fails r left

-- the trial of a state's transitions, by the exit that cleared
abbrev pub trial_at_exit : BasicType → Result (Option Exit) Reason → (left : ℕ) → Trial
trial_at_exit t (Ok None) left = NoneClears left
trial_at_exit t (Ok (Some e)) left = Clears (transition_at t e.transition).to left
trial_at_exit t (Err r) left = Fails r left

-- The transition at this index is the first true one of those that leave a state.
abbrev pub IsFirst : BasicType → (state : Name) → (present : Option Name) → Values → (transition : ℕ) → Type 0
IsFirst t s present vars k = first_true (leaving t s) present vars ≡ Some (transition_at t k)

-- what is first, by the result of trying it
abbrev pub first_or : {A : Type 0} → Result Bool Reason → A → (later : Option A) → Option A
first_or (Ok true) x later = Some x
first_or (Ok false) x later = later
first_or (Err r) x later = None

-- the first true exit
abbrev pub clearing_exit : BasicType → List Exit → (present : Option Name) → Values → Option Exit
clearing_exit t [] present vars = None
clearing_exit t (e ∷ es) present vars =
    first_or (is_true (transition_at t e.transition).condition present vars) e (clearing_exit t es present vars)

-- the index of the first true transition of those that leave a state, where the first of the list is at that index
abbrev pub clearing_index : (state : Name) → (index : ℕ) → List Transition → (present : Option Name) → Values → Option ℕ
clearing_index s k [] present vars = None
clearing_index s k (x ∷ xs) present vars =
    let later = clearing_index s (suc k) xs present vars in
    if same_name x.from s then first_or (is_true x.condition present vars) k later else later

-- ---- Actions

-- the actions of the state at an index, or none
abbrev pub acts_at : List ChartState → ℕ → List Act
acts_at rows i = elim (slice_get rows i) [ None ↦ [] | Some row ↦ row.acts ]
