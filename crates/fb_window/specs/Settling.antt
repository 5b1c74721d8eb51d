-- What becomes of the core when all jobs of a phase have come home and their messages are exchanged (this project's profile).
use Rattle.std.specs.Global.{Vec}
use Rattle.std.specs.List.Sorted.{IsPermutation}
use Rattle.std.specs.Prelude.{◌≡◌, ℕ, ◌+◌, ◌<◌, ◌≤◌, ◌++◌, List, [], ◌∷◌, map, All, Option, Some, None, slice_index_or}
use Rattle.fb_types.specs.Headline.{Inputs, system_of, stimuli_of}
use Rattle.fb_types.specs.Machines.{Item}
use Rattle.fb_types.specs.Numbers.{line_of}
use Rattle.fb_types.specs.Parts.{machine, count_of}
use Rattle.fb_types.specs.States as model
use Rattle.fb_types.specs.Merges.{IsMerge}
use Rattle.fb_types.specs.Cores.{CoreStep, Exchange, IsFloor, IsLegal, opening_core}
use Rattle.fb_types.specs.Cores as model_cores
use Rattle.fb_types.specs.Schedules.{IsSchedule, IsAtHorizon, IsLeastStop}
use Rattle.fb_types.specs.declared.run.Line.{Line}
use Rattle.fb_types.specs.declared.value.Reason.{Reason}
use Rattle.fb_system.specs.Lines.{BelongsTo}
use Rattle.fb_trace.specs.Merging.{AreMerged, AreRising, Lists, flat}
use Rattle.fb_resource.specs.declared.resource.Resource.{Resource}
use Rattle.fb_laws.specs.ScheduleLaw.{lines_to}
use Rattle.fb_laws.specs.Phases.{Loan, IsPhase, IsLegalLoan}
use Rattle.fb_laws.specs.Finality.{HasHanded, HasKept, core_of}
use Rattle.fb_window.specs.Standing.{IsAt}
use Rattle.fb_window.specs.declared.cores.CoreState.{CoreState}
use Rattle.fb_window.specs.declared.cores.Reach.{Reach}
use Rattle.fb_window.specs.declared.cores.Reach.TheVariants as reach
use Rattle.fb_window.specs.declared.cores.Settled.{Settled}
use Rattle.fb_window.specs.declared.cores.Settled.TheVariants.{Going, Ended, Stopped}
use Rattle.fb_window.specs.declared.ends.End.{End}
use Rattle.fb_window.specs.declared.ends.End.TheVariants.{Open, Horizon, Stop}

-- The run is under way: these steps have brought the core to these resources, these lines were handed out, and the others are kept.
pub record IsUnderWay (i : Inputs) (limit horizon : ℕ) (es : List (CoreStep (machine (system_of i) limit))) (xs : List Resource) (pending : List (List Line)) (ls : List model.Line) : Type 0 where
  pub schedule : IsSchedule (machine (system_of i) limit) horizon (opening_core (system_of i) (stimuli_of i) limit) es
  pub at : IsAt i limit (core_of i limit es) xs
  pub left : HasHanded i limit horizon (core_of i limit es) pending ls

-- ---- Loans

-- The loans of a phase: each resource that has not stopped has its own, with the worker that drew it and its bound, and that is legal; and no other has.
pub record AreLoans (i : Inputs) (limit horizon : ℕ) (c : model_cores.Core (machine (system_of i) limit)) (bounds : List ℕ) (workers : ℕ → ℕ) (loans : ℕ → Option (Loan (machine (system_of i) limit))) : Type 0 where
  pub live : (r : ℕ) → r < count_of (system_of i) → (c r).state.stop ≡ None → (run : List (Item (machine (system_of i) limit))) × (loans r ≡ Some (record { worker = workers r; bound = slice_index_or bounds r 0; run = run }))
  pub stopped : (r : ℕ) (reason : Reason) → (c r).state.stop ≡ Some reason → loans r ≡ None
  pub others : (r : ℕ) → count_of (system_of i) ≤ r → loans r ≡ None
  pub may : (r : ℕ) (t : Loan (machine (system_of i) limit)) → loans r ≡ Some t → IsLegalLoan (machine (system_of i) limit) horizon c r t

-- ---- What is settled

-- the lists in vectors
abbrev pub lists_of : List (Vec Line) → List (List Line)
lists_of ps = map (λ p. p.items) ps

-- The core has come from c to d. It keeps the lines that are not final, and those that have become so are handed out.
pub record IsKept (i : Inputs) (limit horizon : ℕ) (c d : model_cores.Core (machine (system_of i) limit)) (before : List (List Line)) (core : CoreState) (out : List Line) : Type 0 where
  pub inputs : core.system ≡ i
  pub steps : core.steps ≡ limit
  pub at : IsAt i limit d core.resources.items
  pub left : (ls : List model.Line) → HasKept i limit horizon c before ls → HasHanded i limit horizon d (lists_of core.pending.items) (ls ++ map (line_of (system_of i)) out)
  pub belong : All (BelongsTo (system_of i)) out
  pub kept : All (λ p. All (BelongsTo (system_of i)) p.items) core.pending.items

-- The least tick of all events has risen, where each bound was past it.
abbrev pub HasRisen : (i : Inputs) (limit : ℕ) (c d : model_cores.Core (machine (system_of i) limit)) → (bounds : List ℕ) → Type 0
HasRisen i limit c d bs =
    (m : ℕ) → IsFloor (machine (system_of i) limit) c m
    → ((r : ℕ) → r < count_of (system_of i) → (c r).state.stop ≡ None → m < slice_index_or bs r 0)
    → IsFloor (machine (system_of i) limit) d (m + 1)

-- The core has come from c to d, and the answer says how far the run is.
abbrev pub IsSettled : (i : Inputs) (limit horizon : ℕ) (c d : model_cores.Core (machine (system_of i) limit)) → (bounds : List ℕ) → (before : List (List Line)) → Settled → Type 0
IsSettled i limit horizon c d bs before (Going core out) =
    IsKept i limit horizon c d before core out.items
    × (IsAtHorizon (machine (system_of i) limit) (count_of (system_of i)) horizon d → ⊥)
    × ((s : ℕ) (reason : Reason) → IsLeastStop (machine (system_of i) limit) (count_of (system_of i)) d s reason → ⊥)
    × HasRisen i limit c d bs
IsSettled i limit horizon c d bs before (Ended core out) =
    IsKept i limit horizon c d before core out.items
    × IsAtHorizon (machine (system_of i) limit) (count_of (system_of i)) horizon d
IsSettled i limit horizon c d bs before (Stopped out mark) =
    IsLeastStop (machine (system_of i) limit) (count_of (system_of i)) d mark.resource mark.reason
    × ((d mark.resource).clock ≡ mark.tick)
    × All (BelongsTo (system_of i)) out.items
    × ((ls : List model.Line) → HasKept i limit horizon c before ls
    → IsMerge (machine (system_of i) limit) (count_of (system_of i)) (lines_to (system_of i) limit mark.tick mark.resource d) (ls ++ map (line_of (system_of i)) out.items))

-- The steps of a phase and the exchange after it.
abbrev pub after_phase : (i : Inputs) (limit : ℕ) (es fs : List (CoreStep (machine (system_of i) limit))) → List (CoreStep (machine (system_of i) limit))
after_phase i limit es fs = es ++ fs ++ Exchange ∷ []

-- Whichever worker drew which resource, each has had a legal loan; and in every order of their steps these are steps of the core, the exchange after them too, and the answer says how far the run is.
pub record Settles (i : Inputs) (limit horizon : ℕ) (es : List (CoreStep (machine (system_of i) limit))) (bounds : List ℕ) (before : List (List Line)) (workers : ℕ → ℕ) (s : Settled) : Type 0 where
  pub loans : ℕ → Option (Loan (machine (system_of i) limit))
  pub are_loans : AreLoans i limit horizon (core_of i limit es) bounds workers loans
  pub schedule : (fs : List (CoreStep (machine (system_of i) limit))) → IsPhase (machine (system_of i) limit) loans fs
      → IsSchedule (machine (system_of i) limit) horizon (opening_core (system_of i) (stimuli_of i) limit) (after_phase i limit es fs)
  pub settled : (fs : List (CoreStep (machine (system_of i) limit))) → IsPhase (machine (system_of i) limit) loans fs
      → IsSettled i limit horizon (core_of i limit es) (core_of i limit (after_phase i limit es fs)) bounds before s

-- how far the run is, with all resources in a core
abbrev pub reach_of : CoreState → End → Reach
reach_of core Open = reach.Going core
reach_of core Horizon = reach.Ended core
reach_of core (Stop mark) = reach.Stopped mark

-- how far the run is, with the lines that have become final
abbrev pub settled_of : Reach → Vec Line → Settled
settled_of (reach.Going core) out = Going core out
settled_of (reach.Ended core) out = Ended core out
settled_of (reach.Stopped mark) out = Stopped out mark

-- These are all lines of the lists, and in the order of the trace where each list has the lines of its resource.
pub record IsMerged (lists : Lists) (all : List Line) : Type 0 where
  pub merged : AreRising lists → AreMerged lists all
  pub moved : IsPermutation (flat lists) all
