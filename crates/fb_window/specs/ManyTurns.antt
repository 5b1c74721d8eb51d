-- Turns of one resource each, one after another (this project's profile).
use Rattle.std.specs.Prelude.{◌≡◌, ℕ, ◌+◌, ◌<◌, ◌⊎◌, ◌++◌, Option, List, [], ◌∷◌, flat_map, length, Some, None, slice_get, slice_set}
use Rattle.std.specs.Global.{Vec}
use Rattle.fb_types.specs.Headline.{Inputs, system_of, stimuli_of}
use Rattle.fb_types.specs.Machines.{Machine, Item}
use Rattle.fb_types.specs.Parts.{machine, count_of}
use Rattle.fb_types.specs.States as model
use Rattle.fb_types.specs.Cores.{CoreStep, Lend, Give, Exchange, IsFloor, opening_core}
use Rattle.fb_types.specs.Cores as model_cores
use Rattle.fb_types.specs.Schedules.{IsSchedule, core_after}
use Rattle.fb_types.specs.declared.run.Line.{Line}
use Rattle.fb_types.specs.declared.run.Message.{Message}
use Rattle.fb_types.specs.declared.run.StopMark.{StopMark}
use Rattle.fb_types.specs.declared.value.Reason.{Reason}
use Rattle.fb_resource.specs.Resources.{HasRun}
use Rattle.fb_resource.specs.declared.resource.Resource.{Resource}
use Rattle.fb_resource.specs.declared.resource.WindowDone.TheVariants.{Ran}
use Rattle.fb_laws.specs.Finality.{HasKept, core_of}
use Rattle.fb_window.specs.Mails.{AreGiven}
use Rattle.fb_window.specs.Settling.{lists_of}
use Rattle.fb_window.specs.Standing.{IsAt}
use Rattle.fb_window.specs.declared.cores.CoreState.{CoreState}

-- A turn while all others are at home: the resource that has it, its bound, and what it takes.
pub record Single (M : Machine) : Type 0 where
  pub resource : ℕ
  pub bound : ℕ
  pub run : List (Item M)

module _ (M : Machine) where
  -- the steps of the turn, and the exchange after it
  abbrev pub single_steps : Single M → List (CoreStep M)
  single_steps t = Lend 0 t.resource t.bound ∷ Give 0 t.resource t.run ∷ Exchange ∷ []

  abbrev pub series_steps : List (Single M) → List (CoreStep M)
  series_steps ts = flat_map single_steps ts

  -- None of this many resources has stopped, and one takes what it has at the least tick of all events: one event at least.
  pub record IsSingle (count : ℕ) (c : model_cores.Core M) (t : Single M) : Type 0 where
    pub counted : t.resource < count
    pub live : (r : ℕ) → r < count → (c r).state.stop ≡ None
    pub least : (m : ℕ) × IsFloor M c m × (t.bound ≡ m + 1)
    pub some : t.run ≡ [] → ⊥

  -- Each turn is so where those before it have brought the core.
  abbrev pub AreSingle : (count : ℕ) → model_cores.Core M → List (Single M) → Type 0
  AreSingle count c [] = Unit {0}
  AreSingle count c (t ∷ ts) = IsSingle count c t × AreSingle count (core_after M c (single_steps t)) ts

-- the steps that have led to a core, and then those of a series of turns
abbrev pub after_series : (i : Inputs) (limit : ℕ) → List (CoreStep (machine (system_of i) limit)) → List (Single (machine (system_of i) limit)) → List (CoreStep (machine (system_of i) limit))
after_series i limit es ts = es ++ series_steps (machine (system_of i) limit) ts

-- The turns were all of these, or a resource has stopped, or no event comes before the horizon.
abbrev pub IsSeries : (i : Inputs) (limit horizon most : ℕ) → model_cores.Core (machine (system_of i) limit) → (turns : ℕ) → Type 0
IsSeries i limit horizon most d turns =
    (turns ≡ most)
    ⊎ (((s : ℕ) × (s < count_of (system_of i)) × (reason : Reason) × ((d s).state.stop ≡ Some reason))
    ⊎ IsFloor (machine (system_of i) limit) d horizon)

-- These turns after the steps es lead from the one core to the other. No line was handed out: those that were kept are kept with the new ones.
pub record Leads (i : Inputs) (limit horizon : ℕ) (es : List (CoreStep (machine (system_of i) limit))) (before after : CoreState) (ts : List (Single (machine (system_of i) limit))) : Type 0 where
  pub singles : AreSingle (machine (system_of i) limit) (count_of (system_of i)) (core_of i limit es) ts
  pub schedule : IsSchedule (machine (system_of i) limit) horizon (opening_core (system_of i) (stimuli_of i) limit) (after_series i limit es ts)
  pub at : IsAt i limit (core_of i limit (after_series i limit es ts)) after.resources.items
  pub left : (ls : List model.Line) → HasKept i limit horizon (core_of i limit es) (lists_of before.pending.items) ls
      → HasKept i limit horizon (core_of i limit (after_series i limit es ts)) (lists_of after.pending.items) ls
  -- no floor is lost
  pub floors : (m : ℕ) → IsFloor (machine (system_of i) limit) (core_of i limit es) m → IsFloor (machine (system_of i) limit) (core_of i limit (after_series i limit es ts)) m

-- After any steps that have brought the core to its resources there are turns that lead on to the other.
abbrev pub TakesTurns : (i : Inputs) (limit horizon most : ℕ) (before after : CoreState) → Type 0
TakesTurns i limit horizon most before after =
    (es : List (CoreStep (machine (system_of i) limit)))
    → IsSchedule (machine (system_of i) limit) horizon (opening_core (system_of i) (stimuli_of i) limit) es
    → IsAt i limit (core_of i limit es) before.resources.items
    → (ts : List (Single (machine (system_of i) limit))) × Leads i limit horizon es before after ts
    × IsSeries i limit horizon most (core_of i limit (after_series i limit es ts)) (length ts)

-- ---- In code

-- A resource has run below a tick by itself. Its lines come after those that were kept, its messages were delivered, and nothing else has changed.
pub record HasTurned (i : Inputs) (limit index to : ℕ) (old new : CoreState) (stop : Option StopMark) : Type 0 where
  pub before : Resource
  pub after : Resource
  pub added : Vec Line
  pub sent : Vec Message
  pub was : slice_get old.resources.items index ≡ Some before
  pub ran : HasRun i limit before to (Ran after added sent stop)
  pub given : AreGiven (system_of i) sent.items (slice_set old.resources.items index after) new.resources.items
  pub kept : Vec Line
  pub lines : Vec Line
  pub kept_was : slice_get old.pending.items index ≡ Some kept
  pub joined : lines.items ≡ kept.items ++ added.items
  pub pending : new.pending.items ≡ slice_set old.pending.items index lines
