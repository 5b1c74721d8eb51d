-- Where the variables WITH an event are among all variables of a type (their slots are this project's profile).
use Rattle.std.specs.Prelude.{◌≡◌, ℕ, suc, Bool, List, [], ◌∷◌, map, option_map, slice_get, Option, Some, if◌then◌else◌}
use Rattle.std.specs.List.{list_any}
use Rattle.fb_types.specs.Names.{Name}
use Rattle.fb_types.specs.Blocks.{goes_with, variable_names}
use Rattle.fb_types.specs.declared.library.EventPort.{EventPort}
use Rattle.fb_types.specs.declared.library.Variable.{Variable}
use Rattle.fb_st.specs.Frames.{Declared}

-- the slots of the names that pass, where the first of the list has that slot
abbrev pub slots_among : (Name → Bool) → List Name → (slot : ℕ) → List ℕ
slots_among passes [] slot = []
slots_among passes (n ∷ ns) slot = if passes n then slot ∷ slots_among passes ns (suc slot) else slots_among passes ns (suc slot)

-- the slots of the variables WITH an event, where the first of the variables has that slot
abbrev pub slots_with : List EventPort → List Variable → (first : ℕ) → Name → List ℕ
slots_with events variables first e = slots_among (λ v. list_any (goes_with e v) events) (variable_names variables) first

-- the slots of the variables WITH each event
abbrev pub slots_with_each : List EventPort → List Variable → (first : ℕ) → List (List ℕ)
slots_with_each events variables first = map (λ e. slots_with events variables first e.name) events

-- the name of the variable of a slot
abbrev pub name_there : List Declared → ℕ → Option Name
name_there ds i = option_map (λ d. d.0) (slice_get ds i)

-- These are the slots of the variables of these names.
abbrev pub AreAt : List Declared → List Name → List ℕ → Type 0
AreAt ds names slots = map (name_there ds) slots ≡ map Some names
