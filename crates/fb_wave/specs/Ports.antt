-- The event ports of a system, and what lines have of them (this project's profile).
use Rattle.std.specs.Prelude.{◌≡◌, ◌<◌, ◌⊎◌, ℕ, ◌^◌, List, [], ◌++◌, length, Bool, true, Contains, if◌then◌else◌, slice_index_or, codes}
use Rattle.fb_types.specs.Names.{Name}
use Rattle.fb_types.specs.Systems.{System}
use Rattle.fb_types.specs.Numbers.{event_at, path_at, ports_at}
use Rattle.fb_types.specs.Text.{path_text}
use Rattle.fb_types.specs.declared.library.EventPort.{EventPort}
use Rattle.fb_types.specs.declared.library.Ports.{Ports}
use Rattle.fb_wave.specs.Words.{is_ended}
use Rattle.fb_wave.specs.declared.ports.Port.{Port}

-- the event inputs of an interface, or its event outputs
abbrev pub events : Ports → (taken : Bool) → List EventPort
events its taken = if taken then its.event_inputs else its.event_outputs

-- the event inputs of an instance, or its event outputs
abbrev pub side : System → (instance : ℕ) → (taken : Bool) → List EventPort
side sys i taken = let its = ports_at sys (path_at sys i) in if taken then its.event_inputs else its.event_outputs

-- An event port of the system. Lines have room for the number of its event.
pub record IsPortOf (sys : System) (p : Port) : Type 0 where
  pub instance : p.instance < length sys.paths
  pub small : p.event < 2 ^ 32
  pub event : p.event < length (side sys p.instance p.taken)

-- the name of the resource that holds an instance
abbrev pub holder_name : System → (instance : ℕ) → Name
holder_name sys i = slice_index_or sys.resource_names (sys.resource (path_at sys i)) []

-- what a line of a port has between its tick and its values
abbrev pub port_text : System → Port → List ℕ
port_text sys p =
    holder_name sys p.instance ++ (if p.taken then codes " > " else codes " < ") ++ path_text (path_at sys p.instance)
    ++ codes "." ++ event_at (side sys p.instance p.taken) p.event

-- No port of an instance's event inputs, or outputs, is in the list.
abbrev pub HasNone : List Port → (instance : ℕ) → (taken : Bool) → Type 0
HasNone ports i taken = (p : Port) → Contains ports p → p.instance ≡ i → p.taken ≡ taken → ⊥

-- Ports were added to a list, all of an instance's event inputs, or outputs.
abbrev pub AreAdded : (old new : List Port) → (instance : ℕ) → (taken : Bool) → Type 0
AreAdded old new i taken = (p : Port) → Contains new p → Contains old p ⊎ ((p.instance ≡ i) × (p.taken ≡ taken))

-- A text begins with that of a port, and a word ends before the rest.
pub record BeginsWith (sys : System) (text : List ℕ) (p : Port) (rest : List ℕ) : Type 0 where
  pub port : IsPortOf sys p
  pub ended : is_ended rest ≡ true
  pub parts : text ≡ port_text sys p ++ rest

-- A text begins with that of no port.
abbrev pub HasNoPort : System → List ℕ → Type 0
HasNoPort sys text = (p : Port) (rest : List ℕ) → BeginsWith sys text p rest → ⊥
