-- Names as a declaration and a deployment have them, in upper case (IEC 61131-3, 6.1.2; upper case is this project's profile).
use Rattle.std.specs.Prelude.{◌≡◌, ℕ, List, [], ◌∷◌, ◌++◌, Bool, true, false, ◌&&◌, ◌||◌, ◌==◌, nat_le, Contains}
use Rattle.std.specs.List.{list_all}
use Rattle.fb_types.specs.Blocks.{event_names, variable_names}
use Rattle.fb_types.specs.Names.{Name, Path}
use Rattle.fb_types.specs.Numbers.{path_at, ports_at}
use Rattle.fb_types.specs.Systems.{System}
use Rattle.fb_types.specs.declared.library.Ports.{Ports}
use Rattle.fb_wave.specs.Scopes.{own_name}

abbrev pub is_digit : ℕ → Bool
is_digit b = nat_le 48 b && nat_le b 57

-- a letter in upper case, or an underscore
abbrev pub is_letter : ℕ → Bool
is_letter b = (nat_le 65 b && nat_le b 90) || b == 95

-- A name begins with a letter or an underscore, and goes on with letters, digits and underscores.
abbrev pub is_name : Name → Bool
is_name [] = false
is_name (b ∷ bs) = is_letter b && list_all (λ c. is_letter c || is_digit c) bs

abbrev pub AreNames : List Name → Type 0
AreNames ns = (n : Name) → Contains ns n → is_name n ≡ true

-- the names that lines have of an interface
abbrev pub port_names : Ports → List Name
port_names its = event_names its.event_inputs ++ event_names its.event_outputs ++ variable_names its.inputs ++ variable_names its.outputs

-- whether all of them are names
abbrev pub are_ports_named : Ports → Bool
are_ports_named its =
    list_all (λ e. is_name e.name) its.event_inputs
    && (list_all (λ e. is_name e.name) its.event_outputs && (list_all (λ v. is_name v.name) its.inputs && list_all (λ v. is_name v.name) its.outputs))

-- whether the instance of this number has a name, and all its ports
abbrev pub is_named_at : System → (instance : ℕ) → Bool
is_named_at sys k = is_name (own_name (path_at sys k)) && are_ports_named (ports_at sys (path_at sys k))

-- The resources of a system, its instances and their ports have names.
pub record HasNames (sys : System) : Type 0 where
  pub resources : AreNames sys.resource_names
  pub paths : (p : Path) → Contains sys.paths p → AreNames p
  pub ports : (p : Path) → Contains sys.paths p → AreNames (port_names (ports_at sys p))
