-- E23, E24 and E25: types at the ends of data connections, and composites in composites (IEC 61499-1, 5.3; the range of
-- types and the height are this project's profile).
use Rattle.std.specs.Prelude.{◌≡◌, ◌⊎◌, ℕ, zero, suc, [], map, ◌++◌, true, Option, Some, None, Contains, option_map, option_and_then}
use Rattle.fb_types.specs.Values.{fits}
use Rattle.fb_types.specs.Blocks.{Composite, named, ports_of}
use Rattle.fb_types.specs.Flat.{type_named, instance_in, kind_of_instance, pairs_in}
use Rattle.fb_types.specs.Repeated.{Twice, OwnedNetwork, networks}
use Rattle.fb_types.specs.declared.value.Value.{Value}
use Rattle.fb_types.specs.declared.value.Ty.{Ty}
use Rattle.fb_types.specs.declared.library.Library.{Library}
use Rattle.fb_types.specs.declared.library.BlockType.TheVariants as block
use Rattle.fb_types.specs.declared.library.CompositeType.{CompositeType}
use Rattle.fb_types.specs.declared.library.Instance.{Instance}
use Rattle.fb_types.specs.declared.library.Connection.{Connection}
use Rattle.fb_types.specs.declared.library.PortName.{PortName}
use Rattle.fb_types.specs.declared.library.Ports.{Ports}

-- ---- E23

abbrev pub type_among : Ports → PortName → Option Ty
type_among its e = option_map (λ v. v.ty) (named (λ v. v.name) e.port (its.inputs ++ its.outputs))

-- the type of the variable at the end of a connection
abbrev pub type_at_end : Library → OwnedNetwork → PortName → Option Ty
type_at_end lib n e =
    elim e.component [
      | None ↦ option_and_then (λ t. type_among t.ports e) n.0
      | Some c ↦ option_and_then (λ k. type_among (ports_of k) e) (option_and_then (kind_of_instance lib) (instance_in n.1 c))
    ]

-- Each value of the one type is one of the other. So BOOL fits BOOL, and a range fits a range that contains it.
abbrev pub IsWithin : Ty → Ty → Type 0
IsWithin s t = (v : Value) → fits s v ≡ true → fits t v ≡ true

-- A data connection leads to a type that does not contain all values of the source type.
abbrev pub OutOfRange : Library → Type 0
OutOfRange lib =
    (n : OwnedNetwork) × (c : Connection) × (s : Ty) × (t : Ty) × Contains (networks lib) n × Contains n.1.data_connections c
    × (type_at_end lib n c.from ≡ Some s) × (type_at_end lib n c.to ≡ Some t) × ¬ (IsWithin s t)

-- ---- E24

-- Two data connections lead to one port.
abbrev pub TwoSources : Library → Type 0
TwoSources lib =
    (n : OwnedNetwork) × Contains (networks lib) n × Twice (map (λ c. c.1) (pairs_in [] n.1.data_connections))

-- ---- E25

-- a composite type has a component of the other
abbrev pub Holds : Library → CompositeType → CompositeType → Type 0
Holds lib t u = (i : Instance) × Contains t.network.instances i × (type_named lib i.block_type ≡ Some (Composite u))

-- a number of steps down, from a composite type to one that it contains
abbrev pub Descends : Library → (steps : ℕ) → CompositeType → CompositeType → Type 0
Descends lib zero t u = t ≡ u
Descends lib (suc n) t u = (m : CompositeType) × Holds lib t m × Descends lib n m u

-- A composite type contains itself, or has a height over 16.
abbrev pub TooHigh : Library → Type 0
TooHigh lib =
    (t : CompositeType) × (u : CompositeType) × Contains lib.blocks (block.Composite t)
    × (((n : ℕ) × Descends lib (suc n) t t) ⊎ Descends lib 16 t u)
