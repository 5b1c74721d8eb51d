-- Variables that hold values of their types (IEC 61131-3, 6.4; that each assignment, connection and stimulus is checked
-- by the type is this project's profile).
use Rattle.std.specs.Prelude.{◌≡◌, ℕ, List, ◌++◌, Bool, true, Option, Some, All}
use Rattle.fb_types.specs.Names.{Name, Path, Port}
use Rattle.fb_types.specs.Values.{Values, fits}
use Rattle.fb_types.specs.Blocks.{Kind, Event, Bound, named, ports_of, ports_of_event_block}
use Rattle.fb_types.specs.EventBlocks as blocks
use Rattle.fb_types.specs.Flat.{variables_in}
use Rattle.fb_types.specs.Reactions.{World, Out, Local, Sends, Outcome, Reacts, memory_of}
use Rattle.fb_types.specs.States.{Memory, Block, Stimulated, Expired, Arrived, Raised, Event as AnEvent}
use Rattle.fb_types.specs.Systems.{System}
use Rattle.fb_types.specs.declared.key.Key.{Key}
use Rattle.fb_types.specs.declared.library.Variable.{Variable}
use Rattle.fb_types.specs.declared.value.Value.{Value}

abbrev pub variable_named : Name → List Variable → Option Variable
variable_named n vs = named (λ v. v.name) n vs

-- The variables hold values of their types.
abbrev pub AllFit : List Variable → Values → Type 0
AllFit vs all = (n : Name) (x : Variable) → variable_named n vs ≡ Some x → fits x.ty (all n) ≡ true

-- An event block remembers what gives its data outputs values of their types.
abbrev pub IsTypedMemory : Kind → Memory → Type 0
IsTypedMemory (Event k) m = AllFit (ports_of_event_block k).outputs (blocks.output_of (memory_of m))
IsTypedMemory k m = Unit {0}

pub record IsTypedBlock (k : Kind) (b : Block) : Type 0 where
  pub memory : IsTypedMemory k b.memory
  pub variables : AllFit (variables_in k) b.variables
  pub slots : AllFit (ports_of k).inputs b.slots
  pub published : AllFit (ports_of k).outputs b.published

-- the value is one of the type of the variable at a port, if there is such a variable
abbrev pub FitsAt : System → Port → Value → Type 0
FitsAt sys q v =
    (k : Kind) (x : Variable) → sys.kind q.at ≡ Some k → variable_named q.name ((ports_of k).inputs ++ (ports_of k).outputs) ≡ Some x →
    fits x.ty v ≡ true

-- Each variable, and each held copy, holds a value of its type.
pub record AreTyped (sys : System) (w : World) : Type 0 where
  pub blocks : (p : Path) (k : Kind) → sys.kind p ≡ Some k → IsTypedBlock k (w.blocks p)
  pub held : (q : Port) → FitsAt sys q (w.held q)

-- A source has a variable, and all values of its type are of the type of what it feeds.
pub record IsFitting (sys : System) (x : Variable) (s : Port) : Type 0 where
  pub kind : Kind
  pub is_kind : sys.kind s.at ≡ Some kind
  pub variable : Variable
  pub is_variable : variable_named s.name ((ports_of kind).inputs ++ (ports_of kind).outputs) ≡ Some variable
  pub within : (v : Value) → fits variable.ty v ≡ true → fits x.ty v ≡ true

abbrev pub SourcesFit : System → Type 0
SourcesFit sys =
    (q s : Port) (k : Kind) (x : Variable) → sys.source q ≡ Some s → sys.kind q.at ≡ Some k →
    variable_named q.name ((ports_of k).inputs ++ (ports_of k).outputs) ≡ Some x → IsFitting sys x s

-- an event carries values of the types of its variables
abbrev pub IsTypedEvent : System → AnEvent → Type 0
IsTypedEvent sys (Stimulated q bs) = All (λ (b : Bound). FitsAt sys (record { at = q.at; name = b.variable }) b.value) bs
IsTypedEvent sys (Expired p) = Unit {0}
IsTypedEvent sys (Arrived q cs) = All (λ (c : Port × Value). FitsAt sys c.0 c.1) cs
IsTypedEvent sys (Raised q) = Unit {0}

abbrev pub IsTypedOut : System → Out → Type 0
IsTypedOut sys (Local q) = Unit {0}
IsTypedOut sys (Sends q cs) = All (λ (c : Port × Value). FitsAt sys c.0 c.1) cs

-- What a reaction leaves and emits is typed.
pub record KeepsTypes (sys : System) (o : Outcome) : Type 0 where
  pub world : AreTyped sys o.world
  pub outs : All (IsTypedOut sys) o.outs

-- What is required of a system: its sources fit, and no variable before a data output has its name.
pub record IsTypedSystem (sys : System) : Type 0 where
  pub sources : SourcesFit sys
  pub outputs : (p : Path) (k : Kind) (n : Name) (x : Variable) → sys.kind p ≡ Some k →
      variable_named n (ports_of k).outputs ≡ Some x → variable_named n (variables_in k) ≡ Some x

abbrev pub TypesAreKept : Type 0
TypesAreKept =
    (sys : System) → IsTypedSystem sys → (k : Key) (w : World) (e : AnEvent) (left : ℕ) (o : Outcome) →
    AreTyped sys w → IsTypedEvent sys e → Reacts sys k w e left o → KeepsTypes sys o
