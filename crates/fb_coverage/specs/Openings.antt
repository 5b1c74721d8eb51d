-- The marks before the first event of the first trace (this project's own).
use Rattle.std.specs.Prelude.{ℕ, List, [], map, length, replicate, Bool, true, false, slice_set, if◌then◌else◌, Option, Some, None}
use Rattle.std.specs.List.{list_any}
use Rattle.fb_types.specs.Blocks.{Kind, Basic, Event, Composite}
use Rattle.fb_types.specs.Names.{Name, Path, same_name}
use Rattle.fb_types.specs.Numbers.{ports_at}
use Rattle.fb_types.specs.Systems.{System}
use Rattle.fb_types.specs.declared.library.BasicType.{BasicType}
use Rattle.fb_types.specs.declared.library.BlockType.{BlockType}
use Rattle.fb_types.specs.declared.library.BlockType.TheVariants as block
use Rattle.fb_types.specs.declared.library.EventPort.{EventPort}
use Rattle.fb_types.specs.declared.library.Ports.{Ports}
use Rattle.fb_coverage.specs.declared.marks.Marks.{Marks}
use Rattle.fb_coverage.specs.declared.part.Part.{Part}
use Rattle.fb_coverage.specs.declared.part.Part.TheVariants.{States, Transitions, Algorithms, Events}
use Rattle.fb_coverage.specs.declared.part.Side.{Side}
use Rattle.fb_coverage.specs.declared.part.Side.TheVariants.{Inputs, Outputs}

-- ---- Parts

abbrev pub part_count : Part → BasicType → ℕ
part_count States t = length t.states
part_count Transitions t = length t.transitions
part_count Algorithms t = length t.algorithms
part_count Events t = length t.ports.event_inputs

abbrev pub events_of : Side → Ports → List EventPort
events_of Inputs p = p.event_inputs
events_of Outputs p = p.event_outputs

-- ---- Types that instances have

abbrev pub basic_of : Option Kind → Option BasicType
basic_of None = None
basic_of (Some (Basic t)) = Some t
basic_of (Some (Event k)) = None
basic_of (Some (Composite t)) = None

-- a basic block of the type with this name
abbrev pub is_named : Name → Option BasicType → Bool
is_named n None = false
is_named n (Some t) = same_name t.name n

abbrev pub has_type : Name → Option Kind → Bool
has_type n k = is_named n (basic_of k)

-- an instance has the basic type with this name
abbrev pub is_used : System → Name → Bool
is_used sys n = list_any (λ p. has_type n (sys.kind p)) sys.paths

-- what is said of an instance that is no basic block
abbrev pub unless_basic : {A : Type 0} → Option BasicType → List A → List A
unless_basic None xs = xs
unless_basic (Some t) xs = []

-- ---- Rows

-- The flags of the parts of a type. Its first state, which is the initial one, is entered as soon as an instance has it.
abbrev pub first_flags : Part → ℕ → List Bool
first_flags States n = slice_set (replicate n false) 0 true
first_flags Transitions n = replicate n false
first_flags Algorithms n = replicate n false
first_flags Events n = replicate n false

abbrev pub part_row : System → Part → BlockType → List Bool
part_row sys part (block.Basic t) = if is_used sys t.name then first_flags part (part_count part t) else []
part_row sys part (block.Composite t) = []

-- The flags of the event ports of an instance that is no basic block.
abbrev pub port_flags : Side → Option BasicType → Ports → List Bool
port_flags side None p = replicate (length (events_of side p)) false
port_flags side (Some t) p = []

abbrev pub port_row : System → Side → Path → List Bool
port_row sys side p = port_flags side (basic_of (sys.kind p)) (ports_at sys p)

-- ---- All marks

abbrev pub opening_marks : List BlockType → System → Marks
opening_marks blocks sys =
    record {
      charts = record {
        states = record { rows = map (part_row sys States) blocks };
        transitions = record { rows = map (part_row sys Transitions) blocks };
        algorithms = record { rows = map (part_row sys Algorithms) blocks };
        taken = record { rows = map (part_row sys Events) blocks };
        clearing = record { rows = map (part_row sys Events) blocks };
        lost = false;
      };
      ports = record {
        inputs = record { rows = map (port_row sys Inputs) sys.paths };
        outputs = record { rows = map (port_row sys Outputs) sys.paths };
      };
    }
