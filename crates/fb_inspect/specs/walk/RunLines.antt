-- The lines of a run: events of instances, with values of the types of the variables WITH them (this project's own).
use Rattle.std.specs.Prelude.{◌≡◌, ◌⊎◌, List, Option, Some, None, Bool, true, if◌then◌else◌}
use Rattle.fb_types.specs.Blocks.{Kind, Basic, Composite, Event, among, bound, event_names, ports_of, variables_with}
use Rattle.fb_types.specs.Machines.{Each}
use Rattle.fb_types.specs.Names.{Name, Port}
use Rattle.fb_types.specs.States.{Line}
use Rattle.fb_types.specs.Systems.{System}
use Rattle.fb_types.specs.Unknown.{event_ins, event_outs}
use Rattle.fb_types.specs.Values.{Values}
use Rattle.fb_types.specs.declared.key.Key.{Key}
use Rattle.fb_types.specs.declared.library.BasicType.{BasicType}
use Rattle.fb_types.specs.declared.library.EventPort.{EventPort}
use Rattle.fb_types.specs.declared.library.Ports.{Ports}
use Rattle.fb_types.specs.declared.library.Variable.{Variable}
use Rattle.fb_types.specs.declared.run.Form.{Form}
use Rattle.fb_types.specs.declared.run.Form.TheVariants.{One, Two}
use Rattle.fb_laws.specs.Typed.{AllFit}
use Rattle.fb_wave.specs.Lines.{IsInRange}

-- an event that may come to an instance of this kind: an event input, or from inside an event output of a composite
abbrev pub IsEventOf : Option Kind → Name → Type 0
IsEventOf None n = ⊥
IsEventOf (Some (Basic t)) n = among (event_ins t.ports) n ≡ true
IsEventOf (Some (Event k)) n = among (event_ins (ports_of (Event k))) n ≡ true
IsEventOf (Some (Composite t)) n = (among (event_ins t.ports) n ≡ true) ⊎ (among (event_outs t.ports) n ≡ true)

abbrev pub IsEventPort : System → Port → Type 0
IsEventPort sys q = IsEventOf (sys.kind q.at) q.name

-- what an action emits is an event output of the type
abbrev pub HasOutput : BasicType → Option Name → Type 0
HasOutput t None = Unit {0}
HasOutput t (Some e) = among (event_outs t.ports) e ≡ true

-- the events and the variables of an interface among which those of a line are
abbrev pub side_events : (taken : Bool) → Ports → List EventPort
side_events taken its = if taken then its.event_inputs else its.event_outputs

abbrev pub side_variables : (taken : Bool) → Ports → List Variable
side_variables taken its = if taken then its.inputs else its.outputs

-- The line is that of an event under a key, of an instance in the resource of the key, with the variables WITH it and values of their types.
pub record IsGiven (sys : System) (k : Key) (l : Line) : Type 0 where
  pub key_is : l.key ≡ k
  pub kind : Kind
  pub kind_is : sys.kind l.at ≡ Some kind
  pub event : among (event_names (side_events l.taken (ports_of kind))) l.event ≡ true
  pub vars : Values
  pub values : l.values ≡ bound (variables_with (side_events l.taken (ports_of kind)) (side_variables l.taken (ports_of kind)) l.event) vars
  pub fit : AllFit (side_variables l.taken (ports_of kind)) vars
  pub home : k.resource ≡ sys.resource l.at

-- ---- What a form shows of a key

-- a key without what form One leaves out
abbrev pub bare_key : Key → Key
bare_key k = record { tick = k.tick; resource = k.resource; class = 0; a = 0; b = 0 }

-- What a form shows of the keys of lines are numbers that lines have room for: form One shows only the tick and the resource.
abbrev pub HaveRoom : Form → List Line → Type 0
HaveRoom One ls = Unit {0}
HaveRoom Two ls = Each (λ (l : Line). IsInRange l.key) ls
