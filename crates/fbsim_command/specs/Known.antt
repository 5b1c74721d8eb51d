-- Whether a system has the names of rules (docs/FORMATS.md, "Rules over traces"; this project's own).
use Rattle.std.specs.Prelude.{◌≡◌, ◌⊎◌, ℕ, ◌+◌, ◌^◌, zero, suc, Bool, true, false, not, ◌&&◌, ◌||◌, List, [], ◌++◌, length, map, min, Option, Some, None, if◌then◌else◌, slice_get, slice_index_or, codes}
use Rattle.std.specs.List.{list_all}
use Rattle.fb_types.specs.Blocks.{inputs_with, outputs_with}
use Rattle.fb_types.specs.Names.{Name}
use Rattle.fb_types.specs.Numbers.{event_at, path_at, ports_at}
use Rattle.fb_types.specs.Systems.{System}
use Rattle.fb_types.specs.Text.{path_text}
use Rattle.fb_types.specs.declared.library.EventPort.{EventPort}
use Rattle.fb_types.specs.declared.library.Ports.{Ports}
use Rattle.fb_types.specs.declared.library.Variable.{Variable}
use Rattle.fb_coverage.specs.Connected.{never_comes}
use Rattle.fb_expect.specs.Events.{Event}
use Rattle.fb_expect.specs.Patterns as patterns
use Rattle.fb_expect.specs.declared.pattern.Condition.{Condition}
use Rattle.fb_expect.specs.declared.pattern.Pattern.{Pattern}
use Rattle.fb_expect.specs.Locations.{pattern_keys}
use Rattle.fbsim_command.specs.Possible.{can_suit_all, is_possible}
use Rattle.fb_expect.specs.declared.location.RuleKey.{RuleKey}
use Rattle.fb_expect.specs.declared.location.RuleKey.TheVariants.{To}
use Rattle.fb_expect.specs.declared.rule.Rule.{Rule}

-- ---- Ports

-- the event inputs of an interface or its event outputs, and its data inputs or outputs
abbrev pub events_of : Ports → (taken : Bool) → List EventPort
events_of its taken = if taken then its.event_inputs else its.event_outputs

abbrev pub variables_of : Ports → (taken : Bool) → List Variable
variables_of its taken = if taken then its.inputs else its.outputs

-- the variables WITH an event of it
abbrev pub names_with : Ports → (taken : Bool) → (event : ℕ) → List Name
names_with its taken event = if taken then inputs_with its (event_at its.event_inputs event) else outputs_with its (event_at its.event_outputs event)

abbrev pub ports_of : System → (instance : ℕ) → Ports
ports_of sys i = ports_at sys (path_at sys i)

-- what lines of a port begin with after their tick. Their values make no difference here.
abbrev pub event_there : System → (instance : ℕ) → (taken : Bool) → (event : ℕ) → Event
event_there sys i taken event =
    record {
      tick = 0;
      resource = slice_index_or sys.resource_names (sys.resource (path_at sys i)) [];
      taken = taken;
      port = path_text (path_at sys i) ++ codes "." ++ event_at (events_of (ports_of sys i) taken) event;
      values = [];
    }

-- ---- Patterns

-- whether some values of an event meet each condition by itself, where it has these variables of an interface
abbrev pub are_each_possible : List Variable → List Condition → List Name → Bool
are_each_possible vs conditions names = list_all (is_possible vs names) conditions

-- The same, and for each variable one value meets all conditions on it.
abbrev pub are_possible : List Variable → List Condition → List Name → Bool
are_possible vs conditions names = are_each_possible vs conditions names && can_suit_all vs conditions

-- whether a port is of a pattern, and some values of its event meet its conditions
unfoldable pub is_fitting : System → Pattern → (instance : ℕ) → (taken : Bool) → (event : ℕ) → Bool
is_fitting sys p i taken event =
    patterns.is_at p (event_there sys i taken event)
    && are_possible (variables_of (ports_of sys i) taken) p.conditions (names_with (ports_of sys i) taken event)

-- the same of a port to which events come: WARM and STOP of an E_RESTART never do
abbrev pub is_of : System → Pattern → (instance : ℕ) → (taken : Bool) → (event : ℕ) → Bool
is_of sys p i taken event = not (never_comes (sys.kind (path_at sys i)) event) && is_fitting sys p i taken event

-- whether a test holds for some number below another
abbrev pub any_below : (ℕ → Bool) → ℕ → Bool
any_below test zero = false
any_below test (suc n) = any_below test n || test n

-- how many events of an interface have numbers
abbrev pub numbered : List EventPort → ℕ
numbered es = min (length es) (2 ^ 32)

abbrev pub any_event : System → Pattern → (instance : ℕ) → (taken : Bool) → Bool
any_event sys p i taken = any_below (is_of sys p i taken) (numbered (events_of (ports_of sys i) taken))

abbrev pub any_port : System → Pattern → (instance : ℕ) → Bool
any_port sys p i = any_event sys p i true || any_event sys p i false

-- Whether the system has a port for a pattern.
unfoldable pub has_port : System → Pattern → Bool
has_port sys p = any_below (any_port sys p) (length sys.paths)

abbrev pub may_have_port : System → Option Pattern → Bool
may_have_port sys None = true
may_have_port sys (Some p) = has_port sys p

abbrev pub has_rule : System → Rule → Bool
has_rule sys r = has_port sys r.first && (may_have_port sys r.second && may_have_port sys r.third)

-- Whether the system has a port for each pattern of the rules.
abbrev pub has_names : System → List Rule → Bool
has_names sys rules = list_all (has_rule sys) rules

-- ---- Where names are missing (E45)

-- No port has the pattern at this key of a rule.
abbrev pub IsUnknownKey : System → Rule → RuleKey → Type 0
IsUnknownKey sys r k =
    ((k ≡ (pattern_keys r.need).0) × (has_port sys r.first ≡ false)) ⊎ (((k ≡ (pattern_keys r.need).1) × (may_have_port sys r.second ≡ false)) ⊎ ((k ≡ To) × (may_have_port sys r.third ≡ false)))

-- The same of the rule at an index.
pub record IsUnknownAt (sys : System) (rules : List Rule) (i : ℕ) (k : RuleKey) : Type 0 where
  pub rule : Rule
  pub there : slice_get rules i ≡ Some rule
  pub so : IsUnknownKey sys rule k
