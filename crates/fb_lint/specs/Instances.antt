-- Instances and event inputs to which nothing leads, and event connections from events that never come (IEC 61499-1, 5.3 and Annex
-- A; that a run is a cold start is this project's profile).
use Rattle.std.specs.Prelude.{ℕ, List, [], ◌∷◌, Bool, true, false, not, ◌&&◌, ◌||◌, if◌then◌else◌, Option, Some, None, option_map, is_some, codes, nat_eq}
use Rattle.std.specs.List.{list_any}
use Rattle.fb_types.specs.Names.{Name, same_name}
use Rattle.fb_types.specs.Blocks.{event_block_named, ports_of}
use Rattle.fb_types.specs.Flat.{type_named}
use Rattle.fb_types.specs.declared.deploy.Stimulus.{Stimulus}
use Rattle.fb_types.specs.declared.library.Connection.{Connection}
use Rattle.fb_types.specs.declared.library.EventPort.{EventPort}
use Rattle.fb_types.specs.declared.library.Instance.{Instance}
use Rattle.fb_types.specs.declared.library.Library.{Library}
use Rattle.fb_types.specs.declared.library.PortName.{PortName}
use Rattle.fb_types.specs.declared.library.Ports.{Ports}
use Rattle.fb_types.specs.declared.library.Variable.{Variable}
use Rattle.fb_check_names.specs.declared.location.Site.{Site}
use Rattle.fb_lint.specs.Charts.{is_named}
use Rattle.fb_lint.specs.Findings.{when, each_from}
use Rattle.fb_lint.specs.Networks.{leads_to}
use Rattle.fb_lint.specs.Reads.{has_some}
use Rattle.fb_lint.specs.declared.warning.Warning.{Warning}
use Rattle.fb_lint.specs.declared.warning.Warning.TheVariants.{UnreachedInstance, UnreachedEvent, SilentSource, EarlyStimulus}

-- ---- L15

abbrev pub leads_into : (instance : Name) → Connection → Bool
leads_into i c = is_named i c.to.component

abbrev pub is_for : (instance : Name) → Stimulus → Bool
is_for i s = same_name i s.instance

-- an event connection of the network or a stimulus leads to the instance
abbrev pub is_reached : List Connection → List Stimulus → (instance : Name) → Bool
is_reached es ss i = list_any (leads_into i) es || list_any (is_for i) ss

abbrev pub has_events : List EventPort → Bool
has_events [] = false
has_events (e ∷ es) = true

-- ---- L16

abbrev pub is_for_event : (instance event : Name) → Stimulus → Bool
is_for_event i e s = same_name i s.instance && same_name e s.event

abbrev pub is_event_reached : List Connection → List Stimulus → (instance event : Name) → Bool
is_event_reached es ss i e = list_any (leads_to i e) es || list_any (is_for_event i e) ss

-- STOP and R of an event block may stay without a source
abbrev pub is_optional : (block_type event : Name) → Bool
is_optional n e = (same_name (codes "STOP") e || same_name (codes "R") e) && is_some (event_block_named n)

-- the data input has the name and no declared value
abbrev pub is_bare : Name → Variable → Bool
is_bare n v = same_name n v.name && not (is_some v.initial)

abbrev pub names_bare : List Variable → Name → Bool
names_bare vs n = list_any (is_bare n) vs

-- there are data inputs WITH the event, and all have declared values: without the event these hold
abbrev pub is_preset : List Variable → EventPort → Bool
is_preset vs e = has_some e.with && not (list_any (names_bare vs) e.with)

abbrev pub is_forgotten : List Connection → List Stimulus → Instance → List Variable → EventPort → Bool
is_forgotten es ss i vs e =
    not (is_event_reached es ss i.name e.name) && not (is_optional i.block_type e.name) && not (is_preset vs e)

abbrev pub unreached_event : Site → List Connection → List Stimulus → ℕ → Instance → List Variable → ℕ → EventPort → List Warning
unreached_event at es ss k i vs j e = when (is_forgotten es ss i vs e) (UnreachedEvent at k j)

abbrev pub unreached_events : Site → List Connection → List Stimulus → ℕ → Instance → List Variable → List EventPort → List Warning
unreached_events at es ss k i vs ps = each_from (unreached_event at es ss k i vs) 0 ps

-- an instance with event inputs to which nothing leads; of the others their event inputs
abbrev pub unreached_at : Site → List Connection → List Stimulus → ℕ → Instance → Ports → List Warning
unreached_at at es ss k i p =
    if is_reached es ss i.name then unreached_events at es ss k i p.inputs p.event_inputs
    else when (has_events p.event_inputs) (UnreachedInstance at k)

-- an instance of an unknown type has no ports
abbrev pub unreached_by : Site → List Connection → List Stimulus → ℕ → Instance → Option Ports → List Warning
unreached_by at es ss k i None = []
unreached_by at es ss k i (Some p) = unreached_at at es ss k i p

abbrev pub unreached_of : Library → Site → List Connection → List Stimulus → ℕ → Instance → List Warning
unreached_of lib at es ss k i = unreached_by at es ss k i (option_map ports_of (type_named lib i.block_type))

abbrev pub unreached_in_network : Library → Site → List Connection → List Stimulus → List Instance → List Warning
unreached_in_network lib at es ss is = each_from (unreached_of lib at es ss) 0 is

-- ---- L20

abbrev pub is_restart : (name : Name) → Instance → Bool
is_restart n i = same_name n i.name && same_name (codes "E_RESTART") i.block_type

abbrev pub is_from_restart : List Instance → Option Name → Bool
is_from_restart is None = false
is_from_restart is (Some n) = list_any (is_restart n) is

abbrev pub is_silent : List Instance → PortName → Bool
is_silent is p = (same_name (codes "WARM") p.port || same_name (codes "STOP") p.port) && is_from_restart is p.component

abbrev pub silent_source : Site → List Instance → ℕ → Connection → List Warning
silent_source at is k c = when (is_silent is c.from) (SilentSource at k)

abbrev pub silent_sources : Site → List Instance → List Connection → List Warning
silent_sources at is es = each_from (silent_source at is) 0 es

-- ---- L23

-- the connection leads from COLD of an E_RESTART to the instance
abbrev pub leads_cold : List Instance → (instance : Name) → Connection → Bool
leads_cold is i c = is_named i c.to.component && same_name (codes "COLD") c.from.port && is_from_restart is c.from.component

-- it comes at tick 0 to such an instance: the stimulus comes first
abbrev pub is_early : List Instance → List Connection → Stimulus → Bool
is_early is es s = nat_eq s.tick 0 && list_any (leads_cold is s.instance) es

abbrev pub early_stimulus : List Instance → List Connection → ℕ → Stimulus → List Warning
early_stimulus is es k s = when (is_early is es s) (EarlyStimulus k)

abbrev pub early_stimuli : List Instance → List Connection → List Stimulus → List Warning
early_stimuli is es ss = each_from (early_stimulus is es) 0 ss
