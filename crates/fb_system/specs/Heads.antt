-- The heads of lines, by number (this project's profile).
use Rattle.std.specs.Prelude.{◌≡◌, ◌^◌, ◌<◌, ◌≤◌, ℕ, Bool, List, [], ◌∷◌, ◌++◌, length, take, if◌then◌else◌, codes, slice_get, unwrap_or}
use Rattle.fb_types.specs.Names.{Name}
use Rattle.fb_types.specs.Blocks.{inputs_with, outputs_with}
use Rattle.fb_types.specs.Numbers.{event_at, path_at, ports_at}
use Rattle.fb_types.specs.Systems.{System}
use Rattle.fb_types.specs.Text.{path_text}
use Rattle.fb_types.specs.declared.library.EventPort.{EventPort}
use Rattle.fb_system.specs.RowRanges.{AreInRanges}
use Rattle.fb_system.specs.declared.heads.Head.{Head}
use Rattle.fb_system.specs.declared.heads.HeadOf.{HeadOf}
use Rattle.fb_system.specs.declared.heads.Heads.{Heads}

-- the events among which the event of a head has its index
abbrev pub head_events : System → HeadOf → List EventPort
head_events sys x = let its = ports_at sys (path_at sys x.instance) in if x.taken then its.event_inputs else its.event_outputs

-- the numbers of a head represent something in the system
pub record IsOfHead (sys : System) (x : HeadOf) : Type 0 where
  pub instance : x.instance < length sys.paths
  pub resource : x.resource < length sys.resource_names
  pub event : x.event < length (head_events sys x)

-- the name of its event
abbrev pub head_event : System → HeadOf → Name
head_event sys x =
    let its = ports_at sys (path_at sys x.instance) in
    if x.taken then event_at its.event_inputs x.event else event_at its.event_outputs x.event

-- the variables WITH its event
abbrev pub head_variables : System → HeadOf → List Name
head_variables sys x =
    let its = ports_at sys (path_at sys x.instance) in
    let n = head_event sys x in
    if x.taken then inputs_with its n else outputs_with its n

-- the names of variables that a line has before its first value
abbrev pub first_text : List Name → List ℕ
first_text [] = []
first_text (n ∷ ns) = codes " " ++ n ++ codes "="

-- what a line has after the tick and before its first value, or before its end if it has no value
abbrev pub head_text : System → HeadOf → List ℕ
head_text sys x =
    unwrap_or (slice_get sys.resource_names x.resource) [] ++ (if x.taken then codes " > " else codes " < ")
    ++ path_text (path_at sys x.instance) ++ codes "." ++ head_event sys x ++ first_text (head_variables sys x)

-- A row that has the text of a head.
pub record IsHead (sys : System) (x : HeadOf) (h : Head) : Type 0 where
  pub within : h.width ≤ 48
  pub text : take h.width h.text ≡ head_text sys x

-- The row of an event that an instance takes, or emits: it has the text of the head with the resource that it names, or
-- it names none.
abbrev pub IsRowAt : System → (instance : ℕ) → (taken : Bool) → (event : ℕ) → Head → Type 0
IsRowAt sys i side e h = h.resource < 2 ^ 32 → IsHead sys (record { resource = h.resource; instance = i; event = e; taken = side }) h

abbrev pub AreHeads : System → Heads → Type 0
AreHeads sys heads = AreInRanges (IsRowAt sys) heads.rows heads.ranges
