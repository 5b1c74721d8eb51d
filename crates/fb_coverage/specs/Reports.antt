-- The report of what traces do not cover (this project's own).
use Rattle.std.specs.Prelude.{ℕ, List, [], ◌∷◌, ◌++◌, Bool, false, not, if◌then◌else◌, codes}
use Rattle.fb_types.specs.Names.{Name, Path}
use Rattle.fb_types.specs.Numbers.{ports_at}
use Rattle.fb_types.specs.Systems.{System}
use Rattle.fb_types.specs.Text.{path_text}
use Rattle.fb_types.specs.declared.library.Algorithm.{Algorithm}
use Rattle.fb_types.specs.declared.library.BasicType.{BasicType}
use Rattle.fb_types.specs.declared.library.BlockType.{BlockType}
use Rattle.fb_types.specs.declared.library.BlockType.TheVariants as block
use Rattle.fb_types.specs.declared.library.EventPort.{EventPort}
use Rattle.fb_types.specs.declared.library.Library.{Library}
use Rattle.fb_types.specs.declared.library.Ports.{Ports}
use Rattle.fb_types.specs.declared.library.State.{State}
use Rattle.fb_types.specs.declared.library.Transition.{Transition}
use Rattle.fb_text.specs.Conditions.{condition_text}
use Rattle.fb_text.specs.Pieces.{joined}
use Rattle.fb_coverage.specs.Connected.{is_in}
use Rattle.fb_coverage.specs.Listed.{listed}
use Rattle.fb_coverage.specs.Openings.{basic_of, unless_basic}
use Rattle.fb_coverage.specs.Shares.{share_text, shares_of}
use Rattle.fb_coverage.specs.Tables.{is_set, row_of}
use Rattle.fb_coverage.specs.declared.group.Group.TheVariants.{Connected, Unconnected}
use Rattle.fb_coverage.specs.declared.marks.Marks.{Marks}
use Rattle.fb_coverage.specs.declared.share.Shares.{Shares}

-- a line of a thing that is not covered
abbrev pub line_unless : (is_covered : Bool) → (word : List ℕ) → Name → (rest : List ℕ) → List ℕ
line_unless is_covered word n rest = if is_covered then [] else joined (word ∷ n ∷ rest ∷ [])

-- a part with a title, if there is any
abbrev pub titled : (word : List ℕ) → Name → (part : List ℕ) → List ℕ
titled word n [] = []
titled word n (c ∷ cs) = joined (word ∷ n ∷ codes "\n" ∷ (c ∷ cs) ∷ [])

-- ---- Basic types

abbrev pub state_line : (flags : List Bool) → ℕ → State → List ℕ
state_line flags k s = line_unless (is_set flags k) (codes "  state ") s.name (codes " was never entered\n")

abbrev pub transition_text : Transition → List ℕ
transition_text t =
    joined (codes "  transition " ∷ t.from ∷ codes " -> " ∷ t.to ∷ codes " by " ∷ []) ++ condition_text t.condition.event t.condition.guard ++ codes " never cleared\n"

abbrev pub transition_unless : (is_covered : Bool) → Transition → List ℕ
transition_unless is_covered t = if is_covered then [] else transition_text t

abbrev pub transition_line : (flags : List Bool) → ℕ → Transition → List ℕ
transition_line flags k t = transition_unless (is_set flags k) t

abbrev pub algorithm_line : (flags : List Bool) → ℕ → Algorithm → List ℕ
algorithm_line flags k a = line_unless (is_set flags k) (codes "  algorithm ") a.name (codes " never ran\n")

-- an event that was taken and never cleared a transition was lost each time
abbrev pub lost_words : (is_taken : Bool) → List ℕ
lost_words is_taken = if is_taken then codes " was only lost\n" else codes " was never taken\n"

abbrev pub event_line : (taken clearing : List Bool) → ℕ → EventPort → List ℕ
event_line taken clearing k e = line_unless (is_set clearing k) (codes "  event ") e.name (lost_words (is_set taken k))

abbrev pub parts_text : Marks → (index : ℕ) → BasicType → List ℕ
parts_text m i t =
    listed (state_line (row_of m.charts.states i)) 0 t.states ++ listed (transition_line (row_of m.charts.transitions i)) 0 t.transitions
    ++ listed (algorithm_line (row_of m.charts.algorithms i)) 0 t.algorithms ++ listed (event_line (row_of m.charts.taken i) (row_of m.charts.clearing i)) 0 t.ports.event_inputs

-- A type whose states have no flags is one that no instance has.
abbrev pub unused_or : (flags : List Bool) → List ℕ → List ℕ
unused_or [] text = codes "  no instance has it\n"
unused_or (b ∷ bs) text = text

abbrev pub block_text : Marks → (index : ℕ) → BlockType → List ℕ
block_text m i (block.Basic t) = titled (codes "type ") t.name (unused_or (row_of m.charts.states i) (parts_text m i t))
block_text m i (block.Composite t) = []

-- ---- Ports of other instances

-- the port is in this group, and had no event
abbrev pub is_lacking : (is_in : ℕ → EventPort → Bool) → (flags : List Bool) → (index : ℕ) → EventPort → Bool
is_lacking is_in flags k e = if is_set flags k then false else is_in k e

-- the line of a port of this group, if it had no event
abbrev pub port_line : (is_in : ℕ → EventPort → Bool) → (word : List ℕ) → (flags : List Bool) → (words : List ℕ) → ℕ → EventPort → List ℕ
port_line is_in word flags words k e = line_unless (not (is_lacking is_in flags k e)) word e.name words

abbrev pub ports_text : (is_in : ℕ → EventPort → Bool) → (word : List ℕ) → Marks → (instance : ℕ) → Ports → List ℕ
ports_text is_in word m k its =
    listed (port_line is_in word (row_of m.ports.inputs k) (codes " was never taken\n")) 0 its.event_inputs
    ++ listed (port_line is_in word (row_of m.ports.outputs k) (codes " was never emitted\n")) 0 its.event_outputs

-- the connected ports without an event
abbrev pub instance_text : Library → System → Marks → (instance : ℕ) → Path → List ℕ
instance_text lib sys m k p =
    unless_basic (basic_of (sys.kind p)) (titled (codes "instance ") (path_text p) (ports_text (is_in Connected lib sys p) (codes "  event ") m k (ports_at sys p)))

-- the ports without a connection and without an event, each written with its path
abbrev pub word_of : Path → List ℕ
word_of p = joined (codes "  event " ∷ path_text p ∷ codes "." ∷ [])

abbrev pub unconnected_ports : Library → System → Marks → (instance : ℕ) → Path → List ℕ
unconnected_ports lib sys m k p = unless_basic (basic_of (sys.kind p)) (ports_text (is_in Unconnected lib sys p) (word_of p) m k (ports_at sys p))

abbrev pub unconnected_text : Library → System → Marks → List ℕ
unconnected_text lib sys m = titled (codes "ports without a connection") [] (listed (unconnected_ports lib sys m) 0 sys.paths)

-- ---- The report

abbrev pub counts_text : Shares → List ℕ
counts_text s =
    share_text (codes "states ") s.states ++ share_text (codes ", transitions ") s.transitions ++ share_text (codes ", algorithms ") s.algorithms
    ++ share_text (codes ", events ") s.events ++ share_text (codes ", ports ") s.ports ++ codes "\n"

abbrev pub report_text : Library → System → Marks → List ℕ
report_text lib sys m =
    listed (block_text m) 0 lib.blocks ++ listed (instance_text lib sys m) 0 sys.paths ++ unconnected_text lib sys m ++ counts_text (shares_of lib sys m)
