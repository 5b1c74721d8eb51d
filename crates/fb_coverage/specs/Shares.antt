-- How many of how many are covered (this project's profile).
use Rattle.std.specs.Prelude.{ℕ, ◌+◌, ◌-◌, ◌*◌, ◌^◌, min, List, [], ◌∷◌, ◌++◌, length, count_by, Bool, if◌then◌else◌, nat_lt, codes, decimal}
use Rattle.fb_types.specs.Names.{Path}
use Rattle.fb_types.specs.Numbers.{ports_at}
use Rattle.fb_types.specs.Systems.{System}
use Rattle.fb_types.specs.declared.library.EventPort.{EventPort}
use Rattle.fb_types.specs.declared.library.Library.{Library}
use Rattle.fb_types.specs.declared.library.Ports.{Ports}
use Rattle.fb_coverage.specs.Connected.{is_in}
use Rattle.fb_coverage.specs.Listed.{listed}
use Rattle.fb_coverage.specs.Openings.{basic_of, unless_basic}
use Rattle.fb_coverage.specs.Tables.{is_set, row_of}
use Rattle.fb_coverage.specs.declared.group.Group.TheVariants.{Connected}
use Rattle.fb_coverage.specs.declared.marks.Marks.{Marks}
use Rattle.fb_coverage.specs.declared.share.Share.{Share}
use Rattle.fb_coverage.specs.declared.share.Shares.{Shares}

-- ---- Of things

-- a count, up to the greatest that the program has
abbrev pub capped : ℕ → ℕ
capped n = min n (2 ^ 64 - 1)

-- a share with the flags of one thing added
abbrev pub with_row : Share → List Bool → Share
with_row s flags = record { covered = capped (s.covered + count_by (λ b. b) flags); all = capped (s.all + length flags) }

-- a share with the flags of all things of a table added
abbrev pub with_rows : Share → List (List Bool) → Share
with_rows s [] = s
with_rows s (r ∷ rs) = with_rows (with_row s r) rs

-- a share with another one added
abbrev pub added : Share → Share → Share
added s t = record { covered = capped (s.covered + t.covered); all = capped (s.all + t.all) }

abbrev pub none_counted : Share
none_counted = record { covered = 0; all = 0 }

abbrev pub share_text : (word : List ℕ) → Share → List ℕ
share_text word s = word ++ decimal s.covered ++ codes " of " ++ decimal s.all

-- ---- Of ports

-- the flag of a port, if it counts
abbrev pub flag_if : (counts : ℕ → EventPort → Bool) → (flags : List Bool) → (index : ℕ) → EventPort → List Bool
flag_if counts flags k e = if counts k e then is_set flags k ∷ [] else []

abbrev pub port_flags : (counts : ℕ → EventPort → Bool) → Marks → (instance : ℕ) → Ports → List Bool
port_flags counts m k its =
    listed (flag_if counts (row_of m.ports.inputs k)) 0 its.event_inputs ++ listed (flag_if counts (row_of m.ports.outputs k)) 0 its.event_outputs

-- the flags of the connected ports of an instance that is no basic block
abbrev pub counted_row : Library → System → Marks → (instance : ℕ) → Path → List Bool
counted_row lib sys m k p = unless_basic (basic_of (sys.kind p)) (port_flags (is_in Connected lib sys p) m k (ports_at sys p))

abbrev pub port_share : Library → System → Marks → Share
port_share lib sys m = with_rows none_counted (listed (λ k p. counted_row lib sys m k p ∷ []) 0 sys.paths)

-- ---- Of all

abbrev pub shares_of : Library → System → Marks → Shares
shares_of lib sys m =
    record {
      states = with_rows none_counted m.charts.states.rows;
      transitions = with_rows none_counted m.charts.transitions.rows;
      algorithms = with_rows none_counted m.charts.algorithms.rows;
      events = with_rows none_counted m.charts.clearing.rows;
      ports = port_share lib sys m;
    }

abbrev pub covered_in : Shares → ℕ
covered_in s = s.states.covered + s.transitions.covered + s.algorithms.covered + s.events.covered + s.ports.covered

abbrev pub counted_in : Shares → ℕ
counted_in s = s.states.all + s.transitions.all + s.algorithms.all + s.events.all + s.ports.all

-- less than this part of what counts is covered, in percent
abbrev pub is_less : (least : ℕ) → Shares → Bool
is_less least s = nat_lt (100 * covered_in s) (least * counted_in s)
