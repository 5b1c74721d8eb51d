-- What contracts say of what traces cover of a system: its value is the accepted inputs, and each of these is of the flat system.
use Rattle.std.specs.Prelude.{ℕ, List, Bool, map}
use Rattle.fb_types.specs.Headline.{Inputs, system_of}
use Rattle.fb_types.specs.Names.{Name, Path}
use Rattle.fb_types.specs.declared.library.BlockType.{BlockType}
use Rattle.fb_types.specs.declared.library.EventPort.{EventPort}
use Rattle.fb_coverage.specs.Connected as connected
use Rattle.fb_coverage.specs.Listed.{listed}
use Rattle.fb_coverage.specs.Openings as openings
use Rattle.fb_coverage.specs.Reports as reports
use Rattle.fb_coverage.specs.Shares as shares
use Rattle.fb_coverage.specs.declared.group.Group.{Group}
use Rattle.fb_coverage.specs.declared.marks.Marks.{Marks}
use Rattle.fb_coverage.specs.declared.part.Part.{Part}
use Rattle.fb_coverage.specs.declared.part.Side.{Side}
use Rattle.fb_coverage.specs.declared.share.Share.{Share}
use Rattle.fb_coverage.specs.declared.share.Shares.{Shares}

-- ---- The marks before the first event

abbrev pub is_used : Inputs → Name → Bool
is_used i = openings.is_used (system_of i)

-- the flags of the parts of a type, and of all types
abbrev pub part_row : Inputs → Part → BlockType → List Bool
part_row i = openings.part_row (system_of i)

abbrev pub part_rows : Inputs → Part → List (List Bool)
part_rows i part = map (openings.part_row (system_of i) part) i.library.blocks

-- the flags of the event ports of an instance, and of all instances
abbrev pub port_row : Inputs → Side → Path → List Bool
port_row i = openings.port_row (system_of i)

abbrev pub port_rows : Inputs → Side → List (List Bool)
port_rows i side = map (openings.port_row (system_of i) side) (system_of i).paths

abbrev pub opening_marks : Inputs → Marks
opening_marks i = openings.opening_marks i.library.blocks (system_of i)

-- ---- Event ports

-- an event connection begins or ends at an event port
abbrev pub is_connected : Inputs → Path → (event : Name) → Bool
is_connected i = connected.is_connected i.library

-- an event port is in a group
abbrev pub is_in : Group → Inputs → Path → (index : ℕ) → EventPort → Bool
is_in g i = connected.is_in g i.library (system_of i)

-- ---- The report

-- how much is covered
abbrev pub counted_row : Inputs → Marks → (instance : ℕ) → Path → List Bool
counted_row i = shares.counted_row i.library (system_of i)

abbrev pub port_share : Inputs → Marks → Share
port_share i = shares.port_share i.library (system_of i)

abbrev pub shares_of : Inputs → Marks → Shares
shares_of i = shares.shares_of i.library (system_of i)

-- less than this part of what counts is covered, in percent
abbrev pub is_below : Inputs → (least : ℕ) → Marks → Bool
is_below i least marks = shares.is_less least (shares_of i marks)

-- what it says of the connected ports of all instances, and of those without a connection
abbrev pub instances_text : Inputs → Marks → List ℕ
instances_text i marks = listed (reports.instance_text i.library (system_of i) marks) 0 (system_of i).paths

abbrev pub unconnected_texts : Inputs → Marks → List ℕ
unconnected_texts i marks = listed (reports.unconnected_ports i.library (system_of i) marks) 0 (system_of i).paths

abbrev pub unconnected_text : Inputs → Marks → List ℕ
unconnected_text i = reports.unconnected_text i.library (system_of i)

abbrev pub report_text : Inputs → Marks → List ℕ
report_text i = reports.report_text i.library (system_of i)
