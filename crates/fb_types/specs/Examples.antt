-- Worked examples: small systems, and the traces that the definitions give them (this project's profile).
use Rattle.std.specs.Prelude.{ℕ, List, [], ◌∷◌, false, Some, None, pos, codes, ℤ, negsuc}
use Rattle.fb_types.specs.Names.{Name}
use Rattle.fb_types.specs.Blocks.{event}
use Rattle.fb_types.specs.Headline.{Inputs, IsTrace}
use Rattle.fb_types.specs.Limits.{single}
use Rattle.fb_types.specs.Latencies.{constant_table}
use Rattle.fb_types.specs.Simulation.{AtHorizon, AtStop}
use Rattle.fb_types.specs.declared.library.Library.{Library}
use Rattle.fb_types.specs.declared.library.BlockType.{BlockType}
use Rattle.fb_types.specs.declared.library.BlockType.TheVariants as block
use Rattle.fb_types.specs.declared.library.BasicType.{BasicType}
use Rattle.fb_types.specs.declared.library.EventPort.{EventPort}
use Rattle.fb_types.specs.declared.library.State.{State}
use Rattle.fb_types.specs.declared.library.Transition.{Transition}
use Rattle.fb_types.specs.declared.library.Instance.{Instance}
use Rattle.fb_types.specs.declared.library.Connection.{Connection}
use Rattle.fb_types.specs.declared.deploy.Plan.{Plan}
use Rattle.fb_types.specs.declared.deploy.ResourceEntry.{ResourceEntry}
use Rattle.fb_types.specs.declared.deploy.Link.{Link}
use Rattle.fb_types.specs.declared.deploy.Stimulus.{Stimulus}
use Rattle.fb_types.specs.declared.value.Value.TheVariants as value
use Rattle.fb_types.specs.declared.value.Reason.TheVariants.{Steps}
use Rattle.fb_types.specs.declared.run.Form.TheVariants.{One}

-- ---- Parts

-- an instance without parameters
abbrev pub instance : Name → Name → Instance
instance n t = record { name = n; block_type = t; parameters = [] }

-- an instance with one parameter, of type TIME
abbrev pub timed_instance : Name → Name → ℕ → Instance
timed_instance n t ticks =
    record { name = n; block_type = t; parameters = record { name = codes "DT"; value = value.Whole (pos ticks) } ∷ [] }

-- from a port of a component to one of another
abbrev pub joined : (component port : Name) → (other its : Name) → Connection
joined c p d q = record { from = record { component = Some c; port = p }; to = record { component = Some d; port = q } }

-- block types, and an application with its event connections and data connections
abbrev pub library : List BlockType → List Instance → (events wires : List Connection) → Library
library blocks is events wires =
    record {
      blocks = blocks;
      application = record { name = codes "A"; network = record { instances = is; event_connections = events; data_connections = wires } };
    }

abbrev pub resource : Name → List Name → ResourceEntry
resource n is = record { device = codes "D1"; name = n; instances = is }

abbrev pub plan : List ResourceEntry → List Link → Plan
plan rs ls = record { resources = rs; links = ls; holds_all = false }

-- an event of an instance at a tick, which sets no slots
abbrev pub stimulus : ℕ → Name → Name → Stimulus
stimulus t i e = record { tick = t; instance = i; event = e; settings = [] }

-- ---- A cycle of three ticks, begun by a restart

abbrev pub cycle : Inputs
cycle =
    record {
      library =
          library [] (instance (codes "S") (codes "E_RESTART") ∷ timed_instance (codes "C") (codes "E_CYCLE") 3 ∷ [])
          (joined (codes "S") (codes "COLD") (codes "C") (codes "START") ∷ []) [];
      plan = single;
      stimuli = [];
    }

abbrev pub CycleTrace : Type 0
CycleTrace =
    IsTrace cycle One 8 10000 (codes "0 MAIN < S.COLD\n0 MAIN > C.START DT=3\n3 MAIN < C.EO\n6 MAIN < C.EO\nend 8\n") (AtHorizon 8)

-- ---- A delay of four ticks that is started again while it runs

abbrev pub delay : Inputs
delay =
    record {
      library = library [] (timed_instance (codes "D") (codes "E_DELAY") 4 ∷ []) [] [];
      plan = single;
      stimuli = stimulus 0 (codes "D") (codes "START") ∷ stimulus 2 (codes "D") (codes "START") ∷ [];
    }

abbrev pub DelayTrace : Type 0
DelayTrace =
    IsTrace delay One 10 10000
    (codes "0 MAIN > D.START DT=4\n2 MAIN > D.START DT=4\n4 MAIN < D.EO\nend 10\n") (AtHorizon 10)

-- ---- Times of a delay: a stimulus in the tick of the timer comes first, and a time below 1 counts as 1

abbrev pub stopped_delay : Inputs
stopped_delay =
    record {
      library = library [] (timed_instance (codes "D") (codes "E_DELAY") 4 ∷ []) [] [];
      plan = single;
      stimuli = stimulus 0 (codes "D") (codes "START") ∷ stimulus 4 (codes "D") (codes "STOP") ∷ [];
    }

abbrev pub StoppedDelayTrace : Type 0
StoppedDelayTrace = IsTrace stopped_delay One 10 10000 (codes "0 MAIN > D.START DT=4\n4 MAIN > D.STOP\nend 10\n") (AtHorizon 10)

-- START at a tick, with a time that it sets for good
abbrev pub start_with : ℕ → ℤ → Stimulus
start_with t ticks =
    record { tick = t; instance = codes "D"; event = codes "START"; settings = record { variable = codes "DT"; value = value.Whole ticks } ∷ [] }

abbrev pub short_delay : Inputs
short_delay =
    record {
      library = library [] (timed_instance (codes "D") (codes "E_DELAY") 4 ∷ []) [] [];
      plan = single;
      stimuli = start_with 0 (pos 0) ∷ start_with 5 (negsuc 4) ∷ [];
    }

abbrev pub ShortDelayTrace : Type 0
ShortDelayTrace =
    IsTrace short_delay One 10 10000
    (codes "0 MAIN > D.START DT=0\n1 MAIN < D.EO\n5 MAIN > D.START DT=-5\n6 MAIN < D.EO\nend 10\n") (AtHorizon 10)

-- ---- A counter to two

abbrev pub counter : Inputs
counter =
    record {
      library =
          library []
          (
          record {
            name = codes "K";
            block_type = codes "E_CTU";
            parameters = record { name = codes "PV"; value = value.Whole (pos 2) } ∷ [];
          }
          ∷ []
          )
          [] [];
      plan = single;
      stimuli = stimulus 0 (codes "K") (codes "CU") ∷ stimulus 1 (codes "K") (codes "CU") ∷ stimulus 2 (codes "K") (codes "CU") ∷ [];
    }

abbrev pub CounterTrace : Type 0
CounterTrace =
    IsTrace counter One 3 10000
    (codes "0 MAIN > K.CU PV=2\n0 MAIN < K.CUO Q=FALSE CV=1\n1 MAIN > K.CU PV=2\n1 MAIN < K.CUO Q=TRUE CV=2\n2 MAIN > K.CU PV=2\n2 MAIN < K.CUO Q=TRUE CV=3\nend 3\n")
    (AtHorizon 3)

-- ---- An event that goes over a link of two ticks

abbrev pub link : Inputs
link =
    record {
      library =
          library [] (instance (codes "S") (codes "E_RESTART") ∷ instance (codes "M") (codes "E_MERGE") ∷ [])
          (joined (codes "S") (codes "COLD") (codes "M") (codes "EI1") ∷ []) [];
      plan =
          plan (resource (codes "R1") (codes "S" ∷ []) ∷ resource (codes "R2") (codes "M" ∷ []) ∷ [])
          (record { from = codes "R1"; to = codes "R2"; latency = constant_table 2 } ∷ []);
      stimuli = [];
    }

abbrev pub LinkTrace : Type 0
LinkTrace = IsTrace link One 5 10000 (codes "0 R1 < S.COLD\n2 R2 > M.EI1\n2 R2 < M.EO\nend 5\n") (AtHorizon 5)

-- ---- Two links into one resource: what is sent later over the quicker one is taken first, by the number of its link

abbrev pub two_links : Inputs
two_links =
    record {
      library =
          library []
          (instance (codes "A") (codes "E_MERGE") ∷ instance (codes "B") (codes "E_MERGE") ∷ instance (codes "M") (codes "E_MERGE") ∷ [])
          (joined (codes "A") (codes "EO") (codes "M") (codes "EI1") ∷ joined (codes "B") (codes "EO") (codes "M") (codes "EI2") ∷ []) [];
      plan =
          plan
          (resource (codes "R1") (codes "A" ∷ []) ∷ resource (codes "R2") (codes "B" ∷ []) ∷ resource (codes "R3") (codes "M" ∷ []) ∷ [])
          (
          record { from = codes "R1"; to = codes "R3"; latency = constant_table 1 }
          ∷ record { from = codes "R2"; to = codes "R3"; latency = constant_table 4 } ∷ []
          );
      stimuli = stimulus 1 (codes "B") (codes "EI1") ∷ stimulus 4 (codes "A") (codes "EI1") ∷ [];
    }

abbrev pub TwoLinksTrace : Type 0
TwoLinksTrace =
    IsTrace two_links One 6 10000
    (codes "1 R2 > B.EI1\n1 R2 < B.EO\n4 R1 > A.EI1\n4 R1 < A.EO\n5 R3 > M.EI1\n5 R3 < M.EO\n5 R3 > M.EI2\n5 R3 < M.EO\nend 6\n")
    (AtHorizon 6)

-- ---- A value that goes over a link: a stimulus of the tick of its arrival still sees the old copy

abbrev pub held_copy : Inputs
held_copy =
    record {
      library =
          library [] (instance (codes "F") (codes "E_SR") ∷ instance (codes "W") (codes "E_SWITCH") ∷ [])
          (joined (codes "F") (codes "EO") (codes "W") (codes "EI") ∷ []) (joined (codes "F") (codes "Q") (codes "W") (codes "G") ∷ []);
      plan =
          plan (resource (codes "R1") (codes "F" ∷ []) ∷ resource (codes "R2") (codes "W" ∷ []) ∷ [])
          (record { from = codes "R1"; to = codes "R2"; latency = constant_table 2 } ∷ []);
      stimuli = stimulus 3 (codes "F") (codes "S") ∷ stimulus 5 (codes "W") (codes "EI") ∷ [];
    }

abbrev pub HeldCopyTrace : Type 0
HeldCopyTrace =
    IsTrace held_copy One 6 10000
    (codes "3 R1 > F.S\n3 R1 < F.EO Q=TRUE\n5 R2 > W.EI G=FALSE\n5 R2 < W.EO0\n5 R2 > W.EI G=TRUE\n5 R2 < W.EO1\nend 6\n")
    (AtHorizon 6)

-- ---- Charts

-- a state that is entered silently
abbrev pub plain_state : Name → State
plain_state n = record { name = n; actions = [] }

-- a state that emits an event when it is entered
abbrev pub emitting_state : Name → Name → State
emitting_state n e = record { name = n; actions = record { algorithm = None; output = Some e } ∷ [] }

-- a transition by an event
abbrev pub by_event : (from to event : Name) → Transition
by_event s t e = record { from = s; to = t; condition = record { event = Some e; guard = None } }

-- a transition by `1`
abbrev pub always : (from to : Name) → Transition
always s t = record { from = s; to = t; condition = record { event = None; guard = None } }

-- a type without variables and algorithms
abbrev pub chart : Name → (inputs outputs : List EventPort) → List State → List Transition → BasicType
chart n ins outs states transitions =
    record {
      name = n;
      ports = record { event_inputs = ins; event_outputs = outs; inputs = []; outputs = [] };
      internals = [];
      states = states;
      transitions = transitions;
      algorithms = [];
    }

-- ---- A chart with two transitions in a row by one event: it moves one state further at each event

abbrev pub stepper_type : BasicType
stepper_type =
    chart (codes "STEPPER") (event (codes "GO") ∷ []) (event (codes "E1") ∷ event (codes "E2") ∷ [])
    (plain_state (codes "A") ∷ emitting_state (codes "B") (codes "E1") ∷ emitting_state (codes "C") (codes "E2") ∷ [])
    (by_event (codes "A") (codes "B") (codes "GO") ∷ by_event (codes "B") (codes "C") (codes "GO") ∷ [])

abbrev pub stepper : Inputs
stepper =
    record {
      library = library (block.Basic stepper_type ∷ []) (instance (codes "X") (codes "STEPPER") ∷ []) [] [];
      plan = single;
      stimuli = stimulus 0 (codes "X") (codes "GO") ∷ stimulus 1 (codes "X") (codes "GO") ∷ [];
    }

abbrev pub StepperTrace : Type 0
StepperTrace =
    IsTrace stepper One 2 10000 (codes "0 MAIN > X.GO\n0 MAIN < X.E1\n1 MAIN > X.GO\n1 MAIN < X.E2\nend 2\n") (AtHorizon 2)

-- ---- A chart without a resting state, in the second of three resources: with ten steps it emits four times, and then
-- the simulation stops

abbrev pub looper_type : BasicType
looper_type =
    chart (codes "LOOPER") (event (codes "GO") ∷ []) (event (codes "TICKED") ∷ [])
    (plain_state (codes "IDLE") ∷ emitting_state (codes "BUSY") (codes "TICKED") ∷ [])
    (by_event (codes "IDLE") (codes "BUSY") (codes "GO") ∷ always (codes "BUSY") (codes "BUSY") ∷ [])

abbrev pub looper : Inputs
looper =
    record {
      library =
          library (block.Basic looper_type ∷ [])
          (instance (codes "A") (codes "E_MERGE") ∷ instance (codes "L") (codes "LOOPER") ∷ instance (codes "C") (codes "E_MERGE") ∷ [])
          [] [];
      plan =
          plan
          (resource (codes "R1") (codes "A" ∷ []) ∷ resource (codes "R2") (codes "L" ∷ []) ∷ resource (codes "R3") (codes "C" ∷ []) ∷ []) [];
      stimuli =
          stimulus 7 (codes "C") (codes "EI1") ∷ stimulus 7 (codes "L") (codes "GO") ∷ stimulus 7 (codes "A") (codes "EI1") ∷ [];
    }

abbrev pub LooperTrace : Type 0
LooperTrace =
    IsTrace looper One 9 10
    (codes "7 R1 > A.EI1\n7 R1 < A.EO\n7 R2 > L.GO\n7 R2 < L.TICKED\n7 R2 < L.TICKED\n7 R2 < L.TICKED\n7 R2 < L.TICKED\nstop 7 R2 steps\n")
    (AtStop 7 1 Steps)
