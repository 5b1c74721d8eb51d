-- Worked examples with algorithms: the traces that the definitions give them (this project's profile).
use Rattle.std.specs.Prelude.{[], ◌∷◌, Some, None, ℤ, pos, codes}
use Rattle.fb_types.specs.Names.{Name}
use Rattle.fb_types.specs.Blocks.{event, event_with, variable}
use Rattle.fb_types.specs.Examples.{instance, library, stimulus, plain_state, by_event, always}
use Rattle.fb_types.specs.Headline.{Inputs, IsTrace}
use Rattle.fb_types.specs.Limits.{single}
use Rattle.fb_types.specs.Simulation.{AtHorizon, AtStop}
use Rattle.fb_types.specs.declared.text.Expr as read
use Rattle.fb_types.specs.declared.text.Expr.TheOpen.{Expr-F}
use Rattle.fb_types.specs.declared.text.Expr.TheViews.{roll-Expr}
use Rattle.fb_types.specs.declared.text.Stmt as read_stmt
use Rattle.fb_types.specs.declared.text.Stmt.TheOpen.{Stmt-F}
use Rattle.fb_types.specs.declared.text.Stmt.TheViews.{roll-Stmt}
use Rattle.fb_types.specs.declared.text.BinaryOperator.{BinaryOperator}
use Rattle.fb_types.specs.declared.text.BinaryOperator.TheVariants.{Add, Multiply, Divide}
use Rattle.fb_types.specs.declared.library.Ports.{Ports}
use Rattle.fb_types.specs.declared.library.BlockType.TheVariants as block
use Rattle.fb_types.specs.declared.library.BasicType.{BasicType}
use Rattle.fb_types.specs.declared.library.CompositeType.{CompositeType}
use Rattle.fb_types.specs.declared.library.Connection.{Connection}
use Rattle.fb_types.specs.declared.value.Ty.TheVariants.{Int}
use Rattle.fb_types.specs.declared.value.Value.TheVariants as value
use Rattle.fb_types.specs.declared.value.Reason.TheVariants as reason
use Rattle.fb_types.specs.declared.run.Form.TheVariants.{One}

-- ---- Expressions and statements as they are read

abbrev pub whole_read : ℤ → read.Expr
whole_read z = roll-Expr (Expr-F.Whole z)

abbrev pub variable_read : Name → read.Expr
variable_read n = roll-Expr (Expr-F.Variable n)

abbrev pub binary_read : BinaryOperator → read.Expr → read.Expr → read.Expr
binary_read o e f = roll-Expr (Expr-F.Binary o e f)

abbrev pub assignment_read : Name → read.Expr → read_stmt.Stmt
assignment_read n e = roll-Stmt (Stmt-F.Assign n e)

-- ---- A type that runs one algorithm at each GO and then emits DONE

abbrev pub running_type : (type_name algorithm : Name) → Ports → read_stmt.Stmt → BasicType
running_type n a its s =
    record {
      name = n;
      ports = its;
      internals = [];
      states =
          plain_state (codes "IDLE")
          ∷ record { name = codes "RUN"; actions = record { algorithm = Some a; output = Some (codes "DONE") } ∷ [] } ∷ [];
      transitions = by_event (codes "IDLE") (codes "RUN") (codes "GO") ∷ always (codes "RUN") (codes "IDLE") ∷ [];
      algorithms = record { name = a; body = record { statements = s ∷ [] } } ∷ [];
    }

-- ---- An algorithm over an output X of type INT

abbrev pub calc_type : read_stmt.Stmt → BasicType
calc_type =
    running_type (codes "CALC") (codes "A")
    (
    record {
      event_inputs = event (codes "GO") ∷ [];
      event_outputs = event_with (codes "DONE") (codes "X" ∷ []) ∷ [];
      inputs = [];
      outputs = variable (codes "X") Int ∷ [];
    }
    )

abbrev pub calc : read_stmt.Stmt → Inputs
calc s =
    record {
      library = library (block.Basic (calc_type s) ∷ []) (instance (codes "B") (codes "CALC") ∷ []) [] [];
      plan = single;
      stimuli = stimulus 0 (codes "B") (codes "GO") ∷ [];
    }

-- FOR X := 32766 TO 32767 DO ; END_FOR;
abbrev pub counting : read_stmt.Stmt
counting =
    roll-Stmt (Stmt-F.For (codes "X") (whole_read (pos 32766)) (whole_read (pos 32767)) None (roll-Stmt Stmt-F.Empty ∷ []))

-- The tick takes ten steps.
abbrev pub CountingTrace : Type 0
CountingTrace = IsTrace (calc counting) One 1 10 (codes "0 MAIN > B.GO\n0 MAIN < B.DONE X=32767\nend 1\n") (AtHorizon 1)

-- Nine steps are not enough.
abbrev pub CountingStops : Type 0
CountingStops =
    IsTrace (calc counting) One 1 9 (codes "0 MAIN > B.GO\n0 MAIN < B.DONE X=32767\nstop 0 MAIN steps\n") (AtStop 0 0 reason.Steps)

-- X := 32767 + 1;
abbrev pub adding : read_stmt.Stmt
adding = assignment_read (codes "X") (binary_read Add (whole_read (pos 32767)) (whole_read (pos 1)))

-- The sum is exact, and the variable can't hold it.
abbrev pub RangeTrace : Type 0
RangeTrace =
    IsTrace (calc adding) One 1 10000
    (codes "0 MAIN > B.GO\nstop 0 MAIN range\n") (AtStop 0 0 reason.Range)

-- X := 1 / 0;
abbrev pub dividing : read_stmt.Stmt
dividing = assignment_read (codes "X") (binary_read Divide (whole_read (pos 1)) (whole_read (pos 0)))

abbrev pub DivideTrace : Type 0
DivideTrace =
    IsTrace (calc dividing) One 1 10000
    (codes "0 MAIN > B.GO\nstop 0 MAIN divide\n") (AtStop 0 0 reason.Divide)

-- ---- A composite around a type that doubles a number

-- Y := 2 * X;
abbrev pub doubling : read_stmt.Stmt
doubling = assignment_read (codes "Y") (binary_read Multiply (whole_read (pos 2)) (variable_read (codes "X")))

abbrev pub doubler_type : BasicType
doubler_type =
    running_type (codes "DOUBLER") (codes "DBL")
    (
    record {
      event_inputs = event_with (codes "GO") (codes "X" ∷ []) ∷ [];
      event_outputs = event_with (codes "DONE") (codes "Y" ∷ []) ∷ [];
      inputs = variable (codes "X") Int ∷ [];
      outputs = variable (codes "Y") Int ∷ [];
    }
    )
    doubling

-- from a boundary port to a port of a component
abbrev pub inwards : Name → (component port : Name) → Connection
inwards p c q = record { from = record { component = None; port = p }; to = record { component = Some c; port = q } }

-- from a port of a component to a boundary port
abbrev pub outwards : (component port : Name) → Name → Connection
outwards c q p = record { from = record { component = Some c; port = q }; to = record { component = None; port = p } }

abbrev pub twice_type : CompositeType
twice_type =
    record {
      name = codes "TWICE";
      ports = record {
        event_inputs = event_with (codes "EI") (codes "N" ∷ []) ∷ [];
        event_outputs = event_with (codes "EO") (codes "M" ∷ []) ∷ [];
        inputs = variable (codes "N") Int ∷ [];
        outputs = variable (codes "M") Int ∷ [];
      };
      network = record {
        instances = instance (codes "A") (codes "DOUBLER") ∷ [];
        event_connections = inwards (codes "EI") (codes "A") (codes "GO") ∷ outwards (codes "A") (codes "DONE") (codes "EO") ∷ [];
        data_connections = inwards (codes "N") (codes "A") (codes "X") ∷ outwards (codes "A") (codes "Y") (codes "M") ∷ [];
      };
    }

abbrev pub twice : Inputs
twice =
    record {
      library = library (block.Basic doubler_type ∷ block.Composite twice_type ∷ []) (instance (codes "T") (codes "TWICE") ∷ []) [] [];
      plan = single;
      stimuli =
          record { tick = 0; instance = codes "T"; event = codes "EI"; settings = record { variable = codes "N"; value = value.Whole (pos 21) } ∷ [] } ∷ [];
    }

abbrev pub TwiceTrace : Type 0
TwiceTrace =
    IsTrace twice One 1 10000 (codes "0 MAIN > T.EI N=21\n0 MAIN > T.A.GO X=21\n0 MAIN < T.A.DONE Y=42\n0 MAIN < T.EO M=42\nend 1\n") (AtHorizon 1)
