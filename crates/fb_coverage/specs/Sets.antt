-- How marks are set (this project's own).
use Rattle.std.specs.Prelude.{ℕ, [], Bool, false, true, if◌then◌else◌}
use Rattle.fb_coverage.specs.Tables.{with_flag}
use Rattle.fb_coverage.specs.declared.marks.ChartMarks.{ChartMarks}
use Rattle.fb_coverage.specs.declared.marks.Marks.{Marks}
use Rattle.fb_coverage.specs.declared.marks.PortMarks.{PortMarks}
use Rattle.fb_coverage.specs.declared.table.Table.{Table}

abbrev pub no_rows : Table
no_rows = record { rows = [] }

-- the marks of nothing
abbrev pub no_marks : Marks
no_marks =
    record {
      charts = record { states = no_rows; transitions = no_rows; algorithms = no_rows; taken = no_rows; clearing = no_rows; lost = false };
      ports = record { inputs = no_rows; outputs = no_rows };
    }

-- a block of the type took an event, and has not lost it
abbrev pub with_taken : (number event : ℕ) → ChartMarks → ChartMarks
with_taken i e m = record m { taken = with_flag m.taken i e; lost = false }

-- a transition of the type cleared, and led to a state, when the event had been taken
abbrev pub with_cleared : (number transition target event : ℕ) → ChartMarks → ChartMarks
with_cleared i k s e m =
    record m { states = with_flag m.states i s; transitions = with_flag m.transitions i k; clearing = with_flag m.clearing i e }

-- an event cleared no transition
abbrev pub with_lost : ChartMarks → ChartMarks
with_lost m = record m { lost = true }

-- an algorithm of the type ran
abbrev pub with_ran : (number algorithm : ℕ) → ChartMarks → ChartMarks
with_ran i a m = record m { algorithms = with_flag m.algorithms i a }

-- an event came to an instance, or went from it
abbrev pub with_port : (instance : ℕ) → (taken : Bool) → (event : ℕ) → PortMarks → PortMarks
with_port k taken e m =
    if taken then (record m { inputs = with_flag m.inputs k e }) else (record m { outputs = with_flag m.outputs k e })
