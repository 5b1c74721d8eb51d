-- The derivations of the algorithms over one variable.
use Rattle.fb_types.proofs.Common.{◌≡◌, ℕ, ◌-◌, refl, List, [], ◌∷◌, Option, Some, None, pos, codes, digits, types_of, Emission, Went, Stopped, Position, system_of, stimuli_of, stimulus_key, opening, IsSimulation, Taken, lines_of, AtHorizon, AtStop, Stimulated, trace_text, One, Reason}
use Rattle.fb_types.specs.ExampleBodies.{calc, calc_type, counting, CountingTrace, CountingStops, adding, RangeTrace, dividing, DivideTrace}
use Rattle.fb_types.specs.ExampleRuns.{counted}
use Rattle.fb_types.specs.declared.text.BinaryOperator.TheVariants.{Add, Divide}
use Rattle.fb_types.specs.declared.text.Stmt as read_stmt
use Rattle.fb_types.specs.declared.value.Reason.TheVariants as reason
use Rattle.fb_types.specs.declared.value.Value.TheVariants as value
use Rattle.fb_types.proofs.lemmas.examples.Derivations.{Step, takings, simulates}
use Rattle.fb_types.proofs.lemmas.examples.ReadBodies.{as_read, says_counting, says_sum}
use Rattle.fb_types.proofs.lemmas.examples.Runs.{five}

-- GO is taken, with the result of the chart.
abbrev goes : (Position → Option Reason × Position) → List Step
goes chart =
    record { key = stimulus_key 0 0 0; event = Stimulated (record { at = codes "B" ∷ []; name = codes "GO" }) []; chart = chart } ∷ []

abbrev taken : read_stmt.Stmt → (limit : ℕ) → (Position → Option Reason × Position) → List Taken
taken s limit chart = takings (system_of (calc s)) limit (opening (system_of (calc s)) (stimuli_of (calc s))) (goes chart)

-- ---- The counting loop

abbrev finished : Emission
finished = record { event = codes "DONE"; values = record { variable = codes "X"; value = value.Whole (pos 32767) } ∷ [] }

-- back in IDLE, with no step left
abbrev counts : Position → Option Reason × Position
counts p = (None, record { state = codes "IDLE"; vars = counted p.vars; left = 0; emitted = finished ∷ [] })

-- back in IDLE, without the step for the trial
abbrev counts_short : Position → Option Reason × Position
counts_short p = (Some reason.Steps, record { state = codes "IDLE"; vars = counted p.vars; left = 0; emitted = finished ∷ [] })

ten : IsSimulation (system_of (calc counting)) (stimuli_of (calc counting)) 1 10 (taken counting 10 counts)
ten =
    simulates (system_of (calc counting)) (stimuli_of (calc counting)) 1 10 (goes counts)
    (record { waits = refl; first = refl; below = refl; begins = refl; shown = (2, (None, _, (Went, _, as_read (types_of (calc_type counting)) counting _ says_counting _ Went _ (five _ 2), (refl, refl)), (None, _, (refl, refl), (refl, refl)))) }, refl)

ten_text : codes "0 MAIN > B.GO\n0 MAIN < B.DONE X=32767\nend 1\n"
    ≡ trace_text One (system_of (calc counting)) (lines_of (taken counting 10 counts)) (AtHorizon 1)
unfolding digits
ten_text = refl

pub counting-trace : CountingTrace
counting-trace = record { takings = taken counting 10 counts; simulation = ten; ending = refl; text = ten_text }

nine : IsSimulation (system_of (calc counting)) (stimuli_of (calc counting)) 1 9 (taken counting 9 counts_short)
nine =
    simulates (system_of (calc counting)) (stimuli_of (calc counting)) 1 9 (goes counts_short)
    (record { waits = refl; first = refl; below = refl; begins = refl; shown = (2, (None, _, (Went, _, as_read (types_of (calc_type counting)) counting _ says_counting _ Went _ (five _ 1), (refl, refl)), (None, _, (refl, refl), (refl, refl)))) }, tt)

nine_text : codes "0 MAIN > B.GO\n0 MAIN < B.DONE X=32767\nstop 0 MAIN steps\n"
    ≡ trace_text One (system_of (calc counting)) (lines_of (taken counting 9 counts_short)) (AtStop 0 0 reason.Steps)
unfolding digits
nine_text = refl

pub counting-stops : CountingStops
counting-stops = record { takings = taken counting 9 counts_short; simulation = nine; ending = refl; text = nine_text }

-- ---- Faults

-- in RUN, and the algorithm is not done
abbrev faults : Reason → Position → Option Reason × Position
faults r p = (Some r, record { state = codes "RUN"; vars = p.vars; left = p.left - 3; emitted = [] })

too_great : IsSimulation (system_of (calc adding)) (stimuli_of (calc adding)) 1 10000 (taken adding 10000 (faults reason.Range))
too_great =
    simulates (system_of (calc adding)) (stimuli_of (calc adding)) 1 10000 (goes (faults reason.Range))
    (record { waits = refl; first = refl; below = refl; begins = refl; shown = (1, (Some reason.Range, _, (Stopped reason.Range, _, as_read (types_of (calc_type adding)) adding _ (says_sum (codes "X") Add (pos 32767) (pos 1)) _ (Stopped reason.Range) _ (Stopped reason.Range, (Stopped reason.Range, _, (refl, refl), (refl, refl)), refl), (refl, refl)), (refl, refl))) }, tt)

too_great_text : codes "0 MAIN > B.GO\nstop 0 MAIN range\n"
    ≡ trace_text One (system_of (calc adding)) (lines_of (taken adding 10000 (faults reason.Range))) (AtStop 0 0 reason.Range)
unfolding digits
too_great_text = refl

pub range-trace : RangeTrace
range-trace = record { takings = taken adding 10000 (faults reason.Range); simulation = too_great; ending = refl; text = too_great_text }

no_quotient : IsSimulation (system_of (calc dividing)) (stimuli_of (calc dividing)) 1 10000 (taken dividing 10000 (faults reason.Divide))
no_quotient =
    simulates (system_of (calc dividing)) (stimuli_of (calc dividing)) 1 10000 (goes (faults reason.Divide))
    (record { waits = refl; first = refl; below = refl; begins = refl; shown = (1, (Some reason.Divide, _, (Stopped reason.Divide, _, as_read (types_of (calc_type dividing)) dividing _ (says_sum (codes "X") Divide (pos 1) (pos 0)) _ (Stopped reason.Divide) _ (Stopped reason.Divide, (Stopped reason.Divide, _, (refl, refl), (refl, refl)), refl), (refl, refl)), (refl, refl))) }, tt)

no_quotient_text : codes "0 MAIN > B.GO\nstop 0 MAIN divide\n"
    ≡ trace_text One (system_of (calc dividing)) (lines_of (taken dividing 10000 (faults reason.Divide))) (AtStop 0 0 reason.Divide)
unfolding digits
no_quotient_text = refl

pub divide-trace : DivideTrace
divide-trace = record { takings = taken dividing 10000 (faults reason.Divide); simulation = no_quotient; ending = refl; text = no_quotient_text }
