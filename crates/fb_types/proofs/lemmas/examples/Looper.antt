-- The derivation of the chart without a resting state.
use Rattle.fb_types.proofs.Common.{◌≡◌, refl, List, [], ◌∷◌, Option, Some, None, codes, digits, system_of, stimuli_of, stimulus_key, opening, IsSimulation, Taken, lines_of, AtStop, Stimulated, System, Name, Port, trace_text, One, Emission, Position, Reason, Steps}
use Rattle.fb_types.specs.Examples.{looper, LooperTrace}
use Rattle.fb_types.proofs.lemmas.examples.Derivations.{Step, step, takings, simulates}

abbrev sys : System
sys = system_of looper

abbrev event : Name → Name → Port
event i e = record { at = i ∷ []; name = e }

abbrev ticked : Emission
ticked = record { event = codes "TICKED"; values = [] }

abbrev loops : Position → Option Reason × Position
loops p = (Some Steps, record { state = codes "BUSY"; vars = p.vars; left = 0; emitted = ticked ∷ ticked ∷ ticked ∷ ticked ∷ [] })

abbrev steps : List Step
steps =
    step (stimulus_key 7 0 2) (Stimulated (event (codes "A") (codes "EI1")) [])
    ∷ record { key = stimulus_key 7 1 1; event = Stimulated (event (codes "L") (codes "GO")) []; chart = loops } ∷ []

abbrev taken : List Taken
taken = takings sys 10 (opening sys (stimuli_of looper)) steps

simulated : IsSimulation sys (stimuli_of looper) 9 10 taken
simulated = simulates sys (stimuli_of looper) 9 10 steps (record { waits = refl; first = refl; below = refl; begins = refl; shown = tt }, (record { waits = refl; first = refl; below = refl; begins = refl; shown = (5, (None, _, (refl, refl), (None, _, (refl, refl), (None, _, (refl, refl), (None, _, (refl, refl), (Some Steps, _, (refl, refl), (refl, refl))))))) }, tt))

text : codes "7 R1 > A.EI1\n7 R1 < A.EO\n7 R2 > L.GO\n7 R2 < L.TICKED\n7 R2 < L.TICKED\n7 R2 < L.TICKED\n7 R2 < L.TICKED\nstop 7 R2 steps\n" ≡ trace_text One sys (lines_of taken) (AtStop 7 1 Steps)
unfolding digits
text = refl

pub looper-trace : LooperTrace
looper-trace = record { takings = taken; simulation = simulated; ending = refl; text = text }
