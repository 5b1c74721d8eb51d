-- The derivation of the counter.
use Rattle.fb_types.proofs.Common.{◌≡◌, refl, List, [], ◌∷◌, codes, digits, system_of, stimuli_of, stimulus_key, Name, Port, opening, IsSimulation, Taken, lines_of, AtHorizon, Stimulated, System, trace_text, One}
use Rattle.fb_types.specs.Examples.{counter, CounterTrace}
use Rattle.fb_types.proofs.lemmas.examples.Derivations.{Step, step, takings, simulates}

abbrev sys : System
sys = system_of counter

abbrev event : Name → Name → Port
event i e = record { at = i ∷ []; name = e }

abbrev steps : List Step
steps =
    step (stimulus_key 0 0 0) (Stimulated (event (codes "K") (codes "CU")) [])
    ∷ step (stimulus_key 1 0 1) (Stimulated (event (codes "K") (codes "CU")) [])
    ∷ step (stimulus_key 2 0 2) (Stimulated (event (codes "K") (codes "CU")) []) ∷ []

abbrev taken : List Taken
taken = takings sys 10000 (opening sys (stimuli_of counter)) steps

simulated : IsSimulation sys (stimuli_of counter) 3 10000 taken
simulated = simulates sys (stimuli_of counter) 3 10000 steps (record { waits = refl; first = refl; below = refl; begins = refl; shown = tt }, (record { waits = refl; first = refl; below = refl; begins = refl; shown = tt }, (record { waits = refl; first = refl; below = refl; begins = refl; shown = tt }, refl)))

text : codes "0 MAIN > K.CU PV=2\n0 MAIN < K.CUO Q=FALSE CV=1\n1 MAIN > K.CU PV=2\n1 MAIN < K.CUO Q=TRUE CV=2\n2 MAIN > K.CU PV=2\n2 MAIN < K.CUO Q=TRUE CV=3\nend 3\n" ≡ trace_text One sys (lines_of taken) (AtHorizon 3)
unfolding digits
text = refl

pub counter-trace : CounterTrace
counter-trace = record { takings = taken; simulation = simulated; ending = refl; text = text }
