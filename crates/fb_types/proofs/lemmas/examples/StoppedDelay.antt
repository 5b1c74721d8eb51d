-- The derivation of the delay that is stopped in the tick of its timer.
use Rattle.fb_types.proofs.Common.{◌≡◌, refl, List, [], ◌∷◌, codes, digits, system_of, stimuli_of, stimulus_key, Name, Port, opening, IsSimulation, Taken, lines_of, AtHorizon, Stimulated, System, trace_text, One}
use Rattle.fb_types.specs.Examples.{stopped_delay, StoppedDelayTrace}
use Rattle.fb_types.proofs.lemmas.examples.Derivations.{Step, step, takings, simulates}

abbrev sys : System
sys = system_of stopped_delay

abbrev event : Name → Name → Port
event i e = record { at = i ∷ []; name = e }

abbrev steps : List Step
steps =
    step (stimulus_key 0 0 0) (Stimulated (event (codes "D") (codes "START")) [])
    ∷ step (stimulus_key 4 0 1) (Stimulated (event (codes "D") (codes "STOP")) []) ∷ []

abbrev taken : List Taken
taken = takings sys 10000 (opening sys (stimuli_of stopped_delay)) steps

simulated : IsSimulation sys (stimuli_of stopped_delay) 10 10000 taken
simulated = simulates sys (stimuli_of stopped_delay) 10 10000 steps (record { waits = refl; first = refl; below = refl; begins = refl; shown = tt }, (record { waits = refl; first = refl; below = refl; begins = refl; shown = tt }, refl))

text : codes "0 MAIN > D.START DT=4\n4 MAIN > D.STOP\nend 10\n" ≡ trace_text One sys (lines_of taken) (AtHorizon 10)
unfolding digits
text = refl

pub stopped-delay-trace : StoppedDelayTrace
stopped-delay-trace = record { takings = taken; simulation = simulated; ending = refl; text = text }
