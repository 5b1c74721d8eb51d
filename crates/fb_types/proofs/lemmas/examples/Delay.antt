-- The derivation of the delay.
use Rattle.fb_types.proofs.Common.{◌≡◌, refl, List, [], ◌∷◌, codes, digits, system_of, stimuli_of, timer_key, stimulus_key, opening, IsSimulation, Taken, lines_of, AtHorizon, Expired, Stimulated, System, Name, Port, trace_text, One}
use Rattle.fb_types.specs.Examples.{delay, DelayTrace}
use Rattle.fb_types.proofs.lemmas.examples.Derivations.{Step, step, takings, simulates}

abbrev sys : System
sys = system_of delay

abbrev event : Name → Name → Port
event i e = record { at = i ∷ []; name = e }

abbrev steps : List Step
steps =
    step (stimulus_key 0 0 0) (Stimulated (event (codes "D") (codes "START")) [])
    ∷ step (stimulus_key 2 0 1) (Stimulated (event (codes "D") (codes "START")) [])
    ∷ step (timer_key 4 0 0) (Expired (codes "D" ∷ [])) ∷ []

abbrev taken : List Taken
taken = takings sys 10000 (opening sys (stimuli_of delay)) steps

simulated : IsSimulation sys (stimuli_of delay) 10 10000 taken
simulated = simulates sys (stimuli_of delay) 10 10000 steps (record { waits = refl; first = refl; below = refl; begins = refl; shown = tt }, (record { waits = refl; first = refl; below = refl; begins = refl; shown = tt }, (record { waits = refl; first = refl; below = refl; begins = refl; shown = tt }, refl)))

text : codes "0 MAIN > D.START DT=4\n2 MAIN > D.START DT=4\n4 MAIN < D.EO\nend 10\n" ≡ trace_text One sys (lines_of taken) (AtHorizon 10)
unfolding digits
text = refl

pub delay-trace : DelayTrace
delay-trace = record { takings = taken; simulation = simulated; ending = refl; text = text }
