-- The derivation of the delay with times below 1.
use Rattle.fb_types.proofs.Common.{◌≡◌, refl, List, [], ◌∷◌, pos, negsuc, codes, digits, system_of, stimuli_of, timer_key, stimulus_key, Name, Port, opening, IsSimulation, Taken, lines_of, AtHorizon, Expired, Stimulated, System, trace_text, One}
use Rattle.fb_types.specs.Examples.{short_delay, ShortDelayTrace}
use Rattle.fb_types.specs.declared.value.Value.TheVariants as value
use Rattle.fb_types.proofs.lemmas.examples.Derivations.{Step, step, takings, simulates}

abbrev sys : System
sys = system_of short_delay

abbrev event : Name → Name → Port
event i e = record { at = i ∷ []; name = e }

abbrev steps : List Step
steps =
    step (stimulus_key 0 0 0) (Stimulated (event (codes "D") (codes "START")) (record { variable = codes "DT"; value = value.Whole (pos 0) } ∷ []))
    ∷ step (timer_key 1 0 0) (Expired (codes "D" ∷ []))
    ∷ step (stimulus_key 5 0 1) (Stimulated (event (codes "D") (codes "START")) (record { variable = codes "DT"; value = value.Whole (negsuc 4) } ∷ []))
    ∷ step (timer_key 6 0 0) (Expired (codes "D" ∷ [])) ∷ []

abbrev taken : List Taken
taken = takings sys 10000 (opening sys (stimuli_of short_delay)) steps

simulated : IsSimulation sys (stimuli_of short_delay) 10 10000 taken
simulated = simulates sys (stimuli_of short_delay) 10 10000 steps (record { waits = refl; first = refl; below = refl; begins = refl; shown = tt }, (record { waits = refl; first = refl; below = refl; begins = refl; shown = tt }, (record { waits = refl; first = refl; below = refl; begins = refl; shown = tt }, (record { waits = refl; first = refl; below = refl; begins = refl; shown = tt }, refl))))

text : codes "0 MAIN > D.START DT=0\n1 MAIN < D.EO\n5 MAIN > D.START DT=-5\n6 MAIN < D.EO\nend 10\n" ≡ trace_text One sys (lines_of taken) (AtHorizon 10)
unfolding digits
text = refl

pub short-delay-trace : ShortDelayTrace
short-delay-trace = record { takings = taken; simulation = simulated; ending = refl; text = text }
