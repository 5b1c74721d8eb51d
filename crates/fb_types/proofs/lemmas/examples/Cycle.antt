-- The derivation of the cycle.
use Rattle.fb_types.proofs.Common.{◌≡◌, refl, List, [], ◌∷◌, codes, digits, system_of, stimuli_of, timer_key, local_key, opening, IsSimulation, Taken, lines_of, AtHorizon, Expired, Raised, System, Name, Port, trace_text, One}
use Rattle.fb_types.specs.Examples.{cycle, CycleTrace}
use Rattle.fb_types.proofs.lemmas.examples.Derivations.{Step, step, takings, simulates}

abbrev sys : System
sys = system_of cycle

abbrev event : Name → Name → Port
event i e = record { at = i ∷ []; name = e }

abbrev steps : List Step
steps =
    step (timer_key 0 0 0) (Expired (codes "S" ∷ []))
    ∷ step (local_key 0 0 0) (Raised (event (codes "C") (codes "START")))
    ∷ step (timer_key 3 0 1) (Expired (codes "C" ∷ []))
    ∷ step (timer_key 6 0 1) (Expired (codes "C" ∷ [])) ∷ []

abbrev taken : List Taken
taken = takings sys 10000 (opening sys (stimuli_of cycle)) steps

simulated : IsSimulation sys (stimuli_of cycle) 8 10000 taken
simulated = simulates sys (stimuli_of cycle) 8 10000 steps (record { waits = refl; first = refl; below = refl; begins = refl; shown = tt }, (record { waits = refl; first = refl; below = refl; begins = refl; shown = tt }, (record { waits = refl; first = refl; below = refl; begins = refl; shown = tt }, (record { waits = refl; first = refl; below = refl; begins = refl; shown = tt }, refl))))

text : codes "0 MAIN < S.COLD\n0 MAIN > C.START DT=3\n3 MAIN < C.EO\n6 MAIN < C.EO\nend 8\n" ≡ trace_text One sys (lines_of taken) (AtHorizon 8)
unfolding digits
text = refl

pub cycle-trace : CycleTrace
cycle-trace = record { takings = taken; simulation = simulated; ending = refl; text = text }
