-- The derivation of the event that goes over a link.
use Rattle.fb_types.proofs.Common.{◌≡◌, refl, List, [], ◌∷◌, codes, digits, system_of, stimuli_of, timer_key, message_key, opening, IsSimulation, Taken, lines_of, AtHorizon, Expired, Arrived, System, Name, Port, trace_text, One}
use Rattle.fb_types.specs.Examples.{link, LinkTrace}
use Rattle.fb_types.proofs.lemmas.examples.Derivations.{Step, step, takings, simulates}

abbrev sys : System
sys = system_of link

abbrev event : Name → Name → Port
event i e = record { at = i ∷ []; name = e }

abbrev steps : List Step
steps =
    step (timer_key 0 0 0) (Expired (codes "S" ∷ []))
    ∷ step (message_key 2 1 0 0) (Arrived (event (codes "M") (codes "EI1")) []) ∷ []

abbrev taken : List Taken
taken = takings sys 10000 (opening sys (stimuli_of link)) steps

simulated : IsSimulation sys (stimuli_of link) 5 10000 taken
simulated = simulates sys (stimuli_of link) 5 10000 steps (record { waits = refl; first = refl; below = refl; begins = refl; shown = tt }, (record { waits = refl; first = refl; below = refl; begins = refl; shown = tt }, refl))

text : codes "0 R1 < S.COLD\n2 R2 > M.EI1\n2 R2 < M.EO\nend 5\n" ≡ trace_text One sys (lines_of taken) (AtHorizon 5)
unfolding digits
text = refl

pub link-trace : LinkTrace
link-trace = record { takings = taken; simulation = simulated; ending = refl; text = text }
