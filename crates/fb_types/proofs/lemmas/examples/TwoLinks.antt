-- The derivation of two links into one resource.
use Rattle.fb_types.proofs.Common.{◌≡◌, refl, List, [], ◌∷◌, codes, digits, system_of, stimuli_of, stimulus_key, message_key, Name, Port, opening, IsSimulation, Taken, lines_of, AtHorizon, Stimulated, Arrived, System, trace_text, One}
use Rattle.fb_types.specs.Examples.{two_links, TwoLinksTrace}
use Rattle.fb_types.proofs.lemmas.examples.Derivations.{Step, step, takings, simulates}

abbrev sys : System
sys = system_of two_links

abbrev event : Name → Name → Port
event i e = record { at = i ∷ []; name = e }

abbrev steps : List Step
steps =
    step (stimulus_key 1 1 0) (Stimulated (event (codes "B") (codes "EI1")) [])
    ∷ step (stimulus_key 4 0 1) (Stimulated (event (codes "A") (codes "EI1")) [])
    ∷ step (message_key 5 2 0 0) (Arrived (event (codes "M") (codes "EI1")) [])
    ∷ step (message_key 5 2 1 0) (Arrived (event (codes "M") (codes "EI2")) []) ∷ []

abbrev taken : List Taken
taken = takings sys 10000 (opening sys (stimuli_of two_links)) steps

simulated : IsSimulation sys (stimuli_of two_links) 6 10000 taken
simulated = simulates sys (stimuli_of two_links) 6 10000 steps (record { waits = refl; first = refl; below = refl; begins = refl; shown = tt }, (record { waits = refl; first = refl; below = refl; begins = refl; shown = tt }, (record { waits = refl; first = refl; below = refl; begins = refl; shown = tt }, (record { waits = refl; first = refl; below = refl; begins = refl; shown = tt }, refl))))

text : codes "1 R2 > B.EI1\n1 R2 < B.EO\n4 R1 > A.EI1\n4 R1 < A.EO\n5 R3 > M.EI1\n5 R3 < M.EO\n5 R3 > M.EI2\n5 R3 < M.EO\nend 6\n" ≡ trace_text One sys (lines_of taken) (AtHorizon 6)
unfolding digits
text = refl

pub two-links-trace : TwoLinksTrace
two-links-trace = record { takings = taken; simulation = simulated; ending = refl; text = text }
