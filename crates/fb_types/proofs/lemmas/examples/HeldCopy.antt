-- The derivation of the value that goes over a link.
use Rattle.fb_types.proofs.Common.{◌≡◌, refl, List, [], ◌∷◌, true, codes, digits, system_of, stimuli_of, stimulus_key, message_key, opening, IsSimulation, Taken, lines_of, AtHorizon, Stimulated, Arrived, System, Name, Port, trace_text, One}
use Rattle.fb_types.specs.Examples.{held_copy, HeldCopyTrace}
use Rattle.fb_types.proofs.lemmas.examples.Derivations.{Step, step, takings, simulates}
use Rattle.fb_types.specs.declared.value.Value.TheVariants as value

abbrev sys : System
sys = system_of held_copy

abbrev event : Name → Name → Port
event i e = record { at = i ∷ []; name = e }

abbrev steps : List Step
steps =
    step (stimulus_key 3 0 0) (Stimulated (event (codes "F") (codes "S")) [])
    ∷ step (stimulus_key 5 1 1) (Stimulated (event (codes "W") (codes "EI")) [])
    ∷ step (message_key 5 1 0 0) (Arrived (event (codes "W") (codes "EI")) ((event (codes "F") (codes "Q"), value.Bool true) ∷ [])) ∷ []

abbrev taken : List Taken
taken = takings sys 10000 (opening sys (stimuli_of held_copy)) steps

simulated : IsSimulation sys (stimuli_of held_copy) 6 10000 taken
simulated = simulates sys (stimuli_of held_copy) 6 10000 steps (record { waits = refl; first = refl; below = refl; begins = refl; shown = tt }, (record { waits = refl; first = refl; below = refl; begins = refl; shown = tt }, (record { waits = refl; first = refl; below = refl; begins = refl; shown = tt }, refl)))

text : codes "3 R1 > F.S\n3 R1 < F.EO Q=TRUE\n5 R2 > W.EI G=FALSE\n5 R2 < W.EO0\n5 R2 > W.EI G=TRUE\n5 R2 < W.EO1\nend 6\n" ≡ trace_text One sys (lines_of taken) (AtHorizon 6)
unfolding digits
text = refl

pub held-copy-trace : HeldCopyTrace
held-copy-trace = record { takings = taken; simulation = simulated; ending = refl; text = text }
