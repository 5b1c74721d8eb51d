-- The derivation of the chart that moves one state further at each event.
use Rattle.fb_types.proofs.Common.{◌≡◌, ℕ, ◌-◌, refl, List, [], ◌∷◌, Option, None, codes, digits, system_of, stimuli_of, stimulus_key, opening, IsSimulation, Taken, lines_of, AtHorizon, Stimulated, System, Name, Port, trace_text, One, Position, Reason}
use Rattle.fb_types.specs.Examples.{stepper, StepperTrace}
use Rattle.fb_types.proofs.lemmas.examples.Derivations.{Step, takings, simulates}

abbrev sys : System
sys = system_of stepper

abbrev event : Name → Name → Port
event i e = record { at = i ∷ []; name = e }

-- a transition and an action, and, if the target has a transition, one that is tried in vain
abbrev to_state : (cost : ℕ) → Name → Name → Position → Option Reason × Position
to_state cost s e p = (None, record { state = s; vars = p.vars; left = p.left - cost; emitted = record { event = e; values = [] } ∷ [] })

abbrev steps : List Step
steps =
    record { key = stimulus_key 0 0 0; event = Stimulated (event (codes "X") (codes "GO")) []; chart = to_state 3 (codes "B") (codes "E1") }
    ∷ record { key = stimulus_key 1 0 1; event = Stimulated (event (codes "X") (codes "GO")) []; chart = to_state 2 (codes "C") (codes "E2") }
    ∷ []

abbrev taken : List Taken
taken = takings sys 10000 (opening sys (stimuli_of stepper)) steps

simulated : IsSimulation sys (stimuli_of stepper) 2 10000 taken
simulated = simulates sys (stimuli_of stepper) 2 10000 steps (record { waits = refl; first = refl; below = refl; begins = refl; shown = (1, (None, _, (refl, refl), (refl, refl))) }, (record { waits = refl; first = refl; below = refl; begins = refl; shown = (1, (None, _, (refl, refl), (refl, refl))) }, refl))

text : codes "0 MAIN > X.GO\n0 MAIN < X.E1\n1 MAIN > X.GO\n1 MAIN < X.E2\nend 2\n" ≡ trace_text One sys (lines_of taken) (AtHorizon 2)
unfolding digits
text = refl

pub stepper-trace : StepperTrace
stepper-trace = record { takings = taken; simulation = simulated; ending = refl; text = text }
