-- The derivation of the composite around a type that doubles a number.
use Rattle.fb_types.proofs.Common.{◌≡◌, ◌-◌, refl, List, [], ◌∷◌, Option, None, pos, codes, digits, types_of, with_value, Went, Position, system_of, stimuli_of, local_key, stimulus_key, opening, IsSimulation, Taken, lines_of, AtHorizon, Raised, Stimulated, System, trace_text, One, Reason}
use Rattle.fb_types.specs.ExampleBodies.{doubling, doubler_type, twice, TwiceTrace}
use Rattle.fb_types.specs.declared.value.Value.TheVariants as value
use Rattle.fb_types.proofs.lemmas.examples.Derivations.{Step, step, takings, simulates}
use Rattle.fb_types.proofs.lemmas.examples.ReadBodies.{as_read, says_doubling}

abbrev sys : System
sys = system_of twice

-- The algorithm has run, DONE is emitted, and the chart is back in IDLE: five steps.
abbrev doubled : Position → Option Reason × Position
doubled p = (
  None,
  record {
    state = codes "IDLE";
    vars = with_value (codes "Y") (value.Whole (pos 42)) p.vars;
    left = p.left - 5;
    emitted = record { event = codes "DONE"; values = record { variable = codes "Y"; value = value.Whole (pos 42) } ∷ [] } ∷ [];
  },
)

abbrev steps : List Step
steps =
    step (stimulus_key 0 0 0)
    (Stimulated (record { at = codes "T" ∷ []; name = codes "EI" }) (record { variable = codes "N"; value = value.Whole (pos 21) } ∷ []))
    ∷ record { key = local_key 0 0 0; event = Raised (record { at = codes "A" ∷ codes "T" ∷ []; name = codes "GO" }); chart = doubled }
    ∷ step (local_key 0 0 1) (Raised (record { at = codes "T" ∷ []; name = codes "EO" })) ∷ []

abbrev taken : List Taken
taken = takings sys 10000 (opening sys (stimuli_of twice)) steps

simulated : IsSimulation sys (stimuli_of twice) 1 10000 taken
simulated =
    simulates sys (stimuli_of twice) 1 10000 steps (
      record { waits = refl; first = refl; below = refl; begins = refl; shown = tt },
      (
        record {
          waits = refl;
          first = refl;
          below = refl;
          begins = refl;
          shown = (
            2,
            (
              None,
              _,
              (
                Went,
                _,
                as_read (types_of doubler_type) doubling _ says_doubling _ Went _ (Went, (Went, _, (refl, refl), (refl, refl)), refl),
                (refl, refl),
              ),
              (None, _, (refl, refl), (refl, refl)),
            ),
          );
        },
        (record { waits = refl; first = refl; below = refl; begins = refl; shown = tt }, refl),
      ),
    )

text : codes "0 MAIN > T.EI N=21\n0 MAIN > T.A.GO X=21\n0 MAIN < T.A.DONE Y=42\n0 MAIN < T.EO M=42\nend 1\n"
    ≡ trace_text One sys (lines_of taken) (AtHorizon 1)
unfolding digits
text = refl

pub twice-trace : TwiceTrace
twice-trace = record { takings = taken; simulation = simulated; ending = refl; text = text }
