-- What was accepted is typed, and so are its simulations.
use Rattle.fb_types.proofs.Common.{inl, inr, refl, Inputs, AreAccepted, system_of, stimuli_of, OutOfRange, KindWrong, NameTwice, ends_known, NameUnknown, BadStimulus}
use Rattle.std.proofs.lemmas.Bool.{true_from_ne_false}
use Rattle.fb_laws.specs.Simulations.{AreTypedInputs, AcceptedAreTyped, SimulationsAreTyped}
use Rattle.fb_laws.proofs.lemmas.typing.Sources.{source-fitting, output-first}
use Rattle.fb_laws.proofs.lemmas.typing.Initials.{begins-typed, stimuli-typed}
use Rattle.fb_laws.proofs.lemmas.typing.Simulated.{simulation-typed}

module _ (i : Inputs) (accepted : AreAccepted i) where
  once : NameTwice i.library i.plan → ⊥
  once h = accepted 20 (inl (refl, h))

  known : NameUnknown i.library i.plan → ⊥
  known h = accepted 21 (inr (inl (refl, h)))

  right : KindWrong i.library → ⊥
  right h = accepted 22 (inr (inr (inl (refl, h))))

  within : OutOfRange i.library → ⊥
  within h = accepted 23 (inr (inr (inr (inl (refl, h)))))

  good : BadStimulus i.library i.stimuli → ⊥
  good h = accepted 29 (inr (inr (inr (inr (inr (inr (inr (inr (inr (inl (refl, h)))))))))))

  inputs-typed : AreTypedInputs i
  inputs-typed = record {
    system = record {
      sources = λ q s k x source is h.
          source-fitting i.library i.plan (λ n c. true_from_ne_false (ends_known i.library n) (λ no. known (inr (inr (n, c, no))))) within q s k x source is h;
      outputs = λ p k n x is h. output-first i.library i.plan once p k n x is h;
    };
    begins = begins-typed i.library i.plan known right;
    stimuli = stimuli-typed i.library i.plan i.stimuli good;
  }

-- What was accepted is typed.
pub accepted_typed : AcceptedAreTyped
accepted_typed = inputs-typed

-- Each taking of a simulation of what was accepted is typed.
pub simulations_typed : SimulationsAreTyped
simulations_typed i accepted =
    let typed = accepted_typed i accepted in simulation-typed (system_of i) typed.system typed.begins (stimuli_of i) typed.stimuli
