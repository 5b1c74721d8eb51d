-- What acceptance guarantees of names and stimuli.
use Rattle.fb_types.proofs.Common.{◌≡◌, List, refl, sym, subst, inl, inr, AreAccepted, Inputs, inputs, NameUnknown}
use Rattle.fb_types.specs.declared.deploy.Plan.{Plan}
use Rattle.fb_types.specs.declared.deploy.Stimulus.{Stimulus}
use Rattle.fb_types.specs.declared.library.Library.{Library}

pub known_of : (i : Inputs) → AreAccepted i → ¬ (NameUnknown i.library i.plan)
known_of i h t = h 21 (inr (inl (refl, t)))

pub accepted_is :
    (lib : Library) (p q : Plan) (xs ys : List Stimulus) → p ≡ q → xs ≡ ys → AreAccepted (inputs lib p xs) → AreAccepted (inputs lib q ys)
accepted_is lib p q xs ys plan stimuli h = subst (λ (i : Inputs). AreAccepted i) (λ j. inputs lib (plan j) (stimuli j)) h

pub accepted_of : (a b : Inputs) → a ≡ b → AreAccepted b → AreAccepted a
accepted_of a b e h = subst (λ (i : Inputs). AreAccepted i) (sym e) h
