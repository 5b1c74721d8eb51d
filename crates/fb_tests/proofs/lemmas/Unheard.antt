-- No message waits at a resource as it is before the first event.
use Rattle.fb_types.proofs.Common.{◌≡◌, ℕ, Bool, true, false, cond, refl, sym, ◌∙◌, Option, Some, None, ◌==◌, option_map, slice_index_or, List, eq-eqb, Inputs, stimuli_of, system_of, or_else, opening}
use Rattle.fb_types.specs.declared.key.Key.{Key}
use Rattle.fb_types.specs.declared.run.Message.{Message}
use Rattle.fb_types.specs.Parts.{local_of}
use Rattle.fb_types.specs.Simulation.{opening_agenda}
use Rattle.fb_agenda.specs.Agendas.{Contents, waiting}
use Rattle.fb_agenda.specs.Arrivals.{AreNew, arrival_at}
use Rattle.fb_laws.specs.Sound.{IsSound}
use Rattle.fb_resource.specs.Resources.{Represents}
use Rattle.fb_resource.specs.declared.resource.Resource.{Resource}
use Rattle.fb_laws.proofs.lemmas.machine.Opening.{is_opening}

parted : {A : Type 0} (b : Bool) (o : Option A) → or_else (cond b None o) (cond b o None) ≡ o
parted true o = refl
parted false None = refl
parted false (Some x) = refl

unmapped : {A B : Type 0} (f : A → B) (o : Option A) → option_map f o ≡ None → o ≡ None
unmapped f None e = refl
unmapped f (Some x) e = absurd cc

pub unheard : (i : Inputs) (n : ℕ) (x : Resource) → IsSound (system_of i)
    → ((limit : ℕ) → Represents i limit (local_of (system_of i) limit n (opening (system_of i) (stimuli_of i)) None) x)
    → (j : Key) → j.class ≡ 2 → j.resource ≡ x.tree.resource → waiting x.agenda j ≡ None
unheard i n x sound represents j two here =
    let arrival : (j.class == 2) ≡ true = eq-eqb j.class 2 two in
    unmapped _ (waiting x.agenda j)
    (sym ((represents 0).waits j here) ∙ parted (j.class == 2) (opening_agenda (system_of i) (stimuli_of i) j) ∙ (is_opening (system_of i) sound 0 (stimuli_of i)).quiet j arrival)

-- so all messages are new to it
pub are_new : (r : ℕ) (ms : List Message) (c : Contents) → ((j : Key) → j.class ≡ 2 → j.resource ≡ r → waiting c j ≡ None) → AreNew r ms c
are_new r ms c none = λ k m l. none (arrival_at r (slice_index_or ms k m)).0 refl refl
