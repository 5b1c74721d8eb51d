-- The blocks, the counts and its traffic at the beginning.
use Rattle.fb_resource.proofs.lemmas.Common.{◌≡◌, ℕ, All, length, refl, sym, subst, Option, Inputs, AreAccepted, system_of, world_of, BelongsTo, Forest, IsOpened, IsMessage, AreReady, IsHere, IsInOrder, Traffic, IsMetered}
use Rattle.fb_types.proofs.Common.{All-nil, opening_state}
use Rattle.fb_net.specs.Worlds.{IsForest}
use Rattle.fb_laws.proofs.lemmas.typing.Accepted.{accepted_typed}
use Rattle.fb_laws.proofs.lemmas.typing.Simulated.{opening_state-typed}
use Rattle.fb_resource.specs.Takings.{IsEmpty}
use Rattle.fb_resource.proofs.lemmas.Meters.{fresh_counts, metered_fresh}

pub here_opened : (i : Inputs) (r : ℕ) (t : Forest) → AreAccepted i → IsForest i t (world_of (opening_state (system_of i)) r)
    → IsHere i (opening_state (system_of i)) r 0 t fresh_counts
here_opened i r t accepted forest = record {
  blocks = forest;
  meter = λ limit tick late. refl;
  typed = opening_state-typed (system_of i) (accepted_typed i accepted).system (accepted_typed i accepted).begins;
}

pub metered_opened : (limit : ℕ) → IsMetered limit fresh_counts
metered_opened limit = metered_fresh limit fresh_counts refl

-- an agenda in order is ready before anything was given
pub ready_empty : (i : Inputs) (tick : ℕ) (q : Traffic) → IsInOrder i tick q.agenda → length q.agenda.due ≡ length (system_of i).paths
    → length q.sent.items ≡ (system_of i).links → IsEmpty q → AreReady i tick q
ready_empty i tick q order due counted empty = record {
  order = order;
  due = due;
  counted = counted;
  mail = subst (λ ms. All (IsMessage i) ms) (sym empty.mail) (All-nil (IsMessage i));
  lines = subst (λ ls. All (BelongsTo (system_of i)) ls) (sym empty.lines) (All-nil (BelongsTo (system_of i)));
  none = empty.none;
  keeps = empty.keeps;
}

pub ready_opened : (i : Inputs) (of : Option ℕ) (q : Traffic) → IsOpened i of q.agenda → length q.sent.items ≡ (system_of i).links → IsEmpty q → AreReady i 0 q
ready_opened i of q opened counted empty = ready_empty i 0 q opened.order opened.due counted empty
