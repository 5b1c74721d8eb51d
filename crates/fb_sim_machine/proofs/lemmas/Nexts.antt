-- The local event that a taking put out alone, which is in `Least` and on no agenda.
use Rattle.fb_types.proofs.Common.{◌≡◌, ℕ, Bool, true, [], map, sym, ap, subst, ◌∙◌, Vec, OnTrue, option_map, Inputs, found, or_else, Agenda, State}
use Rattle.fb_types.specs.declared.key.Key.{Key}
use Rattle.fb_types.specs.declared.run.Message.{Message}
use Rattle.fb_agenda.specs.Agendas.{Contents, waiting}
use Rattle.fb_net.specs.Events.{event_of}
use Rattle.fb_resource.specs.Posts.{arriving}
use Rattle.fb_resource.specs.Waiting.{meaning}
use Rattle.fb_resource.specs.declared.traffic.Traffic.{Traffic}
use Rattle.fb_resource.proofs.lemmas.Lone.{ready_alike}
use Rattle.fb_sim_machine.specs.Machines.{IsAt, IsReady}
use Rattle.fb_sim_machine.specs.declared.machine.Machine.{Machine}

-- where it was raised, there is no message
pub no_mail : (raised : Bool) (a b : Contents) (new old : Vec Message) → raised ≡ true → OnTrue raised ((a ≡ b) × (new ≡ old)) → old.items ≡ [] → new.items ≡ []
no_mail raised a b new old is kept none =
    let both : (a ≡ b) × (new ≡ old) = subst (λ (r : Bool). OnTrue r ((a ≡ b) × (new ≡ old))) is kept in
    ap (λ (v : Vec Message). v.items) both.1 ∙ none

pub nothing_delivered : (i : Inputs) (q : Traffic) → q.mail.items ≡ [] → (j : Key) → meaning i q.agenda j ≡ or_else (found j (map (arriving i) q.mail.items)) (meaning i q.agenda j)
nothing_delivered i q none j = ap (λ ms. or_else (found j (map (arriving i) ms)) (meaning i q.agenda j)) (sym none)

-- the machine with another agenda
abbrev pub on_agenda : Contents → Machine → Machine
on_agenda a m = record m { traffic = record m.traffic { agenda = a } }

-- on which the same waits
module _ (i : Inputs) (m : Machine) (a b : Contents) (same : (j : Key) → waiting b j ≡ waiting a j) where
  pub at_alike : (s : State) (g : Agenda) → IsAt i s g (on_agenda a m) → IsAt i s g (on_agenda b m)
  at_alike s g at = record { here = at.here; sent = at.sent; agenda = λ j. at.agenda j ∙ ap (option_map (event_of i)) (sym (same j)) }

  pub machine_alike : (limit tick : ℕ) → b.due ≡ a.due → IsReady i limit tick (on_agenda a m) → IsReady i limit tick (on_agenda b m)
  machine_alike limit tick due ready = record {
    trees_counted = ready.trees_counted;
    trees = ready.trees;
    meters_counted = ready.meters_counted;
    meters = ready.meters;
    past = ready.past;
    traffic = ready_alike i tick (record m.traffic { agenda = a }) b same due ready.traffic;
    delivered = ready.delivered;
  }
