-- One event was taken.
use Rattle.fb_types.proofs.Common.{◌≡◌, ℕ, [], ◌∷◌, ◌++◌, map, refl, sym, ap, ◌∙◌, append-nil, Option, Some, None, Inputs, system_of, Precedes, line_of, NothingAfter, Config}
use Rattle.fb_types.specs.declared.key.Key.{Key}
use Rattle.fb_types.specs.declared.value.Reason.{Reason}
use Rattle.fb_agenda.specs.Agendas.{Contents, waiting}
use Rattle.fb_types.specs.declared.run.Event.{Event}
use Rattle.fb_net.specs.Events.{event_of}
use Rattle.fb_sim_machine.specs.Machines.{IsAt, IsTaken}
use Rattle.fb_sim_machine.specs.Pauses.{HasGone}
use Rattle.fb_sim_machine.specs.declared.machine.Machine.{Machine}
use Rattle.fb_sim_machine.proofs.lemmas.AgendaIs.{takes_least, without_least}

alone : (s : Option Reason) → NothingAfter s []
alone None = tt
alone (Some r) = refl

pub one_gone : (i : Inputs) (limit : ℕ) (c : Config) (k : Key) (e : Event) (m new : Machine) (a : Contents) (stop : Option Reason) → IsAt i c.state c.agenda m
    → waiting m.traffic.agenda k ≡ Some e → ((q : Key) → Precedes q k → waiting m.traffic.agenda q ≡ None)
    → (t : IsTaken i limit c.state c.agenda k (event_of i e) stop (without_least m a) new)
    → HasGone i limit c m new (record { key = k; event = event_of i e; effect = t.effect } ∷ [])
one_gone i limit c k e m new a stop is found least t = record {
  chain = (takes_least i limit c k e stop m.traffic.agenda (without_least m a) new is.agenda found least t, alone t.effect.stop, tt);
  at = t.at;
  lines = t.lines ∙ ap (λ z. map (line_of (system_of i)) m.traffic.outbox.lines.items ++ z) (sym (append-nil t.effect.lines));
}
