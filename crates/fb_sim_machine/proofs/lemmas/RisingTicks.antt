-- Ticks at which events may be taken, from one event to the next.
use Rattle.fb_types.proofs.Common.{◌≡◌, ℕ, ◌≤◌, List, [], ◌∷◌, ◌++◌, Some, arith, All-nil, All-push, Inputs, Taken}
use Rattle.fb_types.specs.declared.run.Event.{Event}
use Rattle.fb_agenda.specs.Agendas.{waiting}
use Rattle.fb_sim_machine.specs.Machines.{IsReady}
use Rattle.fb_sim_machine.specs.Pauses.{IsLater}
use Rattle.fb_sim_machine.specs.declared.machine.Machine.{Machine}

module _ (i : Inputs) (limit from : ℕ) where
  pub later_none : (m : Machine) → IsReady i limit from m → IsLater i limit from from m []
  later_none m ready = record { later = omega arith; ready = ready; before = All-nil (λ (u : Taken). u.key.tick ≤ from) }

  -- one event more, which was on the agenda
  pub later_more : (t : ℕ) (m new : Machine) (ts : List Taken) (x : Taken) (e : Event) → IsLater i limit from t m ts → waiting m.traffic.agenda x.key ≡ Some e
      → IsReady i limit x.key.tick new → IsLater i limit from x.key.tick new (ts ++ x ∷ [])
  later_more t m new ts x e was found ready =
      let low = was.later in
      let later = (was.ready.traffic.order.waits x.key e found).later in
      record {
        later = omega (arith, low, later);
        ready = ready;
        before = All-push (λ (u : Taken). u.key.tick ≤ x.key.tick) ts x (λ j d less. let b = was.before j d less in omega (arith, b, later)) (omega arith);
      }
