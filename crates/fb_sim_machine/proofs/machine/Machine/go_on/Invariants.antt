use Rattle.fb_types.proofs.Common.{◌≡◌, ℕ, ◌≤◌, [], lines_of, Config}
use Rattle.fb_agenda.specs.Agendas.{Contents}
use Rattle.fb_resource.specs.Takings.{Finds}
use Rattle.fb_sim_machine.specs.Counts.{fuel_of_all}
use Rattle.fb_sim_machine.specs.Machines.{IsAt, IsReady}
use Rattle.fb_sim_machine.specs.Pauses.{HasFewer, IsLater, Pauses}
use Rattle.fb_sim_machine.specs.declared.pause.Pause.TheVariants.{Lines}
use Rattle.fb_sim_machine.proofs.lemmas.Nexts.{on_agenda}
use Rattle.fb_sim_machine.proofs.machine.Machine.go_on.Given as goal

-- `was` is the agenda from which the event in `Least` was taken, if one was found
abbrev pub invariant-events : goal.invariant-events
invariant-events l = record {
  was : Contents;
  finds : Finds l.horizon was l.found l.least.key l.least.event l.self.traffic.agenda;
  due : l.self.traffic.agenda.due ≡ was.due;
  ready : (tick : ℕ) × IsReady l.system l.limit tick (on_agenda was l.self);
  represents : (c : Config) × IsAt l.system c.state c.agenda (on_agenda was l.self);
  comes : (c : Config) → IsAt l.system c.state c.agenda l.fn.self → Pauses l.system l.horizon l.limit c l.fn.self (on_agenda was l.self) Lines;
  quiet : (c : Config) (is : IsAt l.system c.state c.agenda l.fn.self) → l.many ≡ 1 → lines_of (comes c is).1 ≡ [];
  few : (c : Config) (is : IsAt l.system c.state c.agenda l.fn.self) → HasFewer l.many l.fn.self (comes c is).1;
  ahead : (from : ℕ) → from ≤ l.horizon → IsReady l.system l.limit from l.fn.self → (t : ℕ) × (t ≤ l.horizon)
      × ((c : Config) (is : IsAt l.system c.state c.agenda l.fn.self) → IsLater l.system l.limit from t (on_agenda was l.self) (comes c is).1);
  left : fuel_of_all l.horizon l.limit l.self.meters.items ≤ fuel_of_all l.horizon l.limit l.fn.self.meters.items;
}

abbrev pub decreases-events : goal.decreases-events
decreases-events l = fuel_of_all l.horizon l.limit l.self.meters.items
