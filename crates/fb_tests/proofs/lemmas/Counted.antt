-- A machine that has other counts of the messages of its links, as many of them.
use Rattle.fb_types.proofs.Common.{◌≡◌, ℕ, length, ◌∙◌, get_or, get_or_from_slice_get, Global, Inputs, State}
use Rattle.std.proofs.Common.{Vec}
use Rattle.fb_types.specs.States as model
use Rattle.fb_sim_machine.specs.Machines.{IsAt, IsReady}
use Rattle.fb_sim_machine.specs.declared.machine.Machine.{Machine}

-- the machine with these counts
abbrev pub with_counts : Machine → Vec ℕ Global → Machine
with_counts m sent = record m { traffic = record (m.traffic) { sent = sent } }

pub ready_with : (i : Inputs) (limit tick : ℕ) (m : Machine) (sent : Vec ℕ Global) → length sent.items ≡ length m.traffic.sent.items → IsReady i limit tick m → IsReady i limit tick (with_counts m sent)
ready_with i limit tick m sent same r = record {
  trees_counted = r.trees_counted;
  trees = r.trees;
  meters_counted = r.meters_counted;
  meters = r.meters;
  past = r.past;
  traffic = record {
    order = r.traffic.order;
    due = r.traffic.due;
    counted = same ∙ r.traffic.counted;
    mail = r.traffic.mail;
    lines = r.traffic.lines;
    none = r.traffic.none;
    keeps = r.traffic.keeps;
  };
  delivered = r.delivered;
}

pub at_with : (i : Inputs) (s : State) (a : model.Agenda) (m : Machine) (sent : Vec ℕ Global) → IsAt i s a m → IsAt i (record s { sent = λ l. get_or sent.items l 0 }) a (with_counts m sent)
at_with i s a m sent is = record {
  here = λ r t x tree meter.
      let here = is.here r t x tree meter in
      record { blocks = here.blocks; meter = here.meter; typed = here.typed };
  sent = λ l n found. get_or_from_slice_get sent.items l n 0 found;
  agenda = is.agenda;
}
