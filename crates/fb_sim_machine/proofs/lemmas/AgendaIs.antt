-- A run takes what the model takes, and ends.
use Rattle.fb_types.proofs.Common.{◌≡◌, ℕ, zero, suc, ◌<◌, ◌≤◌, List, [], ◌∷◌, ◌++◌, map, refl, sym, ap, subst, ◌∙◌, append-nil, Option, Some, None, arith, option_map, slice_get, slice_set, unwrap_or, All-nil, All-cons, Inputs, system_of, Precedes, without, line_of, Config, Taken, TakesLeast, NothingAfter, AtHorizon, RestsAt, after, ending_by}
use Rattle.fb_types.specs.declared.key.Key.{Key}
use Rattle.fb_types.specs.declared.run.Line.{Line}
use Rattle.fb_types.specs.declared.value.Reason.{Reason}
use Rattle.fb_agenda.specs.Agendas.{Contents, waiting}
use Rattle.fb_types.specs.declared.run.Event.{Event}
use Rattle.fb_net.specs.Events.{event_of}
use Rattle.fb_resource.specs.Counts.{fuel}
use Rattle.fb_resource.specs.Waiting.{meaning}
use Rattle.fb_resource.specs.declared.tick_counts.TickCounts.{TickCounts}
use Rattle.fb_resource.proofs.lemmas.Fuel.{fuel_falls}
use Rattle.fb_resource.proofs.lemmas.Leaving.{Left, meaning_left, ready_left}
use Rattle.fb_sim_machine.specs.Counts.{fuel_of_all}
use Rattle.fb_sim_machine.specs.Machines.{IsAt, IsReady, IsTaken}
use Rattle.fb_sim_machine.specs.Completions.{Completes}
use Rattle.fb_sim_machine.specs.Runs.{IsSpent}
use Rattle.fb_sim_machine.specs.declared.machine.Machine.{Machine}

-- ---- The agenda without its least key

-- the machine from whose agenda the least key was taken
abbrev pub without_least : Machine → Contents → Machine
without_least m a = record m { traffic = record m.traffic { agenda = a } }

pub machine_left : (i : Inputs) (limit t : ℕ) (k : Key) (e : Event) (m : Machine) (a : Contents) → IsReady i limit t m → Left k m.traffic.agenda a
    → waiting m.traffic.agenda k ≡ Some e → ((q : Key) → Precedes q k → waiting m.traffic.agenda q ≡ None) → a.due ≡ m.traffic.agenda.due
    → IsReady i limit k.tick (without_least m a)
machine_left i limit t k e m a ready left found least due = record {
  trees_counted = ready.trees_counted;
  trees = ready.trees;
  meters_counted = ready.meters_counted;
  meters = ready.meters;
  past = λ r x h. let was = ready.past r x h in let later = (ready.traffic.order.waits k e found).later in omega (arith, was, later);
  traffic = ready_left i t k m.traffic a ready.traffic left least due;
  delivered = ready.delivered;
}

pub at_left : (i : Inputs) (k : Key) (d : Config) (m : Machine) (a : Contents) → IsAt i d.state d.agenda m → Left k m.traffic.agenda a
    → IsAt i d.state (without k d.agenda) (without_least m a)
at_left i k d m a is left = record {
  here = is.here;
  sent = is.sent;
  agenda = meaning_left i k m.traffic.agenda a d.agenda is.agenda left;
}

-- ---- One taking more

pub takes_least : (i : Inputs) (limit : ℕ) (c : Config) (k : Key) (e : Event) (stop : Option Reason) (old : Contents) (left new : Machine)
    → ((j : Key) → c.agenda j ≡ meaning i old j) → waiting old k ≡ Some e → ((q : Key) → Precedes q k → waiting old q ≡ None)
    → (t : IsTaken i limit c.state c.agenda k (event_of i e) stop left new)
    → TakesLeast (system_of i) limit c (record { key = k; event = event_of i e; effect = t.effect })
takes_least i limit c k e stop old left new is found least t = record {
  waits = is k ∙ ap (option_map (event_of i)) found;
  least = λ j pre. is j ∙ ap (option_map (event_of i)) (least j pre);
  takes = t.takes;
}

pub completes_stop : (i : Inputs) (horizon limit : ℕ) (c : Config) (t : Taken) (r : Reason) (before mid : List Line)
    → TakesLeast (system_of i) limit c t → t.effect.stop ≡ Some r → t.key.tick < horizon → map (line_of (system_of i)) mid ≡ map (line_of (system_of i)) before ++ t.effect.lines
    → Completes i horizon limit c before mid (Some (record { tick = t.key.tick; resource = t.key.resource; reason = r }))
completes_stop i horizon limit c t r before mid takes stops below lines = record {
  taken = t ∷ [];
  chain = (takes, subst (λ st. NothingAfter st []) (sym stops) refl, tt);
  below = All-cons (λ u. u.key.tick < horizon) t [] below (All-nil (λ u. u.key.tick < horizon));
  rests = subst (λ st. RestsAt horizon (ending_by st t.key (AtHorizon horizon)) (after c t).agenda) (sym stops) tt;
  lines = lines ∙ ap (λ z. map (line_of (system_of i)) before ++ z) (sym (append-nil t.effect.lines));
  ending = sym (ap (λ st. ending_by st t.key (AtHorizon horizon)) stops);
}

pub completes_rest : (i : Inputs) (horizon limit : ℕ) (c : Config) (old : Contents) (lines : List Line) → ((j : Key) → c.agenda j ≡ meaning i old j)
    → ((j : Key) → j.tick < horizon → waiting old j ≡ None) → Completes i horizon limit c lines lines None
completes_rest i horizon limit c old lines is none = record {
  taken = [];
  chain = tt;
  below = All-nil (λ u. u.key.tick < horizon);
  rests = λ j lt. is j ∙ ap (option_map (event_of i)) (none j lt);
  lines = sym (append-nil (map (line_of (system_of i)) lines));
  ending = refl;
}

-- ---- The run ends

sum_falls : (horizon limit : ℕ) (ms : List TickCounts) (r : ℕ) (old new : TickCounts) → slice_get ms r ≡ Some old → fuel horizon limit new < fuel horizon limit old
    → fuel_of_all horizon limit (slice_set ms r new) < fuel_of_all horizon limit ms
sum_falls horizon limit [] r old new was less = absurd cc
sum_falls horizon limit (m ∷ ms) zero old new was less =
    let it : Some m ≡ Some old = was in
    let one : m ≡ old = cc in
    let falls : fuel horizon limit new < fuel horizon limit m = subst (λ z. fuel horizon limit new < fuel horizon limit z) (sym one) less in
    omega (arith, falls)
sum_falls horizon limit (m ∷ ms) (suc r) old new was less =
    let rest = sum_falls horizon limit ms r old new was less in
    omega (arith, rest)

pub all_falls : (horizon limit : ℕ) (k : Key) (old new : List TickCounts) → (spent : IsSpent limit k old new) → unwrap_or spent.before.tick 0 ≤ k.tick → k.tick < horizon
    → fuel_of_all horizon limit new < fuel_of_all horizon limit old
all_falls horizon limit k old new spent later below =
    subst (λ ms. fuel_of_all horizon limit ms < fuel_of_all horizon limit old) (sym spent.now)
    (sum_falls horizon limit old k.resource spent.before spent.after spent.was (fuel_falls horizon limit k.tick spent.before spent.after spent.tick spent.left later below))
