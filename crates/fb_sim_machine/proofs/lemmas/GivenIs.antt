-- A row that was given waits on the agenda of the machine.
use Rattle.fb_types.proofs.Common.{◌≡◌, ◌≢◌, ℕ, ◌<◌, ◌≤◌, Bool, true, false, cond, [], ◌∷◌, List, length, refl, sym, ap, subst, ◌∙◌, Option, Some, None, inl, inr, All-head, BadStimulus, IsGood, Bound, Inputs, system_of, or_else, same_key, stimulus_key, Port, path_at, stimulus_of, Agenda, State, Stimulated}
use Rattle.fb_types.specs.declared.deploy.Stimulus.{Stimulus}
use Rattle.fb_types.specs.declared.key.Key.{Key}
use Rattle.fb_types.specs.declared.library.Library.{Library}
use Rattle.fb_types.specs.declared.run.Event.TheVariants.{Given}
use Rattle.fb_types.specs.Keys.{with_all}
use Rattle.fb_types.specs.States as model
use Rattle.fb_types.specs.declared.run.Event.{Event}
use Rattle.fb_types.specs.declared.run.GivenRow.{GivenRow}
use Rattle.fb_agenda.specs.Agendas.{Contents, IsPut}
use Rattle.fb_types.proofs.lemmas.lists.Elements.{Contains-cons_cases, Contains-nil}
use Rattle.fb_system.specs.Stimuli.{IsGivenRow, IsRowOf, sets_of}
use Rattle.fb_laws.specs.Simulations.{IsTypedStimulus}
use Rattle.fb_laws.specs.Typed.{IsTypedEvent}
use Rattle.fb_laws.proofs.lemmas.typing.Initials.{stimuli-typed}
use Rattle.fb_net.specs.Events.{event_of}
use Rattle.fb_resource.specs.Waiting.{MayWait}
use Rattle.fb_resource.proofs.lemmas.PostLaws.{meaning_put, order_put, port_path}
use Rattle.fb_sim_machine.specs.Machines.{IsAt, IsReady}
use Rattle.fb_sim_machine.specs.declared.machine.Machine.{Machine}
use Rattle.fb_sim_machine.proofs.lemmas.Nexts.{on_agenda}

no_bad : (lib : Library) (s : Stimulus) → IsGood lib s → BadStimulus lib (s ∷ []) → ⊥
no_bad lib s good bad =
    elim (Contains-cons_cases s [] bad.0 bad.1) [
      | inl same ↦ bad.2 (subst (IsGood lib) same good)
      | inr none ↦ Contains-nil bad.0 none
    ]

-- a row may wait under its key, from a tick on that is no later than its own
pub given_waits : (i : Inputs) (from tick r : ℕ) (g : GivenRow) → IsGivenRow (system_of i) g → IsTypedEvent (system_of i) (event_of i (Given g))
    → r ≡ (system_of i).resource (path_at (system_of i) g.target.instance) → r < length (system_of i).resource_names → from ≤ tick
    → MayWait i from (stimulus_key tick r g.row) (Given g)
given_waits i from tick r g is typed home named later = record {
  event = record { numbered = is; here = ap (system_of i).resource (port_path (system_of i) g.target) ∙ sym home };
  resource = named;
  later = later;
  typed = typed;
  own = refl;
}

-- a row that represents a stimulus that E29 does not apply to carries values of their types
pub given_typed : (i : Inputs) (s : Stimulus) (g : GivenRow) → IsGood i.library s → IsRowOf (system_of i) (stimulus_of s) g → IsTypedEvent (system_of i) (event_of i (Given g))
given_typed i s g good is =
    let sys = system_of i in
    let typed = All-head (IsTypedStimulus sys) (stimulus_of s) [] (stimuli-typed i.library i.plan (s ∷ []) (no_bad i.library s good)) in
    subst (λ (q : Port). IsTypedEvent sys (Stimulated q (sets_of sys g))) (sym is.port)
    (subst (λ (bs : List Bound). IsTypedEvent sys (Stimulated (stimulus_of s).port bs)) (sym is.sets) typed)

-- An event was put on the agenda of the machine, under a key that is no timer's.
module _ (i : Inputs) (m : Machine) (a : Contents) (k : Key) (e : Event) (put : IsPut m.traffic.agenda a k e) (due : a.due ≡ m.traffic.agenda.due) where
  pub ready_put : (limit from : ℕ) → k.class ≢ 1 → MayWait i from k e → IsReady i limit from m → IsReady i limit from (on_agenda a m)
  ready_put limit from class may ready =
      let traffic = ready.traffic in
      record {
        trees_counted = ready.trees_counted;
        trees = ready.trees;
        meters_counted = ready.meters_counted;
        meters = ready.meters;
        past = ready.past;
        traffic = record {
          order = order_put i from m.traffic.agenda a k e put class may due traffic.order;
          due = ap length due ∙ traffic.due;
          counted = traffic.counted;
          mail = traffic.mail;
          lines = traffic.lines;
          none = traffic.none;
          keeps = traffic.keeps;
        };
        delivered = ready.delivered;
      }

  pub at_put : (s : State) (g : Agenda) → IsAt i s g m → IsAt i s (with_all ((k, event_of i e) ∷ []) g) (on_agenda a m)
  at_put s g at = record {
    here = at.here;
    sent = at.sent;
    agenda = λ j. one (same_key k j) (g j) ∙ ap (cond (same_key k j) (Some (event_of i e))) (at.agenda j) ∙ sym (meaning_put i m.traffic.agenda a k e put j);
  }
    where
      one : (b : Bool) (o : Option model.Event) → or_else (or_else None (cond b (Some (event_of i e)) None)) o ≡ cond b (Some (event_of i e)) o
      one true o = refl
      one false o = refl
