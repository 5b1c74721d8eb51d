-- The law of schedules, for every schedule of accepted inputs.
use Rattle.fb_laws.proofs.lemmas.Common.{ℕ, ◌+◌, sym, ◌∙◌, subst, ⊎_elim, List, [], None, if◌then◌else◌, nat_lt, System, opening, Machine, Item, machine, items_of, count_of, IsMerge, lines_before, Core, CoreStep, IsSchedule, core_after, taken_after, Line, Stimulus, lines_of, IsSound, IsLawful, World, IsOpening, IsCounted, reach}
use Rattle.fb_types.proofs.Common.{opening_core}
use Rattle.fb_laws.proofs.lemmas.schedules.Lines.{merge_same, sim_merge}
use Rattle.fb_laws.proofs.lemmas.resources.OwnPart.{lawful}
use Rattle.fb_laws.proofs.lemmas.machine.Bridge.{world_of}
use Rattle.fb_laws.proofs.lemmas.machine.Opening.{is_opening, is_counted}
use Rattle.fb_laws.proofs.lemmas.machine.BackToSystem.{simulation_back}
use Rattle.fb_laws.proofs.lemmas.resources.OneResource.{is_simulation, is_covered, left_is, same_trans, lines_items, named, ends_as}
use Rattle.fb_types.proofs.lemmas.lists.Lookups.{none_some}
use Rattle.fb_laws.proofs.lemmas.resources.FamilyEnds.{stop_stops}
use Rattle.fb_laws.specs.ScheduleLaw.{HasStates, HasMessages, HasEnd, lines_to, HasStop, HasFinalLines}
use Rattle.fb_laws.specs.Phases.{HasPhases}
use Rattle.fb_laws.proofs.lemmas.schedules.Reached.{at_history, inv_after}
use Rattle.fb_laws.proofs.lemmas.schedules.Mail.{messages}
use Rattle.fb_laws.proofs.lemmas.schedules.Complete.{ends_alike, stops_alike}
use Rattle.fb_laws.proofs.lemmas.schedules.Merged.{lines_at_end, lines_at_stop}
use Rattle.fb_laws.proofs.lemmas.schedules.Final.{final_lines}
use Rattle.fb_laws.proofs.lemmas.existence.CompleteSchedules.{exists_end, exists_stop}
use Rattle.fb_laws.proofs.lemmas.schedules.Beginning.{begins}
use Rattle.fb_laws.proofs.lemmas.schedules.Orders.{order_free}

module _ (sys : System) (sound : IsSound sys) (stimuli : List Stimulus) (horizon limit : ℕ) (es : List (CoreStep (machine sys limit)))
    (sc : IsSchedule (machine sys limit) horizon (opening_core sys stimuli limit) es) where
  abbrev M : Machine
  M = machine sys limit

  abbrev w : World (machine sys limit)
  w = world_of sys sound limit (opening sys stimuli) (λ r. None)

  abbrev c : Core (machine sys limit)
  c = core_after (machine sys limit) (opening_core sys stimuli limit) es

  abbrev runs : ℕ → List (Item (machine sys limit))
  runs = taken_after (machine sys limit) (λ r. []) es

  law : IsLawful (machine sys limit)
  law = lawful sys sound limit

  opens : IsOpening M w
  opens = is_opening sys sound limit stimuli

  counts : IsCounted M (count_of sys) w
  counts = is_counted sys sound limit stimuli

  pub states_law : HasStates sys stimuli horizon limit c runs
  states_law ts x r live t =
      let a = at_history M law w horizon (items_of sys limit ts) es opens (is_simulation sys sound stimuli horizon limit ts x) sc r live (is_covered sys sound stimuli horizon limit ts x r (c r).clock t) in
      record {
        state = same_trans M r _ _ _ a.1 (left_is sys sound stimuli horizon limit ts x r (c r).clock);
        takings = a.0;
        lines = a.2;
      }

  pub messages_law : HasMessages sys stimuli horizon limit c runs
  messages_law k = messages M law w horizon es opens sc k

  pub end_law : HasEnd sys stimuli horizon limit c runs
  end_law e = record {
    there = let y = exists_end M law (count_of sys) w horizon es opens counts sc e in simulation_back sys sound limit stimuli horizon y.0 y.1;
    ending = λ ts x.
        let live = (ends_alike M law (count_of sys) w horizon (items_of sys limit ts) es opens counts (is_simulation sys sound stimuli horizon limit ts x) sc e).live in
        ⊎_elim (λ y. y.0) (λ y. absurd (none_some _ _ (live y.0.item.key.resource) (stop_stops M (items_of sys limit ts) w y.0))) (ends_as sys sound stimuli horizon limit ts x);
    lines = λ ts x.
        subst (λ (ls : List Line). IsMerge M (count_of sys) (λ r. (c r).lines) ls) (lines_items sys sound stimuli horizon limit ts x ts)
        (lines_at_end M law (count_of sys) w horizon (items_of sys limit ts) es opens counts (is_simulation sys sound stimuli horizon limit ts x) sc e);
  }

  pub stop_law : HasStop sys stimuli horizon limit c runs
  stop_law s reason e = record {
    there = let y = exists_stop M law (count_of sys) w horizon es opens counts sc s reason e in simulation_back sys sound limit stimuli horizon y.0 y.1;
    ending = λ ts x.
        let y = stops_alike M law (count_of sys) w horizon (items_of sys limit ts) es opens counts (is_simulation sys sound stimuli horizon limit ts x) sc s reason e in
        named sys sound stimuli horizon limit ts x y.at_stop (c s).clock s reason y.tick_is y.resource_is y.reason_is;
    lines = λ ts x.
        let z = is_simulation sys sound stimuli horizon limit ts x in
        let y = stops_alike M law (count_of sys) w horizon (items_of sys limit ts) es opens counts z sc s reason e in
        let k = y.at_stop.item.key in
        subst (λ (ls : List Line). IsMerge M (count_of sys) (lines_to sys limit (c s).clock s c) ls) (lines_items sys sound stimuli horizon limit ts x ts)
        (merge_same M (count_of sys) (λ r. lines_before M (reach M k r) (c r).lines) (lines_to sys limit (c s).clock s c) (lines_of M (items_of sys limit ts))
        (λ q b i. lines_before M (if nat_lt (y.resource_is i) q then y.tick_is i else y.tick_is i + 1) (c q).lines)
        (lines_at_stop M law (count_of sys) w horizon (items_of sys limit ts) es opens counts z sc s reason e k y.tick_is y.resource_is));
  }

  pub final_law : HasFinalLines sys stimuli horizon limit c runs
  final_law ts x m t r fl b u f =
      let z = is_simulation sys sound stimuli horizon limit ts x in
      let all = sim_merge M law (count_of sys) (items_of sys limit ts) w counts z.chain in
      let y = begins M t r (count_of sys) c (lines_of M (items_of sys limit ts)) m horizon all.order all.counted u f
      (λ v q d g h. final_lines M law (count_of sys) w horizon (items_of sys limit ts) es opens counts z sc m fl v q d g h) in
      record {
        front = y.front;
        rest = y.rest;
        split = sym (lines_items sys sound stimuli horizon limit ts x ts) ∙ y.split;
        merged = y.merged;
        past = y.past;
      }

  pub phases_law : HasPhases sys stimuli horizon limit c runs
  phases_law loans fs may phase = order_free M horizon law w c runs (inv_after M law w horizon es opens sc) loans fs may phase
