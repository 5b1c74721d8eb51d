-- The opening of a system.
use Rattle.fb_laws.proofs.lemmas.Common.{◌≡◌, ℕ, ◌+◌, ◌<◌, ◌≤◌, refl, sym, ◌∙◌, ⊎_elim, List, [], ◌∷◌, true, false, Option, Some, None, arith, ◌==◌, flat_map, Path, found, Kind, Basic, Composite, System, opening, stimuli_from, Each, machine, count_of, IsAtResource, Key, Restart, Event, Stimulus, IsSound, IsOpening, IsCounted}
use Rattle.fb_types.proofs.Common.{Event as EventBlock, opening_events, restart_of}
use Rattle.fb_types.proofs.lemmas.lists.Lookups.{none_some, none_since, or_else_some}
use Rattle.fb_types.proofs.lemmas.lists.EachLaws.{each_append}
use Rattle.fb_laws.proofs.lemmas.takings.Posting.{each_found}
use Rattle.fb_laws.proofs.lemmas.takings.Effects.{AllFit}
use Rattle.fb_laws.proofs.lemmas.machine.Bridge.{world_of}

module _ (sys : System) (sound : IsSound sys) (limit : ℕ) where
  -- an event of the opening is of its key's resource, and no arrival
  pub record IsOpeningEvent (j : Key) (v : Event) : Type 0 where
    pub class : (j.class == 2) ≡ false
    pub low : j.class ≤ 1
    pub fits : IsAtResource sys j v
    pub counted : j.resource < count_of sys

  abbrev Good : Key × Event → Type 0
  Good e = IsOpeningEvent e.0 e.1

  stimuli_good : (row : ℕ) (ss : List Stimulus) → Each Good (stimuli_from sys row ss)
  stimuli_good row [] = tt
  stimuli_good row (s ∷ ss) = (record { class = refl; low = omega arith; fits = refl; counted = sound.counted s.port.at }, stimuli_good (row + 1) ss)

  restart_good : (p : Path) → Each Good (restart_of sys p)
  restart_good p = go (sys.kind p) refl
    where
      go : (o : Option Kind) → sys.kind p ≡ o → Each Good (restart_of sys p)
      go None e = rw (restart_of, e) tt
      go (Some (Basic t)) e = rw (restart_of, e) tt
      go (Some (Composite t)) e = rw (restart_of, e) tt
      go (Some (EventBlock Restart)) e = rw (restart_of, e) (record { class = refl; low = omega arith; fits = refl; counted = sound.counted p }, tt)
      go (Some (EventBlock _)) e = rw (restart_of, e) tt

  restarts_good : (ps : List Path) → Each Good (flat_map (restart_of sys) ps)
  restarts_good [] = tt
  restarts_good (p ∷ ps) = each_append Good (restart_of sys p) (flat_map (restart_of sys) ps) (restart_good p) (restarts_good ps)

  module _ (stimuli : List Stimulus) where
    events_good : Each Good (opening_events sys stimuli)
    events_good = each_append Good (stimuli_from sys 0 stimuli) (flat_map (restart_of sys) sys.paths) (stimuli_good 0 stimuli) (restarts_good sys.paths)

    pub event_good : (j : Key) (v : Event) → (opening sys stimuli).agenda j ≡ Some v → IsOpeningEvent j v
    event_good j v e =
        ⊎_elim (λ h. each_found IsOpeningEvent (opening_events sys stimuli) events_good j v h) (λ h. absurd (none_some None v refl h))
        (or_else_some (found j (opening_events sys stimuli)) None v e)

    pub opening_fits : (k : Key) → AllFit sys sound k (opening sys stimuli).agenda
    opening_fits k j v e = (event_good j v e).fits

    pub is_opening : IsOpening (machine sys limit) (world_of sys sound limit (opening sys stimuli) (λ r. None))
    is_opening = record {
      live = λ r. refl;
      quiet = λ k c. none_since _ (λ v e. let f : (k.class == 2) ≡ false = (event_good k v e).class in let g : true ≡ false = sym c ∙ f in cc);
    }

    pub is_counted : IsCounted (machine sys limit) (count_of sys) (world_of sys sound limit (opening sys stimuli) (λ r. None))
    is_counted = record {
      agenda = λ k b. none_since _ (λ v e. let c = (event_good k v e).counted in omega arith);
      links = λ k sent a. let e : k.resource ≡ sys.receiver k.a = a.resource in let b = sound.receivers k.a a.link in omega arith;
    }
