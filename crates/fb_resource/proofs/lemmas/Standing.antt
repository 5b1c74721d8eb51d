-- What represents a resource takes the events that the resource takes.
use Rattle.fb_resource.proofs.lemmas.Common.{◌≡◌, ⊎_elim, ℕ, Bool, true, false, cond, Option, Some, None, refl, sym, ap, subst, ◌∙◌, option_map, Inputs, system_of, same_key, changed_to, Local, machine, State, Key, Reason, Contents, waiting, Event, event_of, IsHere, IsTakenHere, Traffic, meaning}
use Rattle.fb_types.proofs.Common.{Precedes, without, Item, TakesAlone, part_of, IsAtResource, Effect, Takes}
use Rattle.fb_types.specs.Machines.{after}
use Rattle.fb_types.specs.Machines as machines
use Rattle.fb_types.specs.Parts.{outcome_of}
use Rattle.fb_types.specs.States.{Event as AnEvent}
use Rattle.fb_types.proofs.lemmas.lists.Lookups.{edit_some}
use Rattle.fb_laws.specs.Sound.{IsSound}
use Rattle.fb_resource.specs.Runs.{Running, RepresentsRunning}
use Rattle.fb_resource.proofs.lemmas.Leaving.{Left, still}
use Rattle.fb_laws.proofs.lemmas.takings.Effects.{takes_good}
use Rattle.fb_laws.proofs.lemmas.resources.Takings.{ChangesOwn, IsParted, parted_after, waiting_after}

-- The event of a key, before which none waits, left the agenda.
pub record HasLeft (k : Key) (e : Event) (old new : Contents) : Type 0 where
  pub found : waiting old k ≡ Some e
  pub least : (j : Key) → Precedes j k → waiting old j ≡ None
  pub left : Left k old new

-- a taking, as one of what represents the resource
abbrev pub item_at : (i : Inputs) (limit : ℕ) → Key → AnEvent → Effect → Item (machine (system_of i) limit)
item_at i limit k e x = record { key = k; event = e; out = outcome_of (system_of i) k x }

pub takes_alone : (i : Inputs) (limit r : ℕ) (l : Local (machine (system_of i) limit)) (x : Running) (s : RepresentsRunning i limit l x) (k : Key) (e : Event) (left : Contents) (effect : Effect)
    → x.tree.resource ≡ r → k.resource ≡ r → x.stopped ≡ None → IsAtResource (system_of i) k (event_of i e)
    → HasLeft k e x.traffic.agenda left → Takes (system_of i) limit s.state k (event_of i e) effect
    → TakesAlone (machine (system_of i) limit) r l (item_at i limit k (event_of i e) effect)
takes_alone i limit r l x s k e left effect here mine live fits gone takes = record {
  mine = mine;
  live = s.stop ∙ live;
  waits = s.waits k (mine ∙ sym here) ∙ ap (option_map (event_of i)) gone.found;
  least = λ j same pre. s.waits j (same ∙ sym here) ∙ ap (option_map (event_of i)) (gone.least j pre);
  fits = fits;
  gives = record {
    state = s.state;
    effect = effect;
    is_part = ap (λ q. part_of (system_of i) q s.state) (mine ∙ sym here) ∙ sym s.part;
    takes = takes;
    gives = refl;
  };
}

-- it changes nothing of arrivals
changes_own : (i : Inputs) (limit : ℕ) (s : State) (k : Key) (e : AnEvent) (effect : Effect) → IsSound (system_of i) → IsAtResource (system_of i) k e
    → Takes (system_of i) limit s k e effect → ChangesOwn (machine (system_of i) limit) (item_at i limit k e effect)
changes_own i limit s k e effect sound fits takes j v h = ((takes_good (system_of i) sound k limit s e fits effect takes).changes j v h).class

pub stands_after : (i : Inputs) (limit : ℕ) (l : Local (machine (system_of i) limit)) (old new : Running) (s : RepresentsRunning i limit l old) (k : Key) (e : Event) (mid : Traffic) (stop : Option Reason)
    → IsSound (system_of i) → new.tree.resource ≡ old.tree.resource → k.resource ≡ old.tree.resource → new.stopped ≡ stop → IsAtResource (system_of i) k (event_of i e)
    → HasLeft k e old.traffic.agenda mid.agenda
    → (t : IsTakenHere i limit s.state k (event_of i e) stop new.clock new.tree new.meter mid new.traffic)
    → RepresentsRunning i limit (after (machine (system_of i) limit) l (item_at i limit k (event_of i e) t.effect)) new
stands_after i limit l old new s k e mid stop sound same mine stopped fits gone t =
    let M = machine (system_of i) limit in
    let item = item_at i limit k (event_of i e) t.effect in
    let own = changes_own i limit s.state k (event_of i e) t.effect sound fits t.takes in
    let parted : IsParted M l = record { own = s.own; inbox = s.inbox } in
    let later = parted_after M l item parted own in
    let now : k.resource ≡ new.tree.resource = mine ∙ sym same in
    record {
      state = t.effect.state;
      part = ap (λ r. part_of (system_of i) r t.effect.state) now;
      here = subst (λ r. IsHere i t.effect.state r new.clock new.tree new.meter) now t.here;
      counts = t.counts;
      own = later.own;
      inbox = later.inbox;
      waits = λ j here. waiting_after M l item parted own j ∙ ap (changed_to (t.effect.changes j)) (rest j (here ∙ same)) ∙ sym (t.agenda j);
      stop = t.stops ∙ sym stopped;
    }
  where
    rest : (j : Key) → j.resource ≡ old.tree.resource → without k (machines.waiting (machine (system_of i) limit) l) j ≡ meaning i mid.agenda j
    rest j here = go (same_key k j) (gone.left j)
      where
        go : (b : Bool) → waiting mid.agenda j ≡ cond b None (waiting old.traffic.agenda j) → cond b None (machines.waiting (machine (system_of i) limit) l j) ≡ meaning i mid.agenda j
        go true h = sym (ap (option_map (event_of i)) h)
        go false h = s.waits j here ∙ sym (ap (option_map (event_of i)) h)

meant : (i : Inputs) (o : Option Event) (v : AnEvent) → option_map (event_of i) o ≡ Some v → (f : Event) × (o ≡ Some f)
meant i None v h = absurd cc
meant i (Some f) v h = (f, refl)

-- what waits after a taking is of the resource
pub home_after : (i : Inputs) (limit r : ℕ) (s : State) (k : Key) (e : Event) (effect : Effect) (old mid new : Contents)
    → IsSound (system_of i) → k.resource ≡ r → IsAtResource (system_of i) k (event_of i e) → Takes (system_of i) limit s k (event_of i e) effect
    → HasLeft k e old mid → ((j : Key) → meaning i new j ≡ changed_to (effect.changes j) (meaning i mid j))
    → ((j : Key) (f : Event) → waiting old j ≡ Some f → j.resource ≡ r)
    → (j : Key) (f : Event) → waiting new j ≡ Some f → j.resource ≡ r
home_after i limit r s k e effect old mid new sound mine fits takes gone agenda home j f h =
    ⊎_elim
    (λ c. ((takes_good (system_of i) sound k limit s (event_of i e) fits effect takes).changes j (Some (event_of i f)) c).own ∙ mine)
    (λ c. let was = meant i (waiting mid j) (event_of i f) c.1 in home j was.0 (still k j old mid was.0 gone.left was.1))
    (edit_some (effect.changes j) (meaning i mid j) (event_of i f) (sym (agenda j) ∙ ap (option_map (event_of i)) h))
