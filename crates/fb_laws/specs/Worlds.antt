-- The one-thread simulation of a machine's resources: one agenda for all, of which the least key is always taken (this project's profile).
use Rattle.std.specs.Prelude.{◌≡◌, ℕ, ◌+◌, ◌<◌, ◌≤◌, ◌⊎◌, ◌==◌, nat_lt, if◌then◌else◌, true, Option, Some, None, List, [], ◌∷◌, ◌++◌}
use Rattle.fb_types.specs.Keys.{Precedes, Map, or_else, found, without, changed_to}
use Rattle.fb_types.specs.Takes.{with_at}
use Rattle.fb_types.specs.Machines.{Machine, Item, Local, Each, sent_by, cut, at}
use Rattle.fb_types.specs.declared.key.Key.{Key}

-- The parts of all resources, the reasons for which they have stopped, and the one agenda.
pub record World (M : Machine) : Type 0 where
  pub parts : ℕ → M.Part
  pub stops : ℕ → Option M.Reason
  pub agenda : Map M.Event

-- less by tick, then resource
abbrev pub IndexBefore : Key → Key → Type 0
IndexBefore x y = (x.tick < y.tick) ⊎ ((x.tick ≡ y.tick) × (x.resource < y.resource))

abbrev pub IndexUpTo : Key → Key → Type 0
IndexUpTo x y = (x.tick < y.tick) ⊎ ((x.tick ≡ y.tick) × (x.resource ≤ y.resource))

module _ (M : Machine) where
  -- The event under the least key of all is taken, if nothing has stopped.
  pub record TakesLeast (w : World M) (i : Item M) : Type 0 where
    pub live : (r : ℕ) → w.stops r ≡ None
    pub waits : w.agenda i.key ≡ Some i.event
    pub least : (k : Key) → Precedes k i.key → w.agenda k ≡ None
    pub fits : M.Fits i.key i.event
    pub gives : M.Gives (w.parts i.key.resource) i.key i.event i.out

  abbrev pub next : World M → Item M → World M
  next w i =
      record {
        parts = with_at i.key.resource i.out.part w.parts;
        stops = with_at i.key.resource i.out.stop w.stops;
        agenda = λ k. or_else (found k i.out.sent) (changed_to (i.out.changes k) (without i.key w.agenda k));
      }

  abbrev pub Simulates : World M → List (Item M) → Type 0
  Simulates w [] = Unit {0}
  Simulates w (i ∷ is) = TakesLeast w i × Simulates (next w i) is

  abbrev pub last : World M → List (Item M) → World M
  last w [] = w
  last w (i ∷ is) = last (next w i) is

  -- The whole simulation: to the horizon, or to the first reason.
  pub record Simulation (w : World M) (horizon : ℕ) (is : List (Item M)) : Type 0 where
    pub chain : Simulates w is
    pub below : Each (λ (i : Item M). i.key.tick < horizon) is
    pub ends : ((r : ℕ) → (last w is).stops r ≡ None) → (k : Key) → k.tick < horizon → (last w is).agenda k ≡ None

  -- nothing has stopped, and no message is on its way
  pub record IsOpening (w : World M) : Type 0 where
    pub live : (r : ℕ) → w.stops r ≡ None
    pub quiet : (k : Key) → (k.class == 2) ≡ true → w.agenda k ≡ None

  -- nothing is of a resource past the last
  pub record IsCounted (count : ℕ) (w : World M) : Type 0 where
    pub agenda : (k : Key) → count ≤ k.resource → w.agenda k ≡ None
    pub links : (k : Key) (sent : ℕ) → M.Arrives k sent → k.resource < count

  -- a resource's part of the state and of the agenda
  abbrev pub view : World M → (resource : ℕ) → Local M
  view w r =
      record {
        part = w.parts r;
        own = λ k. if k.class == 2 then None else w.agenda k;
        inbox = λ k. if k.class == 2 then w.agenda k else None;
        stop = w.stops r;
      }

  -- up to which tick a resource has run whole if the simulation stops after the last key taken
  abbrev pub reach : Key → (resource : ℕ) → ℕ
  reach stop r = if nat_lt stop.resource r then stop.tick else stop.tick + 1

  -- a simulation that ends by the reason of its last item
  pub record StopsAt (is : List (Item M)) : Type 0 where
    pub front : List (Item M)
    pub item : Item M
    pub reason : M.Reason
    pub split : is ≡ front ++ item ∷ []
    pub stops : item.out.stop ≡ Some reason

  -- ---- One resource

  -- up to which tick the history of a resource goes if the simulation stops under this key
  abbrev pub far : Key → (resource : ℕ) → ℕ
  far stop r = if nat_lt r stop.resource then stop.tick + 1 else stop.tick

  -- a resource has a history for a tick
  pub record IsCovered (horizon : ℕ) (is : List (Item M)) (r t : ℕ) : Type 0 where
    pub in_range : t ≤ horizon
    pub before_stop : (s : StopsAt is) → t ≤ far s.item.key r

  -- what the simulation takes of a resource below a tick
  abbrev pub taken_at : List (Item M) → (resource tick : ℕ) → List (Item M)
  taken_at is r t = at M r (cut M t is)

  -- the state of a resource after the last take below a tick
  abbrev pub left_at : World M → List (Item M) → (resource tick : ℕ) → Local M
  left_at w is r t = view (last w (cut M t is)) r

  -- the resource alone, with the messages that arrive below a tick
  abbrev pub apart : World M → List (Item M) → (resource tick : ℕ) → Local M
  apart w is r t = record (view w r) { inbox = λ k. if nat_lt k.tick t then found k (sent_by M is) else None }

  -- the simulation does not stop at a lesser tick and resource
  abbrev pub NotBefore : List (Item M) → (tick resource : ℕ) → Type 0
  NotBefore is m r = (s : StopsAt is) → (m < s.item.key.tick) ⊎ ((m ≡ s.item.key.tick) × (r ≤ s.item.key.resource))
