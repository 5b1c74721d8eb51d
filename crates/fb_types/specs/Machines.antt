-- One resource by itself, as a machine that takes one event after another (this project's profile).
use Rattle.std.specs.Prelude.{◌≡◌, ◌<◌, ℕ, Option, Some, None, List, [], ◌∷◌, ◌++◌, ◌==◌, nat_lt, if◌then◌else◌}
use Rattle.fb_types.specs.Keys.{Precedes, Map, Change, or_else, without, changed_to}
use Rattle.fb_types.specs.declared.key.Key.{Key}

-- What taking one event gives: the part after it, changes of local events and timers, messages under the keys of
-- their arrivals, lines, and a reason to stop.
pub record Outcome (Part Event Line Reason : Type 0) : Type 0 where
  pub part : Part
  pub changes : Change Event
  pub sent : List (Key × Event)
  pub lines : List Line
  pub stop : Option Reason

-- What a simulator must provide to speak of its resources separately: a resource's part of the state, and what taking an
-- event gives from that part alone.
pub record Machine : Type 1 where
  pub Part : Type 0
  pub Event : Type 0
  pub Line : Type 0
  pub Reason : Type 0
  -- an event may be under a key
  pub Fits : Key → Event → Type 0
  pub Gives : Part → Key → Event → Outcome Part Event Line Reason → Type 0
  -- the resource that sends what arrives under a key
  pub sender : Key → ℕ
  -- a message that is sent at a tick may arrive under the key
  pub Arrives : Key → (sent : ℕ) → Type 0
  pub line_tick : Line → ℕ
  pub line_resource : Line → ℕ

-- An event that was taken, and its outcome.
pub record Item (M : Machine) : Type 0 where
  pub key : Key
  pub event : M.Event
  pub out : Outcome M.Part M.Event M.Line M.Reason

-- A resource by itself: its part of the state; its stimuli, timers and local events; the messages that wait for it; and the reason for which it has stopped.
pub record Local (M : Machine) : Type 0 where
  pub part : M.Part
  pub own : Map M.Event
  pub inbox : Map M.Event
  pub stop : Option M.Reason

-- for each element
abbrev pub Each : {A : Type 0} → (A → Type 0) → List A → Type 0
Each P [] = Unit {0}
Each P (x ∷ xs) = P x × Each P xs

module _ (M : Machine) where
  -- what waits under a key
  abbrev pub waiting : Local M → Map M.Event
  waiting l k = or_else (l.own k) (l.inbox k)

  -- The resource, which has not stopped, takes the event under the least of its keys.
  pub record TakesAlone (r : ℕ) (l : Local M) (i : Item M) : Type 0 where
    pub mine : i.key.resource ≡ r
    pub live : l.stop ≡ None
    pub waits : waiting l i.key ≡ Some i.event
    pub least : (k : Key) → k.resource ≡ r → Precedes k i.key → waiting l k ≡ None
    pub fits : M.Fits i.key i.event
    pub gives : M.Gives l.part i.key i.event i.out

  -- what that leaves
  abbrev pub after : Local M → Item M → Local M
  after l i =
      record {
        part = i.out.part;
        own = λ k. changed_to (i.out.changes k) (without i.key l.own k);
        inbox = λ k. without i.key l.inbox k;
        stop = i.out.stop;
      }

  -- one event is taken after another
  abbrev pub Chain : (resource : ℕ) → Local M → List (Item M) → Type 0
  Chain r l [] = Unit {0}
  Chain r l (i ∷ is) = TakesAlone r l i × Chain r (after l i) is

  -- what a chain leaves
  abbrev pub end : Local M → List (Item M) → Local M
  end l [] = l
  end l (i ∷ is) = end (after l i) is

  -- a resource that has not stopped has nothing to take below a tick
  abbrev pub Rests : (resource tick : ℕ) → Local M → Type 0
  Rests r t l = l.stop ≡ None → (k : Key) → k.resource ≡ r → k.tick < t → waiting l k ≡ None

  -- All that the resource takes by itself below a tick, or up to its stop.
  pub record Run (r : ℕ) (l : Local M) (t : ℕ) (is : List (Item M)) : Type 0 where
    pub chain : Chain r l is
    pub below : Each (λ (i : Item M). i.key.tick < t) is
    pub rests : Rests r t (end l is)

  abbrev pub sent_by : List (Item M) → List (Key × M.Event)
  sent_by [] = []
  sent_by (i ∷ is) = i.out.sent ++ sent_by is

  abbrev pub lines_of : List (Item M) → List M.Line
  lines_of [] = []
  lines_of (i ∷ is) = i.out.lines ++ lines_of is

  -- what is taken before the first key at a tick or later
  abbrev pub cut : (tick : ℕ) → List (Item M) → List (Item M)
  cut t [] = []
  cut t (i ∷ is) = if nat_lt i.key.tick t then i ∷ cut t is else []

  -- what is taken at one resource
  abbrev pub at : (resource : ℕ) → List (Item M) → List (Item M)
  at r [] = []
  at r (i ∷ is) = if i.key.resource == r then i ∷ at r is else at r is
