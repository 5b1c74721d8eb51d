-- The core of the parallel run: resources at home or out with workers, and bounds by lookahead after Chandy, Misra and Nicol (this project's profile).
use Rattle.std.specs.Prelude.{◌≡◌, ℕ, ◌<◌, ◌≤◌, max, Option, Some, None, List, [], ◌∷◌, ◌++◌}
use Rattle.fb_types.specs.Keys.{found, or_else}
use Rattle.fb_types.specs.Takes.{with_at}
use Rattle.fb_types.specs.Systems.{System}
use Rattle.fb_types.specs.Simulation.{Stimulus, opening}
use Rattle.fb_types.specs.Machines.{Machine, Item, Local, waiting, end, Run, sent_by, lines_of}
use Rattle.fb_types.specs.Parts.{machine, local_of}
use Rattle.fb_types.specs.declared.key.Key.{Key}

-- What the core has of one resource; if it is out, the state in which it left. Out means with a worker, for a run below a
-- bound.
pub record Member (M : Machine) : Type 0 where
  pub state : Local M
  pub clock : ℕ
  pub out : Option (ℕ × ℕ)
  pub outbox : List (Key × M.Event)
  pub lines : List M.Line

pub data CoreStep (M : Machine) : Type 0 where
  Lend : (worker resource bound : ℕ) → CoreStep M
  Give : (worker resource : ℕ) (run : List (Item M)) → CoreStep M
  Exchange : CoreStep M

-- the tick of a stop, or else the rest
abbrev pub stop_or : {R : Type 0} → Option R → ℕ → ℕ → ℕ
stop_or (Some reason) tick rest = tick
stop_or None tick rest = rest

abbrev pub bound_of : Option (ℕ × ℕ) → ℕ
bound_of (Some x) = x.1
bound_of None = 0

-- What a resource still sends, it sends at this tick or later: not before its clock, and, if it has not stopped, not
-- before the least tick m of all events either.
abbrev pub floor_of : {R : Type 0} → Option R → (clock m : ℕ) → ℕ
floor_of None clock m = max clock m
floor_of (Some reason) clock m = clock

module _ (M : Machine) where
  abbrev pub Core : Type 0
  Core = (resource : ℕ) → Member M

  -- the clock after a run: its stop, or else its bound
  abbrev pub clock_after : (bound : ℕ) → List (Item M) → ℕ
  clock_after bound [] = bound
  clock_after bound (i ∷ is) = stop_or i.out.stop i.key.tick (clock_after bound is)

  -- ---- Legal bounds

  -- No event on an agenda, and no message in an outbox, comes before the tick. If there are any, the greatest such tick
  -- is the least of theirs.
  abbrev pub IsFloor : Core → (tick : ℕ) → Type 0
  IsFloor c m =
      (s : ℕ) (k : Key) → k.tick < m
      → (k.resource ≡ s → waiting M (c s).state k ≡ None) × (found k (c s).outbox ≡ None)

  abbrev pub floor : Core → (m resource : ℕ) → ℕ
  floor c m s = floor_of (c s).state.stop (c s).clock m

  -- A bound of a resource is legal if every message to it in an outbox arrives at the bound or later, and so would every
  -- message that is sent over a link to it at the floor of the sender or later.
  pub record IsLegal (c : Core) (r bound : ℕ) : Type 0 where
    pub m : ℕ
    pub is_floor : IsFloor c m
    pub outboxes : (s : ℕ) (k : Key) → k.resource ≡ r → k.tick < bound → found k (c s).outbox ≡ None
    pub links : (k : Key) (sent : ℕ) → M.Arrives k sent → k.resource ≡ r → floor c m (M.sender k) ≤ sent → bound ≤ k.tick

  -- ---- Steps

  -- a member after a run
  abbrev pub returned : Member M → List (Item M) → Member M
  returned s is =
      record {
        state = end M s.state is;
        clock = clock_after (bound_of s.out) is;
        out = None;
        outbox = s.outbox ++ sent_by M is;
        lines = s.lines ++ lines_of M is;
      }

  -- Every message goes onto the agenda of its receiver. A resource takes only its own keys.
  abbrev pub exchanged : Core → Core
  exchanged c r =
      record (c r) {
        state = record (c r).state { inbox = λ k. or_else (found k (c (M.sender k)).outbox) ((c r).state.inbox k) };
        outbox = [];
      }

  abbrev pub done : Core → CoreStep M → Core
  done c (Lend worker r bound) = with_at r (record (c r) { out = Some (worker, bound) }) c
  done c (Give worker r is) = with_at r (returned (c r) is) c
  done c Exchange = exchanged c

  -- A resource that is at home and has not stopped leaves with a legal bound, not below its clock nor over the horizon.
  pub record MayLend (horizon : ℕ) (c : Core) (r bound : ℕ) : Type 0 where
    pub home : (c r).out ≡ None
    pub live : (c r).state.stop ≡ None
    pub legal : IsLegal c r bound
    pub not_back : (c r).clock ≤ bound
    pub in_range : bound ≤ horizon

  -- The worker that has a resource brings it back, run by itself to its bound or to its stop.
  pub record MayGive (c : Core) (worker r : ℕ) (is : List (Item M)) : Type 0 where
    pub bound : ℕ
    pub is_out : (c r).out ≡ Some (worker, bound)
    pub run : Run M r (c r).state bound is

  -- A step that may be done now. Messages are exchanged while no resource is out.
  abbrev pub MayDo : (horizon : ℕ) → Core → CoreStep M → Type 0
  MayDo horizon c (Lend worker r bound) = MayLend horizon c r bound
  MayDo horizon c (Give worker r is) = MayGive c worker r is
  MayDo horizon c Exchange = (r : ℕ) → (c r).out ≡ None

-- ---- The opening

-- All resources are at home with clock 0, each with its part of the opening state and agenda, and no message is on its way.
abbrev pub opening_core : (sys : System) → List Stimulus → (limit : ℕ) → Core (machine sys limit)
opening_core sys stimuli limit r =
    record { state = local_of sys limit r (opening sys stimuli) None; clock = 0; out = None; outbox = []; lines = [] }
