-- Taking one event: what it changes of state and agenda (IEC 61499-1, 5.2.2 and 5.3.2; keys and the count of steps are this project's profile).
use Rattle.std.specs.Prelude.{◌≡◌, ℕ, zero, suc, ◌+◌, List, [], ◌∷◌, ◌++◌, Bool, false, ◌&&◌, ◌==◌, if◌then◌else◌, Option, Some, None}
use Rattle.fb_types.specs.Names.{Path}
use Rattle.fb_types.specs.Keys.{or_else, found, without, Change, no_change, changed_to, same_key, timer_key, message_key, local_key}
use Rattle.fb_types.specs.Systems.{System}
use Rattle.fb_types.specs.States.{State, Meter, Agenda, Event, Expired, Arrived, Raised, path_of, Line}
use Rattle.fb_types.specs.Reactions.{World, Out, Local, Sends, Outcome, Reacts}
use Rattle.fb_types.specs.declared.value.Reason.{Reason}
use Rattle.fb_types.specs.declared.value.Reason.TheVariants.{Steps}
use Rattle.fb_types.specs.declared.key.Key.{Key}
use Rattle.fb_types.specs.declared.run.TimerAsk.{TimerAsk}
use Rattle.fb_types.specs.declared.run.TimerAsk.TheVariants.{Keep, Clear, At}

-- a function, but x at n
abbrev pub with_at : {A : Type 0} → ℕ → A → (ℕ → A) → ℕ → A
with_at n x f m = if m == n then x else f m

-- ---- Counts

abbrev pub is_tick : Option ℕ → ℕ → Bool
is_tick None t = false
is_tick (Some s) t = s == t

-- In each tick of a resource the steps and the local events are counted from scratch.
abbrev pub begun : (limit tick : ℕ) → Meter → Meter
begun limit tick m = if is_tick m.tick tick then m else record { tick = Some tick; left = limit; locals = 0 }

-- ---- New keys

-- What a reaction emits, under its keys: local events are numbered within their tick and resource, and messages on their
-- link.
pub record Posts : Type 0 where
  pub locals : ℕ
  pub sent : ℕ → ℕ
  pub raised : List (Key × Event)
  pub messages : List (Key × Event)

abbrev pub post : System → Key → Out → Posts → Posts
post sys k (Local q) x =
    record x { locals = x.locals + 1; raised = x.raised ++ (local_key k.tick k.resource x.locals, Raised q) ∷ [] }
post sys k (Sends q carried) x =
    let s = sys.resource q.at in
    let l = sys.link k.resource s in
    record x {
      sent = with_at l (x.sent l + 1) x.sent;
      messages = x.messages ++ (message_key (sys.arrival l k.tick) s l (x.sent l), Arrived q carried) ∷ [];
    }

abbrev pub post_all : System → Key → List Out → Posts → Posts
post_all sys k [] x = x
post_all sys k (o ∷ os) x = post_all sys k os (post sys k o x)

-- ---- Timers

abbrev pub is_timer_of : (resource instance : ℕ) → Key → Bool
is_timer_of r i k = k.resource == r && k.class == 1 && k.a == i

-- The timer of an instance is kept, cleared or set, so there is at most one.
abbrev pub timer_change : System → (resource : ℕ) → Path → TimerAsk → Change Event
timer_change sys r p Keep j = None
timer_change sys r p Clear j = if is_timer_of r (sys.number p) j then Some None else None
timer_change sys r p (At t) j =
    if same_key (timer_key t r (sys.number p)) j then Some (Some (Expired p))
    else if is_timer_of r (sys.number p) j then Some None
    else None

-- ---- The taking

-- What one taking gives. The changes are of the keys of its own resource.
pub record Effect : Type 0 where
  pub state : State
  pub changes : Change Event
  pub sent : List (Key × Event)
  pub lines : List Line
  pub stop : Option Reason

abbrev pub put_of : Option Event → Option (Option Event)
put_of None = None
put_of (Some e) = Some (Some e)

abbrev pub world_of : State → (resource : ℕ) → World
world_of s r = record { blocks = s.blocks; held = s.held r }

abbrev pub posts_of : System → Key → Meter → State → List Out → Posts
posts_of sys k m s outs = post_all sys k outs (record { locals = m.locals; sent = s.sent; raised = []; messages = [] })

-- the effect of the outcome of a reaction
abbrev pub effect_of : System → Key → Event → Meter → State → Outcome → Effect
effect_of sys k event m s o =
    let x = posts_of sys k m s o.outs in
    record {
      state = record {
        blocks = o.world.blocks;
        held = with_at k.resource o.world.held s.held;
        sent = x.sent;
        meters = with_at k.resource (record { tick = Some k.tick; left = o.left; locals = x.locals }) s.meters;
      };
      changes = λ j. or_else (put_of (found j x.raised)) (timer_change sys k.resource (path_of event) o.timer j);
      sent = x.messages;
      lines = o.lines;
      stop = o.stop;
    }

-- No step is left for the event: the resource stops, and nothing else happens.
abbrev pub out_of_steps : State → Effect
out_of_steps s = record { state = s; changes = no_change; sent = []; lines = []; stop = Some Steps }

abbrev pub TakesWith : System → State → Key → Event → Meter → (left : ℕ) → Effect → Type 0
TakesWith sys s k event m zero x = x ≡ out_of_steps s
TakesWith sys s k event m (suc left) x =
    (o : Outcome) × Reacts sys k (world_of s k.resource) event left o × (x ≡ effect_of sys k event m s o)

-- An event is taken under its key, with a limit on the steps of one tick.
unfoldable pub Takes : System → (limit : ℕ) → State → Key → Event → Effect → Type 0
Takes sys limit s k event x = let m = begun limit k.tick (s.meters k.resource) in TakesWith sys s k event m m.left x

-- the agenda after the taking of a key
abbrev pub agenda_after : Key → Agenda → Effect → Agenda
agenda_after k a x j = or_else (found j x.sent) (changed_to (x.changes j) (without k a j))
