-- What each step of posting rests on, and what it leaves (this project's profile).
use Rattle.std.specs.Prelude.{◌≡◌, ◌+◌, ◌<◌, ◌≤◌, ℕ, List, [], ◌∷◌, All, length, map}
use Rattle.fb_types.specs.Headline.{system_of}
use Rattle.fb_types.specs.Keys.{changed_to}
use Rattle.fb_types.specs.States.{path_of}
use Rattle.fb_types.specs.Systems.{System}
use Rattle.fb_types.specs.Takes.{Posts, post_all, timer_change}
use Rattle.fb_types.specs.declared.key.Key.{Key}
use Rattle.fb_types.specs.declared.run.Event.{Event}
use Rattle.fb_types.specs.declared.run.Message.{Message}
use Rattle.fb_types.specs.declared.run.TimerAsk.{TimerAsk}
use Rattle.fb_agenda.specs.Agendas.{Contents}
use Rattle.fb_net.specs.Events.{event_of}
use Rattle.fb_net.specs.Outs.{out_of}
use Rattle.fb_net.specs.declared.outbox.Out.{Out}
use Rattle.fb_net.specs.declared.outbox.Outbox.{Outbox}
use Rattle.fb_resource.specs.Posts.{ArePosted, CountsAre, IsMessage, IsPostable}
use Rattle.fb_resource.specs.Takings.{IsSettled}
use Rattle.fb_resource.specs.Waiting.{IsInOrder, meaning}
use Rattle.fb_resource.specs.declared.posting.Posting.{Posting}
use Rattle.fb_resource.specs.declared.traffic.Traffic.{Traffic}

abbrev pub system_in : Posting → System
system_in p = system_of p.system.now

-- where events come from and go, with this outbox
abbrev pub traffic_in : Posting → Outbox → Traffic
traffic_in p x = record { agenda = p.agenda.now; sent = p.sent.now; mail = p.mail.now; outbox = x }

-- ---- Before

-- Something may be posted.
pub record MayPost (p : Posting) : Type 0 where
  pub order : IsInOrder p.system.now p.key.now.tick p.agenda.now
  pub due : length p.agenda.now.due ≡ length (system_in p).paths
  pub counted : length p.sent.now.items ≡ (system_in p).links
  pub mail : All (IsMessage p.system.now) p.mail.now.items

-- What is put out may be posted: it goes to a port, or over a link, of the resource of the key.
abbrev pub MayPut : Posting → Out → Type 0
MayPut p = IsPostable (system_in p) p.key.now.resource

-- ---- After

-- After a step something may be posted again. What the step added arrives later than the key, and it has used at most
-- this many numbers of local events.
pub record HasGrown (old : Posting) (most : ℕ) (new : Posting) : Type 0 where
  pub may : MayPost new
  pub later : All (λ m. old.key.now.tick < m.arrives) old.mail.now.items → All (λ m. old.key.now.tick < m.arrives) new.mail.now.items
  pub few : new.locals.now ≤ old.locals.now + most

-- Events were posted in their order, after whatever was posted before.
abbrev pub HasPosted : Posting → List Out → Posting → Type 0
HasPosted old os new =
    (before : Posts) (base : Contents) (first : List Message)
    → ArePosted old.system.now before base old.agenda.now first old.mail.now.items old.locals.now old.sent.now.items
    → ArePosted old.system.now (post_all (system_in old) old.key.now (map (out_of (system_in old)) os) before) base new.agenda.now first new.mail.now.items new.locals.now new.sent.now.items

-- The timer of the instance at which an event came was set as it asks, and nothing was posted.
pub record HasSet (old : Posting) (ask : TimerAsk) (e : Event) (new : Posting) : Type 0 where
  pub set : (j : Key) → meaning old.system.now new.agenda.now j ≡ changed_to (timer_change (system_in old) old.key.now.resource (path_of (event_of old.system.now e)) ask j) (meaning old.system.now old.agenda.now j)
  pub mail : new.mail.now ≡ old.mail.now
  pub sent : new.sent.now ≡ old.sent.now
  pub locals : new.locals.now ≡ old.locals.now

-- The timer was set as the outbox asks, and then what it puts out was posted, whatever was sent before.
abbrev pub HasSettled : Posting → Outbox → Event → Posting → Outbox → Type 0
HasSettled old from e new to =
    (counts : ℕ → ℕ) → CountsAre old.sent.now.items counts
    → IsSettled old.system.now old.key.now (path_of (event_of old.system.now e)) from.timer
    (post_all (system_in old) old.key.now (map (out_of (system_in old)) from.outs.items) (record { locals = old.locals.now; sent = counts; raised = []; messages = [] }))
    (traffic_in old from) (traffic_in new to) new.locals.now

-- However a step ends, also where memory runs out: the posting is of the same system and key, and lends what it lent.
pub record IsSame (old new : Posting) : Type 0 where
  pub system : new.system.now ≡ old.system.now
  pub key : new.key.now ≡ old.key.now
  pub agenda : new.agenda.ghost_name ≡ old.agenda.ghost_name
  pub mail : new.mail.ghost_name ≡ old.mail.ghost_name
  pub sent : new.sent.ghost_name ≡ old.sent.ghost_name
  pub locals : new.locals.ghost_name ≡ old.locals.ghost_name
