-- What a taking puts on the agenda of its resource, and the messages that it gives (this project's profile).
use Rattle.std.specs.Prelude.{◌≡◌, ◌<◌, ◌++◌, ◌∷◌, [], ℕ, List, All, map, Some, if◌then◌else◌, slice_get}
use Rattle.fb_types.specs.Headline.{Inputs, system_of}
use Rattle.fb_types.specs.Keys.{or_else, found, same_key}
use Rattle.fb_types.specs.Names.{Port}
use Rattle.fb_types.specs.Numbers.{carried_of}
use Rattle.fb_types.specs.States as model
use Rattle.fb_types.specs.Systems.{System}
use Rattle.fb_types.specs.Takes.{Posts}
use Rattle.fb_types.specs.declared.key.Key.{Key}
use Rattle.fb_types.specs.declared.run.Message.{Message}
use Rattle.fb_types.specs.declared.value.Value.{Value}
use Rattle.fb_agenda.specs.Agendas.{Contents}
use Rattle.fb_types.specs.declared.run.Event.{Event}
use Rattle.fb_types.specs.declared.run.Event.TheVariants.{Arrival}
use Rattle.fb_net.specs.Outs.{IsLocal, IsOutgoing}
use Rattle.fb_net.specs.declared.outbox.Out.{Out}
use Rattle.fb_net.specs.declared.outbox.Out.TheVariants.{Local, Send}
use Rattle.fb_net.specs.declared.outbox.OutgoingMessage.{OutgoingMessage}
use Rattle.fb_net.specs.Events.{IsEventIn, event_of}
use Rattle.fb_laws.specs.Typed.{FitsAt, IsTypedEvent}
use Rattle.fb_resource.specs.Waiting.{meaning}
pub use Rattle.fb_agenda.specs.Agendas.{IsPut}
pub use Rattle.fb_link.specs.Messages.{key_of, receiver_of}

-- ---- Messages

-- a message as the model has it, under its key
abbrev pub arriving : Inputs → Message → Key × model.Event
arriving i m = (key_of (system_of i) m, event_of i (Arrival m))

-- A message of the system, which carries values of their types.
pub record IsMessage (i : Inputs) (m : Message) : Type 0 where
  pub event : IsEventIn i (receiver_of (system_of i) m) (Arrival m)
  pub link : m.link < (system_of i).links
  pub typed : IsTypedEvent (system_of i) (event_of i (Arrival m))

-- ---- What is put out

-- the message that a sending becomes, under its number on the link
abbrev pub message_of : System → Key → OutgoingMessage → (number : ℕ) → Message
message_of sys k s n =
    record { link = s.link; number = n; arrives = sys.arrival s.link k.tick; target = s.target; values = s.values }

-- An event that goes to another resource goes over a link that there is, and carries values of their types.
pub record IsSendable (sys : System) (r : ℕ) (s : OutgoingMessage) : Type 0 where
  pub sending : IsOutgoing sys r s
  pub there : s.link < sys.links
  pub typed : All (λ (c : Port × Value). FitsAt sys c.0 c.1) (map (carried_of sys) s.values)

abbrev pub IsPostable : System → (resource : ℕ) → Out → Type 0
IsPostable sys r (Local t) = IsLocal sys r t
IsPostable sys r (Send s) = IsSendable sys r s

-- One message over this link was put out, and nothing else.
pub record IsOneMessage (link : ℕ) (os : List Out) : Type 0 where
  pub message : OutgoingMessage
  pub is : os ≡ Send message ∷ []
  pub over : link ≡ message.link

-- the counts of the messages of the links
abbrev pub CountsAre : List ℕ → (ℕ → ℕ) → Type 0
CountsAre counts sent = (l n : ℕ) → slice_get counts l ≡ Some n → sent l ≡ n

-- The agenda has the local events that were posted in addition to what it had, the messages come after those before, and the counts are those of the posts.
pub record ArePosted (i : Inputs) (x : Posts) (old new : Contents) (before after : List Message) (locals : ℕ) (sent : List ℕ) : Type 0 where
  pub agenda : (j : Key) → meaning i new j ≡ or_else (found j x.raised) (meaning i old j)
  pub mail : map (arriving i) after ≡ map (arriving i) before ++ x.messages
  pub counted : locals ≡ x.locals
  pub sends : CountsAre sent x.sent
