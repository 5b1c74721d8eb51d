-- What contracts say of a resource of a system: its value is the accepted inputs, and each of these is of the flat system.
use Rattle.std.specs.Prelude.{ℕ, None, List}
use Rattle.fb_types.specs.Headline.{Inputs, stimuli_of, system_of}
use Rattle.fb_types.specs.Machines.{Local}
use Rattle.fb_types.specs.Names.{Path}
use Rattle.fb_types.specs.Parts as parts
use Rattle.fb_types.specs.Simulation as simulation
use Rattle.fb_types.specs.States.{Event as AnEvent}
use Rattle.fb_types.specs.declared.key.Key.{Key}
use Rattle.fb_types.specs.declared.run.Message.{Message}
use Rattle.fb_net.specs.declared.outbox.OutgoingMessage.{OutgoingMessage}
use Rattle.fb_link.specs.Messages as messages
use Rattle.fb_resource.specs.Posts as posts

-- the part of a resource before the first event
abbrev pub opening_part : (i : Inputs) (limit resource : ℕ) → Local (parts.machine (system_of i) limit)
opening_part i limit resource = parts.local_of (system_of i) limit resource (simulation.opening (system_of i) (stimuli_of i)) None

-- the timer of an instance at tick 0, if it is an E_RESTART
abbrev pub restart_of : Inputs → Path → List (Key × AnEvent)
restart_of i = simulation.restart_of (system_of i)

-- the key under which a message arrives
abbrev pub key_of : Inputs → Message → Key
key_of i = messages.key_of (system_of i)

-- the message that a sending becomes, under its number on the link
abbrev pub message_of : Inputs → Key → OutgoingMessage → (number : ℕ) → Message
message_of i = posts.message_of (system_of i)
