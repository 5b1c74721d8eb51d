-- Messages that come from the outboxes onto the agendas of their receivers (this project's profile).
use Rattle.std.specs.Prelude.{◌≡◌, ℕ, ◌⊎◌, List, [], length, Some, slice_get}
use Rattle.std.specs.Global.{Vec}
use Rattle.std.specs.List.{filter}
use Rattle.fb_types.specs.Systems.{System}
use Rattle.fb_types.specs.declared.run.Message.{Message}
use Rattle.fb_resource.specs.Resources.{HasReceived}
use Rattle.fb_resource.specs.declared.resource.Resource.{Resource}
use Rattle.fb_link.specs.Exchanges.{AreFor, goes_to}

-- each has received the messages in the list at its index
pub record AreDelivered (xs : List Resource) (boxes : List (Vec Message)) (ys : List Resource) : Type 0 where
  pub counted : length ys ≡ length xs
  pub each : (r : ℕ) (x : Resource) → slice_get xs r ≡ Some x
      → (box : Vec Message) × (y : Resource) × (slice_get boxes r ≡ Some box) × (slice_get ys r ≡ Some y) × HasReceived box.items x y

-- Each has received those of all messages that are for it; where there are none at all, it is as it was.
pub record ArePosted (sys : System) (all : List Message) (xs ys : List Resource) : Type 0 where
  pub counted : length ys ≡ length xs
  pub each : (r : ℕ) (x : Resource) → slice_get xs r ≡ Some x
      → (y : Resource) × (slice_get ys r ≡ Some y)
      × (((all ≡ []) × (y ≡ x)) ⊎ ((ms : List Message) × AreFor sys r all ms × HasReceived ms x y))

-- Each has received those of the messages that go to it, in their order.
pub record AreGiven (sys : System) (ms : List Message) (xs ys : List Resource) : Type 0 where
  pub counted : length ys ≡ length xs
  pub each : (r : ℕ) (x : Resource) → slice_get xs r ≡ Some x → (y : Resource) × (slice_get ys r ≡ Some y) × HasReceived (filter (goes_to sys r) ms) x y
