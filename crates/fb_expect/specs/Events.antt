-- Lines of events (docs/FORMATS.md, "Trace text"; this project's profile).
use Rattle.std.specs.Prelude.{◌≡◌, ℕ, ◌^◌, ◌-◌, Bool, true, [], ◌++◌, Some, is_some, codes, if◌then◌else◌}
use Rattle.fb_types.specs.declared.run.Form.{Form}
use Rattle.fb_types.specs.declared.run.Form.TheVariants.{One, Two}
use Rattle.fb_expect.specs.Words.{Text, are_values, is_name, is_port, magnitude, natural}
use Rattle.fb_expect.specs.declared.entry.Entry.{Entry}

-- What a line says: the tick, the resource, whether the event is taken, its port, and what comes after the port.
pub record Event : Type 0 where
  pub tick : ℕ
  pub resource : Text
  pub taken : Bool
  pub port : Text
  pub values : Text

-- what an entry is of
abbrev pub event_of : Entry → Event
event_of e = record { tick = e.tick; resource = e.resource.now; taken = e.taken; port = e.port.now; values = e.values.now }

-- the side of an instance, with the blanks around it
abbrev pub side_text : Bool → Text
side_text taken = if taken then codes " > " else codes " < "

-- nothing but what comes after the tick, for a tick that is written so
abbrev pub event_text : (digits : Text) → Event → Text
event_text digits e = digits ++ (codes " " ++ (e.resource ++ (side_text e.taken ++ (e.port ++ (e.values ++ codes "\n")))))

-- a number and a blank, the number at most `most`
abbrev pub IsNumberText : (most : ℕ) → Text → Type 0
IsNumberText most text = (digits : Text) × (is_some (natural most digits) ≡ true) × (text ≡ digits ++ codes " ")

-- the key of a line in form two: its class and its two parts
pub record IsKeyText (text : Text) : Type 0 where
  pub class : Text
  pub a : Text
  pub b : Text
  pub is_class : IsNumberText (2 ^ 8 - 1) class
  pub is_a : IsNumberText (2 ^ 128 - 1) a
  pub is_b : IsNumberText (2 ^ 128 - 1) b
  pub parts : text ≡ class ++ (a ++ b)

-- what a line begins with in a form
abbrev pub IsHead : Form → Text → Type 0
IsHead One head = head ≡ []
IsHead Two head = IsKeyText head

-- The text begins with this tick, a blank and the resource, and the rest comes after them.
pub record IsStart (text : Text) (tick : ℕ) (resource rest : Text) : Type 0 where
  pub digits : Text
  pub tick_is : magnitude digits ≡ Some tick
  pub resource_is : is_name resource ≡ true
  pub parts : text ≡ digits ++ (codes " " ++ (resource ++ rest))

-- The text is a port, what may come after it, and a line feed.
pub record IsPortText (text port values : Text) : Type 0 where
  pub port_is : is_port port ≡ true
  pub values_are : are_values values ≡ true
  pub parts : text ≡ port ++ (values ++ codes "\n")

-- The text is the line of the event in a form, with its line feed.
pub record IsLine (form : Form) (text : Text) (e : Event) : Type 0 where
  pub head : Text
  pub digits : Text
  pub is_head : IsHead form head
  pub tick_is : magnitude digits ≡ Some e.tick
  pub resource_is : is_name e.resource ≡ true
  pub port_is : is_port e.port ≡ true
  pub values_are : are_values e.values ≡ true
  pub parts : text ≡ head ++ event_text digits e
