-- Traces: lines of events, and an end (docs/FORMATS.md, "Trace text"; this project's profile).
use Rattle.std.specs.Prelude.{◌≡◌, ◌≢◌, ◌⊎◌, ℕ, ◌<◌, ◌≤◌, true, List, [], ◌∷◌, ◌++◌, Some, codes, All}
use Rattle.fb_types.specs.declared.run.Form.{Form}
use Rattle.fb_expect.specs.Words.{Text, is_name, magnitude}
use Rattle.fb_expect.specs.Events.{Event, IsLine}
use Rattle.fb_expect.specs.declared.ending.End.{End}
use Rattle.fb_expect.specs.declared.ending.End.TheVariants.{Horizon, Stop, Cut}
use Rattle.fb_expect.specs.declared.judging.Cut.{Cut as MayCut}
use Rattle.fb_expect.specs.declared.judging.Cut.TheVariants.{Refused, Allowed}

-- the tick before which a trace is whole
abbrev pub tick_of : End → ℕ
tick_of (Horizon h) = h
tick_of (Stop t) = t
tick_of (Cut t) = t

-- the tick of the last of these lines, or this one before the first
abbrev pub last_tick : ℕ → List Event → ℕ
last_tick t [] = t
last_tick t (e ∷ es) = last_tick e.tick es

-- ticks that do not fall, from this one on
abbrev pub RiseFrom : ℕ → List Event → Type 0
RiseFrom t [] = Unit {0}
RiseFrom t (e ∷ es) = (t ≤ e.tick) × RiseFrom e.tick es

-- no event is of a later tick
abbrev pub AreBelow : List Event → ℕ → Type 0
AreBelow es t = All (λ e. e.tick ≤ t) es

-- The text is the lines of these events, one after the other.
abbrev pub AreLines : Form → Text → List Event → Type 0
AreLines form text [] = text ≡ []
AreLines form text (e ∷ es) = (line : Text) × (rest : Text) × IsLine form line e × AreLines form rest es × (text ≡ line ++ rest)

-- a reason to stop
abbrev pub IsReason : Text → Type 0
IsReason text = (text ≡ codes "steps") ⊎ (text ≡ codes "divide") ⊎ (text ≡ codes "range")

-- The text has a stop in this tick.
pub record IsStopText (text : Text) (tick : ℕ) : Type 0 where
  pub digits : Text
  pub resource : Text
  pub reason : Text
  pub tick_is : magnitude digits ≡ Some tick
  pub resource_is : is_name resource ≡ true
  pub reason_is : IsReason reason
  pub parts : text ≡ digits ++ (codes " " ++ (resource ++ (codes " " ++ reason)))

-- The text is the last line of a whole trace with this end.
abbrev pub IsEndOf : Text → End → Type 0
IsEndOf text (Horizon h) = (digits : Text) × (magnitude digits ≡ Some h) × (text ≡ codes "end " ++ (digits ++ codes "\n"))
IsEndOf text (Stop t) = (stop : Text) × IsStopText stop t × (text ≡ codes "stop " ++ (stop ++ codes "\n"))
IsEndOf text (Cut t) = ⊥

-- no line feed is in the text
abbrev pub HasNoEnd : Text → Type 0
HasNoEnd text = All (λ b. b ≢ 10) text

-- The text comes after the lines of a trace with this end. Where a trace may be cut off, that may be nothing, or a line without its end.
abbrev pub IsLast : MayCut → Text → End → Type 0
IsLast cut text (Horizon h) = IsEndOf text (Horizon h)
IsLast cut text (Stop t) = IsEndOf text (Stop t)
IsLast Refused text (Cut t) = ⊥
IsLast Allowed text (Cut t) = HasNoEnd text

-- what may come after a line of this tick
abbrev pub EndsAfter : ℕ → End → Type 0
EndsAfter t (Horizon h) = t < h
EndsAfter t (Stop k) = t ≤ k
EndsAfter t (Cut k) = k ≡ t

-- The text is the trace of these events with this end.
pub record IsTrace (cut : MayCut) (text : Text) (es : List Event) (end : End) : Type 0 where
  pub form : Form
  pub lines : Text
  pub last : Text
  pub are_lines : AreLines form lines es
  pub rise : RiseFrom 0 es
  pub is_last : IsLast cut last end
  pub ends : EndsAfter (last_tick 0 es) end
  pub parts : text ≡ lines ++ last
