-- Where the operation of a stop is in the text of the declaration (this project's own).
use Rattle.std.specs.Prelude.{◌≡◌, ℕ, ◌+◌, ◌-◌, ◌<◌, ◌⊎◌, List, drop, length, slice_get, MatchOption, Option, Some, None}
use Rattle.fb_types.specs.Headline.{Inputs}
use Rattle.fb_types.specs.declared.library.Library.{Library}
use Rattle.fb_types.specs.declared.value.Value.{Value}
use Rattle.fb_stop.specs.declared.operation.Operation.{Operation}
use Rattle.fb_read.specs.Blank.{Text}
use Rattle.fb_read.specs.Located.{AreLocated}
use Rattle.fb_read.specs.Refusals.{IsNext}
use Rattle.fb_read.specs.Tokens.{after_mark}
use Rattle.fb_read.specs.Whole.{IsLibraryText}
use Rattle.fb_read.specs.declared.token.Located.{Located}
use Rattle.fb_read.specs.declared.token.Span.{Span}
use Rattle.fb_read_positions.specs.Spans.{IsAt}
use Rattle.fb_read_positions.specs.declared.position.Position.{Position}
use Rattle.fb_stop.specs.declared.statement.Placed.{Placed}
use Rattle.fb_stop.specs.Places.{HasNoPosition, IsStopPosition}
use Rattle.fb_stop.specs.declared.found.FoundStop.{FoundStop}
use Rattle.fb_stop.specs.declared.found.StopSite.{StopSite}
use Rattle.fb_stop.specs.declared.found.StopSite.TheVariants.{BeforeEvent, InReaction}
use Rattle.fb_stop.specs.declared.shown.Shown.{Shown}
use Rattle.fb_stop.specs.declared.site.Inside.{Inside}
use Rattle.fb_stop.specs.declared.site.Site.{Site}
use Rattle.fb_stop.specs.declared.site.Site.TheVariants as site

-- the token at this index begins at the offset
abbrev pub IsTokenAt : List Located → (offset index : ℕ) → Type 0
IsTokenAt tokens offset index = (t : Located) × (slice_get tokens index ≡ Some t) × (t.index ≡ offset)

-- no token begins there
abbrev pub HasNoToken : List Located → (offset : ℕ) → Type 0
HasNoToken tokens offset = (index : ℕ) → IsTokenAt tokens offset index → ⊥

-- the bytes are those of the token at this index
abbrev pub IsTokenOf : Text → List Located → (index begin end : ℕ) → Type 0
IsTokenOf text tokens index begin end = (index < length tokens) × IsNext (drop index tokens) text begin end

-- The bytes are those of the operator, and from the first token of the operation to its last one, counted from a token.
pub record IsShownAmong (text : Text) (tokens : List Located) (begin : ℕ) (operation : Operation) (x : Shown) : Type 0 where
  pub operator : IsTokenOf text tokens (begin + operation.operator) x.operator.start x.operator.end
  pub first_end : ℕ
  pub first : IsTokenOf text tokens (begin + operation.first) x.start first_end
  pub last_start : ℕ
  pub last : IsTokenOf text tokens (begin + (operation.end - 1)) last_start x.end

-- the tokens of an operation, counted from this one, are not all there
abbrev pub IsUnshownAmong : Text → List Located → (begin : ℕ) → Operation → Type 0
IsUnshownAmong text tokens begin operation = (x : Shown) → IsShownAmong text tokens begin operation x → ⊥

-- The tokens are those of the operation, from the token at the position.
pub record IsShownIn (text : Text) (library : Library) (position : Position) (operation : Operation) (x : Shown) : Type 0 where
  pub span : Span
  pub at : IsAt text library position span
  pub tokens : List Located
  pub located : AreLocated text tokens (after_mark text)
  pub begin : ℕ
  pub there : IsTokenAt tokens span.start begin
  pub shown : IsShownAmong text tokens begin operation x

-- ---- Stops

abbrev pub operation_placed : Option Placed → Option Operation
operation_placed None = None
operation_placed (Some p) = Some p.operation

-- A statement whose value does not fit has no operation without a value.
abbrev pub operation_unless : Option Value → Option Placed → Option Operation
operation_unless None p = operation_placed p
operation_unless (Some v) p = None

abbrev pub operation_inside : Option Inside → Option Operation
operation_inside None = None
operation_inside (Some i) = operation_unless i.value i.operation

abbrev pub operation_in_site : Site → Option Operation
operation_in_site (site.Transition s j operation) = operation
operation_in_site (site.Action s j inside) = operation_inside inside

-- the operation of a stop whose tokens are counted from its position
abbrev pub operation_at : StopSite → Option Operation
operation_at BeforeEvent = None
operation_at (InReaction x) = operation_in_site x

-- what is assigned, if its value does not fit
abbrev pub assigned_if : Option Value → Option Placed → Option Operation
assigned_if None p = None
assigned_if (Some v) p = operation_placed p

abbrev pub assigned_inside : Option Inside → Option Operation
assigned_inside None = None
assigned_inside (Some i) = assigned_if i.value i.operation

abbrev pub assigned_in_site : Site → Option Operation
assigned_in_site (site.Transition s j operation) = None
assigned_in_site (site.Action s j inside) = assigned_inside inside

abbrev pub assigned_at : StopSite → Option Operation
assigned_at BeforeEvent = None
assigned_at (InReaction x) = assigned_in_site x

-- The bytes are those of an operation of the stop.
pub record IsOperationShown (text : Text) (i : Inputs) (stop : FoundStop) (o : Option Operation) (x : Shown) : Type 0 where
  pub position : Position
  pub position_is : IsStopPosition i stop position
  pub operation : Operation
  pub operation_is : o ≡ Some operation
  pub shown : IsShownIn text i.library position operation x

-- Of an operation from a position on, no bytes are in the text, if that declares the library.
abbrev pub IsUnshownAt : Text → Library → Position → Operation → Type 0
IsUnshownAt text library position operation = IsLibraryText text library → (x : Shown) → IsShownIn text library position operation x → ⊥

-- the bytes of an operation from a position on, if they are in the text
abbrev pub IsShownOrNot : Text → Library → Position → Operation → Option Shown → Type 0
IsShownOrNot text library position operation x = MatchOption x (IsUnshownAt text library position operation) (IsShownIn text library position operation)

-- the operation is not shown from the position of the stop on
pub record IsUnshownFrom (text : Text) (i : Inputs) (stop : FoundStop) (o : Option Operation) : Type 0 where
  pub position : Position
  pub position_is : IsStopPosition i stop position
  pub operation : Operation
  pub operation_is : o ≡ Some operation
  pub nowhere : IsUnshownAt text i.library position operation

-- No bytes are shown of an operation of a stop: the stop has no position, or there is no operation, or it is not shown.
abbrev pub IsUnshown : Text → Inputs → FoundStop → Option Operation → Type 0
IsUnshown text i stop o = HasNoPosition i stop ⊎ ((o ≡ None) ⊎ IsUnshownFrom text i stop o)

-- The bytes are those of the operation of the stop that has no value.
abbrev pub IsStopShown : Text → Inputs → FoundStop → Shown → Type 0
IsStopShown text i stop x = IsOperationShown text i stop (operation_at stop.site) x

-- The bytes are those of what is assigned.
abbrev pub IsAssignedShown : Text → Inputs → FoundStop → Shown → Type 0
IsAssignedShown text i stop x = IsOperationShown text i stop (assigned_at stop.site) x
