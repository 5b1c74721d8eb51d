-- Which warnings a call leaves out, and which it denies (docs/FORMATS.md, "Warnings"; this project's own).
use Rattle.std.specs.Prelude.{◌≡◌, ◌⊎◌, ◌<◌, ℕ, ◌+◌, ◌*◌, ◌-◌, ◌==◌, nat_lt, Bool, true, false, not, ◌&&◌, ◌||◌, List, [], ◌∷◌, ◌++◌, map, Option, Some, None, if◌then◌else◌, codes, string_bytes}
use Rattle.std.specs.Borrow.{Bor}
use Rattle.std.specs.Char.{is_ascii_digit, to_ascii_lowercase}
use Rattle.std.specs.List.{list_any}
use Rattle.clap.specs.Words.{Text}
use Rattle.fb_types.specs.Names.{Name}
use Rattle.fb_types.specs.declared.deploy.Stimulus.{Stimulus}
use Rattle.fb_types.specs.declared.library.Library.{Library}
use Rattle.fb_inputs.specs.Words.{name}
use Rattle.fb_lint.specs.Numbers.{number_of as warning_number}
use Rattle.fb_lint.specs.Subjects.{is_about}
use Rattle.fb_lint.specs.declared.warning.Warning.{Warning}
use Rattle.fbsim_line.specs.declared.levels.Levels.{Levels}
use Rattle.fbsim_command.specs.declared.failure.Failure.{Failure}
use Rattle.fbsim_command.specs.declared.failure.Failure.TheVariants.{Refused, RefusedTrace, File, Write, Memory, Line, BadOption}
use Rattle.fbsim_command.specs.declared.selectors.Selector.{Selector}
use Rattle.fbsim_command.specs.declared.selectors.Sorting.{Sorting}
use Rattle.fbsim_command.specs.declared.selectors.Which.{Which}
use Rattle.fbsim_command.specs.declared.selectors.Which.TheVariants.{All, Number}

-- ---- Texts

-- three bytes are the word `all`, in any letter case
abbrev pub is_all : (first second third : ℕ) → Bool
is_all first second third = to_ascii_lowercase first == 97 && (to_ascii_lowercase second == 108 && to_ascii_lowercase third == 108)

abbrev pub value_of : (tens ones : ℕ) → ℕ
value_of tens ones = (tens - 48) * 10 + (ones - 48)

-- there are warnings of this number
abbrev pub is_number : ℕ → Bool
is_number n = not (n == 0 || nat_lt 23 n)

abbrev pub number_of : (tens ones : ℕ) → Option ℕ
number_of tens ones =
    if is_ascii_digit tens && is_ascii_digit ones then (if is_number (value_of tens ones) then Some (value_of tens ones) else None) else None

abbrev pub numbered : Option ℕ → Option Which
numbered (Some n) = Some (Number n)
numbered None = None

-- the warnings that three bytes name: `all`, or a number such as `L06`, in any letter case
abbrev pub which_of : (first second third : ℕ) → Option Which
which_of first second third =
    if is_all first second third then Some All
    else (if to_ascii_lowercase first == 108 then numbered (number_of second third) else None)

abbrev pub named : Which → Option Name → Option Selector
named which (Some n) = Some (record { which = which; about = Some n })
named which None = None

-- after the number comes nothing, or a colon and a name
abbrev pub with_about : Which → Text → Option Selector
with_about which [] = Some (record { which = which; about = None })
with_about which (mark ∷ []) = None
with_about which (mark ∷ c ∷ rest) = if mark == 58 then named which (name (c ∷ rest)) else None

abbrev pub selected_by : Option Which → Text → Option Selector
selected_by (Some which) rest = with_about which rest
selected_by None rest = None

-- the warnings that a text names, if it names some
abbrev pub selector_of : Text → Option Selector
selector_of (first ∷ second ∷ third ∷ rest) = selected_by (which_of first second third) rest
selector_of (first ∷ second ∷ []) = None
selector_of (first ∷ []) = None
selector_of [] = None

-- these warnings are those that texts name
abbrev pub AreSelectors : List Text → List Selector → Type 0
AreSelectors texts selectors = map selector_of texts ≡ map Some selectors

-- what is reported of a text that names no warning
abbrev pub no_warning : Text → Text
no_warning text = codes "error: no warning is called " ++ (text ++ codes "\n")

abbrev pub IsUnknown : Text → Failure → Type 0
IsUnknown text (Line message) = string_bytes message ≡ no_warning text
IsUnknown text Memory = Unit {0}
IsUnknown text _ = ⊥

-- One of the texts names no warning, or memory ran out.
abbrev pub AreUnknown : List Text → Failure → Type 0
AreUnknown texts (Line message) =
    (text : Text) × (before : List Text) × (after : List Text) × (texts ≡ before ++ text ∷ after) × (selector_of text ≡ None) × (string_bytes message ≡ no_warning text)
AreUnknown texts Memory = Unit {0}
AreUnknown texts (Refused refusal) = ⊥
AreUnknown texts (RefusedTrace text) = ⊥
AreUnknown texts File = ⊥
AreUnknown texts (Write n) = ⊥
AreUnknown texts BadOption = ⊥

abbrev pub texts_of : List (Bor Text) → List Text
texts_of = map (λ t. t.now)

-- what a call says of warnings
pub record IsSorting (l : Levels) (s : Sorting) : Type 0 where
  pub allowed : AreSelectors (texts_of l.allow.items) s.allowed.items
  pub denied : AreSelectors (texts_of l.deny.items) s.denied.items

abbrev pub IsUnsorted : Levels → Failure → Type 0
IsUnsorted l failure = AreUnknown (texts_of l.allow.items) failure ⊎ AreUnknown (texts_of l.deny.items) failure

-- ---- Warnings

abbrev pub is_which : Which → Warning → Bool
is_which All w = true
is_which (Number n) w = n == warning_number w

abbrev pub is_subject : Option Name → Library → List Stimulus → Warning → Bool
is_subject None library stimuli w = true
is_subject (Some name) library stimuli w = is_about library stimuli w name

-- a warning is of a number and about a name, where these are given
abbrev pub has : Selector → Library → List Stimulus → Warning → Bool
has s library stimuli w = is_which s.which w && is_subject s.about library stimuli w

abbrev pub is_selected : List Selector → Library → List Stimulus → Warning → Bool
is_selected selectors library stimuli w = list_any (λ s. has s library stimuli w) selectors
