-- The lines of warnings with their places (docs/FORMATS.md, "Warnings"; this project's own).
use Rattle.std.specs.Prelude.{◌≡◌, ◌⊎◌, ◌+◌, ◌&&◌, ◌||◌, ℕ, nat_le, nat_lt, Bool, false, List, [], ◌∷◌, ◌++◌, length, map, sum, take, Option, Some, None, IfSome, MatchOption, option_map, if◌then◌else◌, codes, decimal}
use Rattle.std.specs.List.{list_any}
use Rattle.clap.specs.Words.{Text}
use Rattle.fb_types.specs.Headline.{Inputs}
use Rattle.fb_types.specs.declared.deploy.Stimulus.{Stimulus}
use Rattle.fb_types.specs.declared.library.Library.{Library}
use Rattle.fb_lint.specs.Lines.{IsLine}
use Rattle.fb_lint.specs.Positions.{position_of}
use Rattle.fb_lint.specs.Warnings.{warnings}
use Rattle.fb_lint.specs.declared.warning.Warning.{Warning}
use Rattle.fb_lint.specs.declared.warning.Warning.TheVariants.{EarlyStimulus, UnusedLink, UnusedType}
use Rattle.fb_inputs.specs.declared.deploy_location.TableLocation.TheVariants as table
use Rattle.fb_inputs.specs.declared.position.DeployPosition.TheVariants as position
use Rattle.fb_inputs.specs.declared.position.StimuliPosition.TheVariants as in_stimuli
use Rattle.fb_inputs.specs.declared.position.StimuliPosition.{StimuliPosition}
use Rattle.fb_read.specs.declared.token.Span.{Span}
use Rattle.fb_read_positions.specs.Places as read
use Rattle.fb_read_positions.specs.Places.{IsStretch}
use Rattle.fb_read_positions.specs.declared.position.Position.{Position}
use Rattle.fb_read_positions.specs.Places.{IsPlaceAt, IsPlaceFor}
use Rattle.fb_read_positions.specs.Spans.{IsNowhere}
use Rattle.fb_why.specs.InputStretches.{IsDeployOutside, IsDeployPlace, IsOutside, IsSomeOutside, IsStimuliPlace}
use Rattle.fb_inputs.specs.NearSpans.{IsNearInStimuli}
use Rattle.fb_read_positions.specs.declared.places.Place.{Place}
use Rattle.fb_sim.specs.Given.{Given}
use Rattle.fb_sim.specs.Serial.{Declares}
use Rattle.fbsim_command.specs.Joining.{IsLineOf, counts, mark_at, name_at}
use Rattle.fbsim_command.specs.Shown.{shown_name}
use Rattle.fbsim_command.specs.OwnLines.{IsInNone}
use Rattle.fbsim_command.specs.Selecting.{is_selected}
use Rattle.fbsim_command.specs.SelectedNames.{SaysNames}
use Rattle.fbsim_command.specs.declared.selectors.Sorting.{Sorting}
use Rattle.fbsim_command.specs.Outcomes.{End}
use Rattle.fbsim_line.specs.declared.line.Task.{Task}
use Rattle.fbsim_command.specs.declared.call_names.Naming as code
use Rattle.fbsim_command.specs.declared.join.FileLines.{FileLines}

-- The names that a call gives to its files, and the lines of each file of the declaration, if there are several.
pub record Naming : Type 0 where
  pub types : List Text
  pub own : Text
  pub deploy : Option Text
  pub stimuli : Option Text
  pub lines : List FileLines

abbrev pub naming_of : code.Naming → Naming
naming_of n = record { types = map (λ t. t.now) n.types.now; own = n.own.now; deploy = option_map (λ d. d.now) n.deploy; stimuli = option_map (λ s. s.now) n.stimuli; lines = n.lines.now }

-- the names that a task gives
abbrev pub naming_in : (types : List Text) → Task → (lines : List FileLines) → Naming
naming_in types c lines = record { types = types; own = c.declaration.now; deploy = option_map (λ d. d.now) c.deploy; stimuli = option_map (λ s. s.now) c.stimuli; lines = lines }

-- ---- Places

-- a file, a line and a column, as editors take them
abbrev pub place_text : (name : Text) → (line column : ℕ) → Text
place_text name line column = shown_name name ++ (codes ":" ++ (decimal line ++ (codes ":" ++ (decimal column ++ codes ": "))))

-- The text has the file with this line of the whole declaration, the line in it, and the column there. A declaration in one file has its own lines.
abbrev pub IsPlaceText : Naming → (whole column : ℕ) → Text → Type 0
IsPlaceText n whole column text =
    ((file : ℕ) × (line : ℕ) × IsLineOf (counts n.lines) whole file line × (text ≡ place_text (name_at n.types n.own file) line (column + mark_at n.lines file line)))
    ⊎ (IsInNone n.lines whole × (text ≡ place_text n.own whole column))

-- The text is the place of the warning in the declaration.
pub record IsDeclaredPlace (n : Naming) (declaration : Text) (library : Library) (w : Warning) (text : Text) : Type 0 where
  pub position : Position
  pub position_is : position_of w ≡ Some position
  pub place : Place
  pub placed : IsPlaceAt declaration library position place
  pub shown : IsPlaceText n place.line place.column text

-- The text is the place of a link in the deployment.
pub record IsLinkPlace (n : Naming) (deploy : Option Text) (link : ℕ) (text : Text) : Type 0 where
  pub name : Text
  pub named : n.deploy ≡ Some name
  pub bytes : Text
  pub given : deploy ≡ Some bytes
  pub place : Place
  pub placed : IsDeployPlace bytes (position.Table (table.Link link)) place
  pub shown : text ≡ place_text name place.line place.column

-- No deployment is given, or the bytes of the link are not in it.
abbrev pub HasNoLinkPlace : Naming → (deploy : Option Text) → (link : ℕ) → Type 0
HasNoLinkPlace n deploy link =
    (n.deploy ≡ None) ⊎ (deploy ≡ None) ⊎ ((bytes : Text) × (deploy ≡ Some bytes) × IsDeployOutside bytes (position.Table (table.Link link)))

-- The place is that of the table of a link in the deployment that is given, if one is.
abbrev pub IsPlaceOfLink : (deploy : Option Text) → (link : ℕ) → Place → Type 0
IsPlaceOfLink None link at = Unit {0}
IsPlaceOfLink (Some bytes) link at = IsDeployPlace bytes (position.Table (table.Link link)) at

-- The place is that of the link, and there is none only if its bytes are not in the deployment.
abbrev pub MayBePlaceOfLink : (deploy : Option Text) → (link : ℕ) → Option Place → Type 0
MayBePlaceOfLink deploy link place = MatchOption place (IfSome deploy (λ bytes. IsDeployOutside bytes (position.Table (table.Link link)))) (IsPlaceOfLink deploy link)

-- The place is that of the link that the warning is about, if it is about one.
abbrev pub IsLinkPlaceFor : (deploy : Option Text) → Warning → Option Place → Type 0
IsLinkPlaceFor deploy w place = (link : ℕ) → w ≡ UnusedLink link → MayBePlaceOfLink deploy link place

-- The warning is about a link, and the text is the place of that.
abbrev pub IsDeploymentPlace : Naming → (deploy : Option Text) → Warning → Text → Type 0
IsDeploymentPlace n deploy w text = (link : ℕ) × (w ≡ UnusedLink link) × IsLinkPlace n deploy link text

-- ---- Rows

-- the position in the stimuli of the row that a warning is about; for another warning it is their beginning
abbrev pub row_position : Warning → StimuliPosition
row_position (EarlyStimulus row) = in_stimuli.Row row
row_position _ = in_stimuli.Start

-- The place is that of the bytes, and there is none only if they are not in the text.
abbrev pub IsPlaceNear : Text → Span → Option Place → Type 0
IsPlaceNear text span place = MatchOption place (IsOutside text span) (λ at. IsStretch span.start span.end at × read.IsPlace text at)

-- The place is that of a position in the stimuli that are given, if some are.
abbrev pub IsPlaceInRows : (stimuli : Option Text) → StimuliPosition → Place → Type 0
IsPlaceInRows None position at = Unit {0}
IsPlaceInRows (Some bytes) position at = IsStimuliPlace bytes position at

-- The bytes at the position, or at one around it, are not in the stimuli.
abbrev pub IsStimuliOutside : Text → StimuliPosition → Type 0
IsStimuliOutside text position = IsSomeOutside (IsNearInStimuli text position) text

-- The bytes at a position are not in the stimuli that are given, if some are.
abbrev pub IsOutsideRows : (stimuli : Option Text) → StimuliPosition → Type 0
IsOutsideRows stimuli position = IfSome stimuli (λ bytes. IsStimuliOutside bytes position)

-- The place is that of the position, and there is none only if its bytes are not in the stimuli.
abbrev pub MayBePlaceInRows : (stimuli : Option Text) → StimuliPosition → Option Place → Type 0
MayBePlaceInRows stimuli position place = MatchOption place (IsOutsideRows stimuli position) (IsPlaceInRows stimuli position)

-- The place is that of the row that the warning is about.
abbrev pub IsRowPlaceFor : (stimuli : Option Text) → Warning → Option Place → Type 0
IsRowPlaceFor stimuli w place = MayBePlaceInRows stimuli (row_position w) place

-- The text is the place of a row of the stimuli.
pub record IsRowPlace (n : Naming) (stimuli : Option Text) (row : ℕ) (text : Text) : Type 0 where
  pub name : Text
  pub named : n.stimuli ≡ Some name
  pub bytes : Text
  pub given : stimuli ≡ Some bytes
  pub place : Place
  pub placed : IsStimuliPlace bytes (in_stimuli.Row row) place
  pub shown : text ≡ place_text name place.line place.column

-- No stimuli are given, or the bytes of the row are not in them.
abbrev pub HasNoRowPlace : Naming → (stimuli : Option Text) → (row : ℕ) → Type 0
HasNoRowPlace n stimuli row =
    (n.stimuli ≡ None) ⊎ (stimuli ≡ None) ⊎ ((bytes : Text) × (stimuli ≡ Some bytes) × IsStimuliOutside bytes (in_stimuli.Row row))

-- The warning is about a row, and the text is the place of that.
abbrev pub IsStimulusPlace : Naming → (stimuli : Option Text) → Warning → Text → Type 0
IsStimulusPlace n stimuli w text = (row : ℕ) × (w ≡ EarlyStimulus row) × IsRowPlace n stimuli row text

-- What the warning is about has no place.
abbrev pub IsUnplaced : Naming → Given → Library → Warning → Type 0
IsUnplaced n given library w =
    ((link : ℕ) × (w ≡ UnusedLink link) × HasNoLinkPlace n given.deploy link)
    ⊎ ((row : ℕ) × (w ≡ EarlyStimulus row) × HasNoRowPlace n given.stimuli row)
    ⊎ ((position : Position) × (position_of w ≡ Some position) × IsNowhere given.declaration library position)

-- the place of a warning, or nothing where it has none
abbrev pub IsPlace : Naming → Given → Library → Warning → Text → Type 0
IsPlace n given library w text =
    IsDeclaredPlace n given.declaration library w text ⊎ IsDeploymentPlace n given.deploy w text ⊎ IsStimulusPlace n given.stimuli w text ⊎ (IsUnplaced n given library w × (text ≡ []))

-- ---- Lines

-- The place, if it is known, and then the number and words.
pub record IsPlacedLine (n : Naming) (given : Given) (library : Library) (w : Warning) (line : Text) : Type 0 where
  pub place : Text
  pub is_place : IsPlace n given library w place
  pub words : Text
  pub is_line : IsLine w words
  pub is : line ≡ place ++ words

-- ---- Those that are left out

-- this line of the whole declaration is in a file of block types
abbrev pub is_in_types : Naming → (whole : ℕ) → Bool
is_in_types n whole = nat_lt 0 whole && nat_le whole (sum (take (length n.types) (counts n.lines)))

-- the warning is about a type without instances whose place is in a file of block types, which other declarations may use
abbrev pub is_of_types : Naming → Warning → Option Place → Bool
is_of_types n (UnusedType block) (Some at) = is_in_types n at.line
is_of_types n (UnusedType block) None = false
is_of_types n _ at = false

-- the warning is left out: it is allowed, or the fault of no declaration
abbrev pub is_left_out : Naming → Sorting → Library → List Stimulus → Warning → Option Place → Bool
is_left_out n s library stimuli w at = is_selected s.allowed.items library stimuli w || is_of_types n w at

-- this line is added
abbrev pub IsAdded : Naming → Given → Library → Warning → (old new : Text) → Type 0
IsAdded n given library w old new = (line : Text) × IsPlacedLine n given library w line × (new ≡ old ++ line)

-- a line for each warning, in their order
abbrev pub AreLines : Naming → Given → Library → List Warning → Text → Type 0
AreLines n given library [] text = text ≡ []
AreLines n given library (w ∷ ws) text =
    (line : Text) × (rest : Text) × IsPlacedLine n given library w line × AreLines n given library ws rest × (text ≡ line ++ rest)

-- These of the warnings are not left out, in their order. A place is that at which the text of the declaration has the warning.
abbrev pub AreKept : Naming → Given → Sorting → Library → List Stimulus → List Warning → (kept : List Warning) → Type 0
AreKept n given s library stimuli [] kept = kept ≡ []
AreKept n given s library stimuli (w ∷ ws) kept =
    (at : Option Place) × (rest : List Warning) × IsPlaceFor given.declaration library (position_of w) at × AreKept n given s library stimuli ws rest
    × (kept ≡ (if is_left_out n s library stimuli w at then rest else w ∷ rest))

-- a warning is denied
abbrev pub are_denied : Sorting → Library → List Stimulus → List Warning → Bool
are_denied s library stimuli kept = list_any (is_selected s.denied.items library stimuli) kept

-- These are the lines of the warnings that are not left out, and whether one of them is denied.
pub record AreSorted (n : Naming) (given : Given) (s : Sorting) (library : Library) (stimuli : List Stimulus) (ws : List Warning) (reports : Text) (denied : Bool) : Type 0 where
  pub kept : List Warning
  pub are_kept : AreKept n given s library stimuli ws kept
  pub lines : AreLines n given library kept reports
  pub is_denied : denied ≡ are_denied s library stimuli kept

-- These are the lines of such warnings, and after them those for names that the call allows or denies and that nothing has; and
-- whether a warning or such a name is denied.
pub record AreReported (n : Naming) (given : Given) (s : Sorting) (library : Library) (stimuli : List Stimulus) (ws : List Warning) (reports : Text) (denied : Bool) : Type 0 where
  pub lines : Text
  pub has_denied : Bool
  pub sorted : AreSorted n given s library stimuli ws lines has_denied
  pub names : Text
  pub denies_unknown : Bool
  pub says : SaysNames library s names denies_unknown
  pub are : reports ≡ lines ++ names
  pub is_denied : denied ≡ (has_denied || denies_unknown)

-- The inputs are accepted, and these are the lines that are reported of them, and whether something is denied.
pub record AreWarnings (n : Naming) (given : Given) (s : Sorting) (reports : Text) (denied : Bool) : Type 0 where
  pub inputs : Inputs
  pub declared : Declares given inputs
  pub reported : AreReported n given s inputs.library inputs.stimuli (warnings inputs.library inputs.plan inputs.stimuli) reports denied
