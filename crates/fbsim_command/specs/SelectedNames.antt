-- The names that `--allow` and `--deny` give, of types and instances (docs/FORMATS.md, "Program"; this project's own).
use Rattle.std.specs.Prelude.{◌≡◌, ◌⊎◌, ℕ, Bool, true, false, not, ◌||◌, List, [], ◌∷◌, ◌++◌, Option, Some, None, codes}
use Rattle.std.specs.List.{list_any}
use Rattle.clap.specs.Words.{Text}
use Rattle.fb_types.specs.Flat.{type_name}
use Rattle.fb_types.specs.Names.{Name, same_name}
use Rattle.fb_types.specs.declared.library.BlockType.{BlockType}
use Rattle.fb_types.specs.declared.library.BlockType.TheVariants.{Basic, Composite}
use Rattle.fb_types.specs.declared.library.Instance.{Instance}
use Rattle.fb_types.specs.declared.library.Library.{Library}
use Rattle.fbsim_command.specs.Nearest.{IsNearestName}
use Rattle.fbsim_command.specs.UnknownNames.{nearest_words, shown_bytes}
use Rattle.fbsim_command.specs.declared.selectors.Selector.{Selector}
use Rattle.fbsim_command.specs.declared.selectors.Sorting.{Sorting}

-- ---- What there is

-- the names of instances, each with that of its type
abbrev pub instance_names : List Instance → List Name
instance_names [] = []
instance_names (i ∷ is) = i.name ∷ i.block_type ∷ instance_names is

-- the names in the network of a composite type
abbrev pub inside_names : BlockType → List Name
inside_names (Basic b) = []
inside_names (Composite c) = instance_names c.network.instances

abbrev pub block_names : BlockType → List Name
block_names b = type_name b ∷ inside_names b

abbrev pub all_block_names : List BlockType → List Name
all_block_names [] = []
all_block_names (b ∷ bs) = block_names b ++ all_block_names bs

-- the names of all types and instances
abbrev pub names_of : Library → List Name
names_of lib = all_block_names lib.blocks ++ instance_names lib.application.network.instances

-- a type or an instance has the name
abbrev pub is_known : List Name → Name → Bool
is_known names n = list_any (same_name n) names

-- ---- Lines

-- the line for a name that an option gives and that nothing has
abbrev pub unknown_line : (option : Text) → Name → (near : Option Name) → Text
unknown_line option n near = codes "--" ++ (option ++ (codes ": there is no type or instance " ++ (shown_bytes n ++ (nearest_words near ++ codes "\n"))))

-- Nothing has the name, and the line says so. It names the first of the nearest names.
pub record IsNameLine (option : Text) (names : List Name) (n : Name) (line : Text) : Type 0 where
  pub unknown : is_known names n ≡ false
  pub near : Option Name
  pub nearest : IsNearestName names n near
  pub is : line ≡ unknown_line option n near

-- such a line is said exactly if nothing has the name
abbrev pub SaysName : (option : Text) → List Name → Name → (line : Text) → Type 0
SaysName option names n line = ((is_known names n ≡ true) × (line ≡ [])) ⊎ IsNameLine option names n line

-- the same of what an option gives, which may have no name
abbrev pub SaysOf : (option : Text) → List Name → Option Name → (line : Text) → Type 0
SaysOf option names None line = line ≡ []
SaysOf option names (Some n) line = SaysName option names n line

-- an option gives a name that nothing has
abbrev pub is_unknown : List Name → Option Name → Bool
is_unknown names None = false
is_unknown names (Some n) = not (is_known names n)

abbrev pub are_unknown : List Name → List Selector → Bool
are_unknown names selectors = list_any (λ s. is_unknown names s.about) selectors

-- the lines for all that an option gives, in their order
abbrev pub AreNameLines : (option : Text) → List Name → List Selector → (lines : Text) → Type 0
AreNameLines option names [] lines = lines ≡ []
AreNameLines option names (s ∷ ss) lines =
    (line : Text) × (rest : Text) × SaysOf option names s.about line × AreNameLines option names ss rest × (lines ≡ line ++ rest)

-- these are the lines, and whether there are some
abbrev pub SaysAll : (option : Text) → List Name → List Selector → (lines : Text) → (some : Bool) → Type 0
SaysAll option names selectors lines some = AreNameLines option names selectors lines × (some ≡ are_unknown names selectors)

-- The lines for the names that a call allows or denies and that nothing has, and whether it denies one.
pub record SaysNames (library : Library) (s : Sorting) (lines : Text) (denied : Bool) : Type 0 where
  pub allowed : Text
  pub of_allowed : AreNameLines (codes "allow") (names_of library) s.allowed.items allowed
  pub denies : Text
  pub of_denied : AreNameLines (codes "deny") (names_of library) s.denied.items denies
  pub are : lines ≡ allowed ++ denies
  pub is_denied : denied ≡ are_unknown (names_of library) s.denied.items
