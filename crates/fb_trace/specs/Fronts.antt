-- Lists of lines, cut at a tick (this project's profile).
use Rattle.std.specs.Prelude.{◌≤◌, ℕ, nat_lt, if◌then◌else◌, Option, Some, None, IfSome, IfNone, List, [], ◌∷◌, ◌++◌}
use Rattle.fb_types.specs.Machines.{Each}
use Rattle.fb_types.specs.declared.run.Line.{Line}
use Rattle.fb_trace.specs.Merging.{tick_of}

-- the tick of the first line
abbrev pub tick_at : List Line → Option ℕ
tick_at [] = None
tick_at (x ∷ xs) = Some (tick_of x)

-- the lesser of two ticks, as far as they are there
abbrev pub lesser : Option ℕ → Option ℕ → Option ℕ
lesser None b = b
lesser (Some a) None = Some a
lesser (Some a) (Some b) = if nat_lt b a then Some b else Some a

-- the lines before the first that is past a tick, and the others
abbrev pub early : (tick : ℕ) → List Line → List Line
early t [] = []
early t (x ∷ xs) = if nat_lt t (tick_of x) then [] else x ∷ early t xs

abbrev pub late : (tick : ℕ) → List Line → List Line
late t [] = []
late t (x ∷ xs) = if nat_lt t (tick_of x) then x ∷ xs else late t xs

-- a list in front of others, left out if it has no line
abbrev pub before : List Line → List (List Line) → List (List Line)
before [] rest = rest
before (x ∷ xs) rest = (x ∷ xs) ∷ rest

-- the lists that have a line
abbrev pub present : List (List Line) → List (List Line)
present [] = []
present (xs ∷ rest) = before xs (present rest)

-- all lines, one list after another
abbrev pub joint : List (List Line) → List Line
joint [] = []
joint (xs ∷ rest) = xs ++ joint rest

-- the early lines of all lists, one list after another
abbrev pub all_early : (tick : ℕ) → List (List Line) → List Line
all_early t [] = []
all_early t (xs ∷ rest) = early t xs ++ all_early t rest

-- what is left of each list
abbrev pub all_late : (tick : ℕ) → List (List Line) → List (List Line)
all_late t [] = []
all_late t (xs ∷ rest) = before (late t xs) (all_late t rest)

abbrev pub BeginsFrom : (tick : ℕ) → List Line → Type 0
BeginsFrom t [] = Unit {0}
BeginsFrom t (x ∷ xs) = t ≤ tick_of x

abbrev pub IsEmpty : List Line → Type 0
IsEmpty [] = Unit {0}
IsEmpty (x ∷ xs) = ⊥

-- the least tick of all first lines, or none if no list has a line
pub record IsLeast (lists : List (List Line)) (least : Option ℕ) : Type 0 where
  pub low : IfSome least (λ t. Each (BeginsFrom t) lists)
  pub greatest : (m : ℕ) → Each (BeginsFrom m) lists → IfSome least (λ t. m ≤ t)
  pub none : IfNone least (Each IsEmpty lists)
