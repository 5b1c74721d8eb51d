-- Names, paths and ports, and how they are compared (IEC 61499-1, 5.1 and 7.1; upper case is the profile).
use Rattle.std.specs.Prelude.{ℕ, List, [], ◌∷◌, Bool, true, false, ◌&&◌, nat_eq, if◌then◌else◌}

-- A name is its bytes, in upper case.
abbrev pub Name : Type 0
Name = List ℕ

-- An instance is named by the names on the way to it. The innermost name comes first.
abbrev pub Path : Type 0
Path = List Name

-- whether two lists agree, each element with the one at its index
abbrev pub alike : {A : Type 0} → (A → A → Bool) → List A → List A → Bool
alike same [] [] = true
alike same [] (y ∷ ys) = false
alike same (x ∷ xs) [] = false
alike same (x ∷ xs) (y ∷ ys) = same x y && alike same xs ys

abbrev pub same_name : Name → Name → Bool
same_name = alike nat_eq

abbrev pub same_path : Path → Path → Bool
same_path = alike same_name

-- A port of an instance: an event, or a variable. Their names differ within a type.
pub record Port : Type 0 where
  pub at : Path
  pub name : Name

abbrev pub same_port : Port → Port → Bool
same_port p q = same_path p.at q.at && same_name p.name q.name

-- the function f, but v at the name n
abbrev pub with_value : {V : Type 0} → Name → V → (Name → V) → Name → V
with_value n v f m = if same_name m n then v else f m
