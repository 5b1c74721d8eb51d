-- Warnings as lines of text (this project's own).
use Rattle.std.specs.Prelude.{◌≡◌, ℕ, ◌/◌, ◌%◌, List, ◌++◌, codes, decimal}
use Rattle.fb_lint.specs.Numbers.{number_of}
use Rattle.fb_lint.specs.declared.warning.Warning.{Warning}

-- a number in two digits, and words
abbrev pub line_text : (number : ℕ) → (words : List ℕ) → List ℕ
line_text n words = codes "L" ++ (decimal (n / 10) ++ (decimal (n % 10) ++ (codes ": " ++ (words ++ codes "\n"))))

-- The number of the warning, and some words.
pub record IsLine (w : Warning) (line : List ℕ) : Type 0 where
  pub words : List ℕ
  pub is : line ≡ line_text (number_of w) words
