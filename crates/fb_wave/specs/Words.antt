-- The words of a line of a trace (this project's profile).
use Rattle.std.specs.Prelude.{◌≡◌, ℕ, List, [], ◌∷◌, ◌++◌, Bool, true, false, not, ◌||◌, ◌==◌, length}
use Rattle.std.specs.List.{list_all}

-- a blank or a line feed
abbrev pub is_end : ℕ → Bool
is_end b = (b == 32) || (b == 10)

-- a text without these
abbrev pub is_word : List ℕ → Bool
is_word text = list_all (λ b. not (is_end b)) text

-- a text that begins with one of these
abbrev pub is_ended : List ℕ → Bool
is_ended [] = false
is_ended (b ∷ bs) = is_end b

-- three words with a blank between each two, as a line has them of its port
abbrev pub three : (one two three : List ℕ) → List ℕ
three u v w = u ++ 32 ∷ (v ++ 32 ∷ w)

-- A text begins with three words.
pub record AreThree (text u v w rest : List ℕ) : Type 0 where
  pub parts : text ≡ three u v w ++ rest
  pub one : is_word u ≡ true
  pub two : is_word v ≡ true
  pub last : is_word w ≡ true
  pub ended : is_ended rest ≡ true

-- A text begins with three words, of this length.
pub record HasThree (text : List ℕ) (size : ℕ) : Type 0 where
  pub u : List ℕ
  pub v : List ℕ
  pub w : List ℕ
  pub rest : List ℕ
  pub are : AreThree text u v w rest
  pub long : size ≡ length (three u v w)

abbrev pub HasNoThree : List ℕ → Type 0
HasNoThree text = (u v w rest : List ℕ) → AreThree text u v w rest → ⊥

-- A text is a word and what comes after it.
pub record IsCut (text word rest : List ℕ) : Type 0 where
  pub parts : text ≡ word ++ rest
  pub whole : is_word word ≡ true
  pub ended : is_ended rest ≡ true
