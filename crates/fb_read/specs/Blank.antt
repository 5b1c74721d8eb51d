-- Blanks and comments, which are between tokens.
use Rattle.std.specs.Prelude.{ℕ, Bool, true, false, ◌&&◌, ◌||◌, if◌then◌else◌, ◌==◌, List, [], ◌∷◌, Option, Some, None, slice_index}
use Rattle.fb_read.specs.declared.blank.BlankState.{BlankState}
use Rattle.fb_read.specs.declared.blank.BlankState.TheVariants.{Between, Opening, Inside, Closing, Line}

abbrev pub Text : Type 0
Text = List ℕ

-- the byte at an index, or 0 past the end
abbrev pub at : Text → ℕ → ℕ
at = slice_index

abbrev pub start : BlankState
start = Between

abbrev pub is_blank : ℕ → Bool
is_blank b = b == 32 || (b == 9 || (b == 13 || b == 10))

-- the position after a byte, by the byte after it; None if a token begins
abbrev pub step : BlankState → ℕ → ℕ → Option BlankState
step Between b next =
    if is_blank b then Some Between else (if b == 40 && next == 42 then Some Opening else (if b == 47 && next == 47 then Some Line else None))
step Opening b next = Some Inside
step Inside b next = if b == 42 && next == 41 then Some Closing else Some Inside
step Closing b next = Some Between
step Line b next = if b == 10 then Some Between else Some Line

-- a text may end here
abbrev pub may_end : BlankState → Bool
may_end Between = true
may_end Opening = false
may_end Inside = false
may_end Closing = false
may_end Line = true

abbrev pub stepped : (BlankState → Option Text) → Text → Option BlankState → Option Text
stepped go here None = Some here
stepped go here (Some state) = go state

-- the text from its next token on; None if a comment isn't closed
unfoldable pub skip : BlankState → Text → Option Text
skip state [] = if may_end state then Some [] else None
skip state (b ∷ bs) = stepped (λ next. skip next bs) (b ∷ bs) (step state b (at bs 0))
