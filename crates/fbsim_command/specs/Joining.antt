-- A declaration in several files (docs/FORMATS.md, "Declarations in several files"; this project's own): its text, and which line
-- of it is in which file.
use Rattle.std.specs.Prelude.{◌≡◌, ℕ, ◌+◌, ◌-◌, ◌<◌, ◌≤◌, Bool, true, false, if◌then◌else◌, ◌==◌, ◌&&◌, nat_lt, List, [], ◌∷◌, ◌++◌, length, map, take, Option, Some, None, slice_get, slice_index, slice_index_or, sum, sum_by, count_by}
use Rattle.fb_read.specs.Tokens.{after_mark}
use Rattle.fb_read.specs.Whole.{most_bytes}
use Rattle.clap.specs.Words.{Text}
use Rattle.fbsim_command.specs.declared.join.FileLines.{FileLines}
use Rattle.fbsim_command.specs.declared.join.Within.{Within}
use Rattle.fbsim_command.specs.declared.join.Within.TheVariants.{Tokens, Opening, Comment, Closing, Line}

-- the byte at an index, or 0 past the end
abbrev pub byte_at : Text → ℕ → ℕ
byte_at = slice_index

-- ---- Comments

-- what follows a byte that is in this, by the byte after it
abbrev pub beyond : Within → ℕ → ℕ → Within
beyond Tokens b next = if b == 40 && next == 42 then Opening else (if b == 47 && next == 47 then Line else Tokens)
beyond Opening b next = Comment
beyond Comment b next = if b == 42 && next == 41 then Closing else Comment
beyond Closing b next = Tokens
beyond Line b next = if b == 10 then Tokens else Line

-- a text that ends in this leaves a comment open
abbrev pub leaves_open : Within → Bool
leaves_open Tokens = false
leaves_open Opening = true
leaves_open Comment = true
leaves_open Closing = true
leaves_open Line = false

-- whether a comment that `(*` begins is open at the end of a text
unfoldable pub is_open_from : Within → Text → Bool
is_open_from within [] = leaves_open within
is_open_from within (b ∷ bs) = is_open_from (beyond within b (byte_at bs 0)) bs

abbrev pub is_open : Text → Bool
is_open text = is_open_from Tokens text

-- ---- One text

-- the texts after the first one: a line feed before each, and no byte order mark
abbrev pub joined_behind : List Text → Text
joined_behind [] = []
joined_behind (t ∷ ts) = 10 ∷ after_mark t ++ joined_behind ts

-- texts as one
abbrev pub joined : List Text → Text
joined [] = []
joined (t ∷ ts) = t ++ joined_behind ts

-- the texts up to the first one that leaves a comment open
abbrev pub up_to_open : List Text → List Text
up_to_open [] = []
up_to_open (t ∷ ts) = t ∷ (if is_open t then [] else up_to_open ts)

-- The text of a declaration in several files. No later text closes a comment, so after one that is open there is nothing; but
-- a text that is too long is so for all files.
abbrev pub text_of : List Text → Text
text_of ts = if nat_lt most_bytes (length (joined ts)) then joined ts else joined (up_to_open ts)

-- ---- Lines

-- how many lines a text has
abbrev pub line_count : Text → ℕ
line_count t = 1 + count_by (λ b. b == 10) t

-- The lines of files: of the first one the whole has every byte, and of the others it leaves out a byte order mark.
abbrev pub lines_of_first : Text → FileLines
lines_of_first t = record { count = line_count t; mark = 0 }

abbrev pub lines_behind : Text → FileLines
lines_behind t = record { count = line_count t; mark = length t - length (after_mark t) }

abbrev pub lines_of_files : List Text → List FileLines
lines_of_files [] = []
lines_of_files (t ∷ ts) = lines_of_first t ∷ map lines_behind ts

-- how many lines each file has
abbrev pub counts : List FileLines → List ℕ
counts lines = map (λ l. l.count) lines

-- how many bytes the whole leaves out at the beginning of this line of this file
abbrev pub mark_in : FileLines → (own : ℕ) → ℕ
mark_in l own = if own == 1 then l.mark else 0

abbrev pub mark_of : Option FileLines → (own : ℕ) → ℕ
mark_of None own = 0
mark_of (Some l) own = mark_in l own

abbrev pub mark_at : List FileLines → (file own : ℕ) → ℕ
mark_at lines file own = mark_of (slice_get lines file) own

-- This line of the whole, of files that have this many lines each, is this line of this file. Files are counted from 0, lines from 1.
pub record IsLineOf (lines : List ℕ) (whole file own : ℕ) : Type 0 where
  pub there : file < length lines
  pub first : 1 ≤ own
  pub last : own ≤ slice_index lines file
  pub sum_is : sum (take file lines) + own ≡ whole

-- the name of this file: of those before the declaration's own, or else that
abbrev pub name_at : (types : List Text) → (own : Text) → (file : ℕ) → Text
name_at types own file = slice_index_or types file own

-- ---- Where the bytes of a file are in the whole

-- what of each file is in the whole: all of the first, and of the others what follows their byte order mark
abbrev pub parts : List Text → List Text
parts [] = []
parts (t ∷ ts) = t ∷ map after_mark ts

-- the line of the byte at an offset, counted from 1 by line feeds
abbrev pub line_at : Text → ℕ → ℕ
line_at t k = line_count (take k t)

-- the offset in the whole of a byte of a file's part, by its offset there: after the parts before, with a line feed after each
abbrev pub offset_of : List Text → (file byte : ℕ) → ℕ
offset_of ts file byte = sum_by (λ p. length p + 1) (take file (parts ts)) + byte

-- The line of a byte in the whole and its line in its own file belong together.
abbrev pub LinesAgree : Type 0
LinesAgree = (ts : List Text) (file byte : ℕ) → file < length ts → byte ≤ length (slice_index_or (parts ts) file [])
    → IsLineOf (map line_count ts) (line_at (joined ts) (offset_of ts file byte)) file (line_at (slice_index_or (parts ts) file []) byte)
