-- The keywords by the letters that they begin with (this project's own).
use Rattle.std.specs.Prelude.{ℕ, [], ◌∷◌, ◌++◌, if◌then◌else◌, nat_eq}
use Rattle.fb_read.specs.Blank.{at}
use Rattle.fb_read.specs.Words.{Table, block_words, section_words, type_words, statement_words, loop_words, operator_words}

-- all keywords
abbrev pub from_loops : Table
from_loops = loop_words ++ operator_words

abbrev pub from_statements : Table
from_statements = statement_words ++ from_loops

abbrev pub from_types : Table
from_types = type_words ++ from_statements

abbrev pub from_sections : Table
from_sections = section_words ++ from_types

abbrev pub all_words : Table
all_words = block_words ++ from_sections

-- the words that begin with a byte
abbrev pub group : ℕ → Table → Table
group b [] = []
group b (k ∷ t) = if nat_eq (at k.0 0) b then k ∷ group b t else group b t
