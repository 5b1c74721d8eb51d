-- How the words of a call are understood where standard error is a terminal (docs/FORMATS.md, "Program"; this project's own).
use Rattle.std.specs.Prelude.{Bool, not, ◌&&◌, ◌||◌, List, [], ◌∷◌, ◌++◌, drop, get_or, take, if◌then◌else◌, codes}
use Rattle.std.specs.List.{list_any}
use Rattle.std.specs.Str.{bytes_eq}
use Rattle.clap.specs.Words.{Text}

-- the commands that take `--why`
abbrev pub takers : List Text
takers = codes "run" ∷ codes "check" ∷ codes "wave" ∷ codes "expect" ∷ codes "diff" ∷ codes "draw" ∷ codes "inspect" ∷ codes "coverage" ∷ []

abbrev pub takes_why : (name : Text) → Bool
takes_why name = list_any (λ taker. bytes_eq taker name) takers

-- a word asks for the locations of a refusal, or for none
abbrev pub has_answer : List Text → Bool
has_answer words = list_any (λ w. bytes_eq w (codes "--why")) words || list_any (λ w. bytes_eq w (codes "--no-why")) words

-- the command, the second word, takes `--why`, and the words say nothing of it
abbrev pub lacks_why : List Text → Bool
lacks_why words = takes_why (get_or words 1 []) && not (has_answer words)

-- The words with `--why` after the name of the command, where it is missing.
abbrev pub on_terminal : List Text → List Text
on_terminal words = take 2 words ++ ((if lacks_why words then codes "--why" ∷ [] else []) ++ drop 2 words)
