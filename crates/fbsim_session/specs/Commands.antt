-- What the lines of a session ask for (docs/FORMATS.md, "A session"; this project's profile).
use Rattle.std.specs.Prelude.{ℕ, ◌^◌, ◌≤◌, ◌&&◌, ◌==◌, Bool, List, [], ◌∷◌, Option, Some, None, codes, if◌then◌else◌, nat_le, nat_lt}
use Rattle.std.specs.Str.{bytes_eq}
use Rattle.fb_inputs.specs.Numbers.{natural}
use Rattle.fb_inputs.specs.Words.{Text, parted}
use Rattle.fbsim_session.specs.declared.command.Command.{Command}
use Rattle.fbsim_session.specs.declared.command.Command.TheVariants as command
use Rattle.fbsim_session.specs.declared.command.Usage.{Usage}
use Rattle.fbsim_session.specs.declared.command.Usage.TheVariants as usage

-- What a line asks for, by its texts.
pub data Asked : Type 0 where
  Give : (tick event values : Text) → Asked
  Until : ℕ → Asked
  Next : Asked
  Break : Text → Asked
  Clear : ℕ → Asked
  Show : Text → Asked
  Peek : Asked
  End : ℕ → Asked
  Help : Asked
  Wrong : Usage → Asked

-- a command as what it asks for
abbrev pub asked_of : Command → Asked
asked_of (command.Give t e v) = Give t.now e.now v.now
asked_of (command.Until t) = Until t
asked_of command.Next = Next
asked_of (command.Break p) = Break p.now
asked_of (command.Clear n) = Clear n
asked_of (command.Show p) = Show p.now
asked_of command.Peek = Peek
asked_of (command.End t) = End t
asked_of command.Help = Help
asked_of (command.Wrong u) = Wrong u

-- ---- Words

-- a text without the blanks at its beginning
abbrev pub after_blanks : Text → Text
after_blanks [] = []
after_blanks (b ∷ bs) = if b == 32 then after_blanks bs else b ∷ bs

-- a byte before a text, unless it is a blank and nothing follows
abbrev pub before_text : ℕ → Text → Text
before_text b [] = if b == 32 then [] else b ∷ []
before_text b (c ∷ cs) = b ∷ c ∷ cs

-- a text without the blanks at its end
abbrev pub before_blanks : Text → Text
before_blanks [] = []
before_blanks (b ∷ bs) = before_text b (before_blanks bs)

abbrev pub without_blanks : Text → Text
without_blanks z = before_blanks (after_blanks z)

-- the first word, up to a blank, and what comes after it and its blanks
abbrev pub words_by : Text → Option (Text × Text) → Text × Text
words_by z None = (z, [])
words_by z (Some p) = (p.0, without_blanks p.1)

abbrev pub word_and_rest : Text → Text × Text
word_and_rest z = words_by z (parted 32 z)

-- a tick that a session may go to
abbrev pub tick_by : Option ℕ → Option ℕ
tick_by None = None
tick_by (Some t) = if nat_lt 0 t && nat_le t (10 ^ 12) then Some t else None

abbrev pub tick_of : Text → Option ℕ
tick_of word = tick_by (natural word)

-- ---- Commands

-- a command if nothing comes after its word
abbrev pub alone : (rest : Text) → Asked → Usage → Asked
alone [] c u = c
alone (b ∷ bs) c u = Wrong u

abbrev pub with_tick : Option ℕ → (ℕ → Asked) → Usage → Asked
with_tick None c u = Wrong u
with_tick (Some t) c u = c t

-- a row by its fields: two words, and the rest
abbrev pub give_by : (tick event values : Text) → Asked
give_by t [] v = Wrong usage.Give
give_by t (b ∷ bs) v = Give t (b ∷ bs) v

abbrev pub give_of : Text → Asked
give_of rest = let t = word_and_rest rest in let e = word_and_rest t.1 in give_by t.0 e.0 e.1

abbrev pub clear_by : Option ℕ → Asked
clear_by None = Wrong usage.Clear
clear_by (Some n) = if nat_lt n (2 ^ 64) then Clear n else Wrong usage.Clear

abbrev pub clear_of : Text → Asked
clear_of rest = clear_by (natural rest)

abbrev pub break_of : Text → Asked
break_of [] = Wrong usage.Break
break_of (b ∷ bs) = Break (b ∷ bs)

abbrev pub show_by : (path more : Text) → Asked
show_by [] more = Wrong usage.Show
show_by (b ∷ bs) more = alone more (Show (b ∷ bs)) usage.Show

abbrev pub show_of : Text → Asked
show_of rest = let w = word_and_rest rest in show_by w.0 w.1

-- the kind of command that a word names
unfoldable pub usage_of : Text → Usage
usage_of w =
    if bytes_eq w (codes "give") then usage.Give
    else if bytes_eq w (codes "until") then usage.Until
    else if bytes_eq w (codes "end") then usage.End
    else if bytes_eq w (codes "next") then usage.Next
    else if bytes_eq w (codes "peek") then usage.Peek
    else if bytes_eq w (codes "help") then usage.Help
    else if bytes_eq w (codes "break") then usage.Break
    else if bytes_eq w (codes "clear") then usage.Clear
    else if bytes_eq w (codes "show") then usage.Show
    else usage.Any

-- the command of a kind, with what comes after its word
abbrev pub command_by : Usage → (rest : Text) → Asked
command_by usage.Any rest = Wrong usage.Any
command_by usage.Give rest = give_of rest
command_by usage.Until rest = with_tick (tick_of rest) Until usage.Until
command_by usage.Next rest = alone rest Next usage.Next
command_by usage.Break rest = break_of rest
command_by usage.Clear rest = clear_of rest
command_by usage.Show rest = show_of rest
command_by usage.Peek rest = alone rest Peek usage.Peek
command_by usage.End rest = with_tick (tick_of rest) End usage.End
command_by usage.Help rest = alone rest Help usage.Help

-- The command of a line without its end.
abbrev pub command_of : Text → Asked
command_of line = let w = word_and_rest (without_blanks line) in command_by (usage_of w.0) w.1

-- the ticks of a command are at most the greatest one
abbrev pub IsWithin : Command → Type 0
IsWithin (command.Give t e v) = Unit {0}
IsWithin (command.Until t) = t ≤ 10 ^ 12
IsWithin command.Next = Unit {0}
IsWithin (command.Break t) = Unit {0}
IsWithin (command.Clear n) = Unit {0}
IsWithin (command.Show p) = Unit {0}
IsWithin command.Peek = Unit {0}
IsWithin (command.End t) = t ≤ 10 ^ 12
IsWithin command.Help = Unit {0}
IsWithin (command.Wrong u) = Unit {0}
