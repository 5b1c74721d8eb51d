-- How a dump is copied from a trace, line by line (this project's profile).
use Rattle.std.specs.Prelude.{◌≡◌, ◌<◌, ◌≤◌, ◌⊎◌, ℕ, ◌+◌, List, [], ◌∷◌, ◌++◌, length, map, true, IfSome, Option, Some}
use Rattle.std.specs.Io.BufRead.{take_through}
use Rattle.std.specs.Io.KnownBytes.{Appends, Consumes, IsAtEnd}
use Rattle.fb_types.specs.Systems.{System}
use Rattle.fb_types.specs.Simulation.{Ending}
use Rattle.fb_types.specs.Numbers.{line_of}
use Rattle.fb_types.specs.Text.{lines_text}
use Rattle.fb_types.specs.declared.run.Form.{Form}
use Rattle.fb_types.specs.declared.run.Line.{Line}
use Rattle.fb_trace.specs.End.{ending_of}
use Rattle.fb_trace.specs.Progress.{bounded}
use Rattle.fb_trace.specs.declared.last.Outcome.{Outcome}
use Rattle.fb_trace.specs.declared.last.Outcome.TheVariants.{End, Stop}
use Rattle.fb_wave.specs.CutOff.{cut_text}
use Rattle.fb_wave.specs.Dumps.{dump_text, last_tick}
use Rattle.fb_wave.specs.Writing.{HasShown, IsDump}
use Rattle.fb_wave.specs.Lines.{IsTextOf}
use Rattle.fb_wave.specs.Named.{HasNames}
use Rattle.fb_wave.specs.Waves.{AreLinesOf}
use Rattle.fb_wave.specs.declared.copy.Progress.{Progress}
use Rattle.fb_wave.specs.declared.error.WaveError.{WaveError}
use Rattle.fb_wave.specs.declared.current_line.CurrentLine.{CurrentLine}
use Rattle.fb_wave.specs.declared.error.WaveError.TheVariants.{Refused, Names, Memory, Read, Write}

-- what may come after a last line of that tick: a horizon after it, or a stop in it or after it
abbrev pub IsAfter : ℕ → Outcome → Type 0
IsAfter t (End h) = t < h
IsAfter t (Stop m) = t ≤ m.tick

-- ---- Refusals

-- The text is that of no line of the system from a tick on.
abbrev pub IsNoLineFrom : (sys : System) (form : Form) (tick : ℕ) → List ℕ → Type 0
IsNoLineFrom sys form t text = (l : Line) → IsTextOf sys form l text → t ≤ l.key.tick → ⊥

-- A line of that number is refused only where it is no line from the tick on.
abbrev pub RefusesLine : (sys : System) (form : Form) (tick number : ℕ) → List ℕ → WaveError → Type 0
RefusesLine sys form t number text (Refused n) = (n ≡ number) × IsNoLineFrom sys form t text
RefusesLine sys form t number text Names = ⊥
RefusesLine sys form t number text Memory = Unit {0}
RefusesLine sys form t number text Read = Unit {0}
RefusesLine sys form t number text (Write n) = Unit {0}

-- An end in the line of that number is refused only where it comes too early, and the next line only where there is one.
abbrev pub RefusesEnd : Outcome → (tick number : ℕ) → (left : Option (List ℕ)) → WaveError → Type 0
RefusesEnd end t number left (Refused n) =
    ((n ≡ number) × ¬ (IsAfter t end)) ⊎ ((n ≡ number + 1) × IsAfter t end × IfSome left (λ rest. 0 < length rest))
RefusesEnd end t number left Names = ⊥
RefusesEnd end t number left Memory = Unit {0}
RefusesEnd end t number left Read = Unit {0}
RefusesEnd end t number left (Write n) = Unit {0}

-- the line is all up to the first line feed of the text, which it has too
abbrev pub IsFirstLine : (line : List ℕ) → (text : Option (List ℕ)) → Type 0
IsFirstLine line text = IfSome text (λ bytes. line ≡ take_through 10 bytes)

-- Where an end is refused, its line is still the last one; where something comes after it, that is.
abbrev pub IsRefusedAt : Outcome → (tick number : ℕ) → (left : Option (List ℕ)) → (old new : CurrentLine) → WaveError → Type 0
IsRefusedAt end t number left old new (Refused n) =
    ((n ≡ number) × (new ≡ old) × ¬ (IsAfter t end)) ⊎ ((new.after_end ≡ true) × IsAfter t end × IsFirstLine new.text.items left)
IsRefusedAt end t number left old new Names = Unit {0}
IsRefusedAt end t number left old new Memory = Unit {0}
IsRefusedAt end t number left old new Read = Unit {0}
IsRefusedAt end t number left old new (Write n) = Unit {0}

-- the writer did not fail
abbrev pub IsNoWriteError : WaveError → Type 0
IsNoWriteError (Refused line) = Unit {0}
IsNoWriteError Names = Unit {0}
IsNoWriteError Memory = Unit {0}
IsNoWriteError Read = Unit {0}
IsNoWriteError (Write n) = ⊥

-- The text is that of a line with which a trace can go on, and the line was reported.
pub record IsTaken (sys : System) (form : Form) (text : List ℕ) (old new : Progress) : Type 0 where
  pub line : Line
  pub is : IsTextOf sys form line text
  pub rises : old.tick ≤ line.key.tick
  pub tick : new.tick ≡ line.key.tick
  pub numbers : IsDump sys new.dump
  pub kept : new.page.written ≡ old.page.written
  pub shown :
      (ls : List Line) (sent : List ℕ) → HasShown sys ls (sent ++ old.page.text.items) old.dump
      → HasShown sys (ls ++ line ∷ []) (sent ++ new.page.text.items) new.dump

-- An end can come, nothing is after it, and all that waited and the rest of the dump was sent.
pub record IsFinished (sys : System) (end : Outcome) (before : Progress) (left old new : Option (List ℕ)) : Type 0 where
  pub after : IsAfter before.tick end
  pub over : IsAtEnd left
  pub sent : List ℕ
  pub got : Appends old new sent
  pub whole :
      (ls : List Line) (front : List ℕ) → HasShown sys ls (front ++ before.page.text.items) before.dump
      → front ++ sent ≡ dump_text sys ls (ending_of end)

-- The end was reported, and the writer failed before it got all of the dump.
pub record IsCutOff (sys : System) (before : Progress) (old new : Option (List ℕ)) (written : ℕ) : Type 0 where
  pub end : Ending
  pub sent : List ℕ
  pub missing : List ℕ
  pub got : Appends old new sent
  pub short : 0 < length missing
  pub counted : written ≡ bounded (before.page.written + length sent)
  pub parts :
      (ls : List Line) (front : List ℕ) → HasShown sys ls (front ++ before.page.text.items) before.dump
      → (front ++ sent) ++ missing ≡ dump_text sys ls end

-- All that waited and the rest of the dump of a trace that is cut off was sent.
pub record IsCutFinished (sys : System) (before : Progress) (old new : Option (List ℕ)) : Type 0 where
  pub sent : List ℕ
  pub got : Appends old new sent
  pub whole :
      (ls : List Line) (front : List ℕ) → HasShown sys ls (front ++ before.page.text.items) before.dump
      → front ++ sent ≡ cut_text sys ls

-- The same, but the writer failed before it got all of it.
pub record IsCutPart (sys : System) (before : Progress) (old new : Option (List ℕ)) (written : ℕ) : Type 0 where
  pub sent : List ℕ
  pub missing : List ℕ
  pub got : Appends old new sent
  pub short : 0 < length missing
  pub counted : written ≡ bounded (before.page.written + length sent)
  pub parts :
      (ls : List Line) (front : List ℕ) → HasShown sys ls (front ++ before.page.text.items) before.dump
      → (front ++ sent) ++ missing ≡ cut_text sys ls

-- what was sent where that did not end well
abbrev pub IsCutUnfinished : System → Progress → (old new : Option (List ℕ)) → WaveError → Type 0
IsCutUnfinished sys before old new (Refused line) = ⊥
IsCutUnfinished sys before old new Names = ⊥
IsCutUnfinished sys before old new Memory = new ≡ old
IsCutUnfinished sys before old new Read = ⊥
IsCutUnfinished sys before old new (Write n) = IsCutPart sys before old new n

-- the end was not sent, or not all of it
abbrev pub IsUnfinished : System → Progress → (old new : Option (List ℕ)) → WaveError → Type 0
IsUnfinished sys before old new (Refused line) = new ≡ old
IsUnfinished sys before old new Names = new ≡ old
IsUnfinished sys before old new Memory = new ≡ old
IsUnfinished sys before old new Read = new ≡ old
IsUnfinished sys before old new (Write n) = IsCutOff sys before old new n

-- Lines of a trace were read and shown, and the next was read. A part of the dump was sent, and counted, and a part waits.
pub record IsCopied (sys : System) (form : Form) (number : ℕ) (x : Progress) (next : List ℕ) (input left old new : Option (List ℕ)) : Type 0 where
  pub lines : List Line
  pub numbered : number ≡ length lines + 1
  pub formed : HasNames sys → lines ≡ [] → (f : Form) (l : Line) → IsTextOf sys f l next → f ≡ form
  pub first : (text rest : List ℕ) → input ≡ Some text → left ≡ Some rest → next ≡ take_through 10 (next ++ rest)
  pub sent : List ℕ
  pub are : AreLinesOf sys lines
  pub last : x.tick ≡ last_tick 0 lines
  pub numbers : IsDump sys x.dump
  pub shown : HasShown sys lines (sent ++ x.page.text.items) x.dump
  pub read : Consumes input left (lines_text form sys (map (line_of sys) lines) ++ next)
  pub got : Appends old new sent
  pub counted : bounded x.page.written ≡ bounded (length sent)
