-- What comes of a trace: its dump, or a refusal (this project's profile).
use Rattle.std.specs.Prelude.{◌≡◌, ◌<◌, ◌≤◌, ℕ, List, [], ◌∷◌, ◌++◌, map, All, Option}
use Rattle.std.specs.Io.KnownBytes.{Appends}
use Rattle.fb_types.specs.Systems.{System}
use Rattle.fb_types.specs.Simulation.{Ending, AtHorizon, AtStop}
use Rattle.fb_types.specs.Numbers.{line_of}
use Rattle.fb_types.specs.Text.{trace_text}
use Rattle.fb_types.specs.declared.run.Form.{Form}
use Rattle.fb_types.specs.declared.run.Line.{Line}
use Rattle.fb_trace.specs.Progress.{IsPartWritten}
use Rattle.fb_wave.specs.Dumps.{dump_text, last_tick}
use Rattle.fb_wave.specs.Lines.{IsEndOf, IsLineOf}
use Rattle.fb_wave.specs.declared.error.WaveError.{WaveError}
use Rattle.fb_wave.specs.declared.error.WaveError.TheVariants.{Refused, Names, Memory, Read, Write}

-- ---- Traces

-- From a tick on, the ticks do not fall.
abbrev pub RiseFrom : ℕ → List Line → Type 0
RiseFrom t [] = Unit {0}
RiseFrom t (l ∷ ls) = (t ≤ l.key.tick) × RiseFrom l.key.tick ls

-- What may come after a last line of that tick: a horizon after it, or a stop in it or after it.
abbrev pub EndsAfter : ℕ → Ending → Type 0
EndsAfter t (AtHorizon h) = t < h
EndsAfter t (AtStop k r reason) = t ≤ k

-- Lines that a trace of the system can begin with.
pub record AreLinesOf (sys : System) (ls : List Line) : Type 0 where
  pub each : All (IsLineOf sys) ls
  pub rise : RiseFrom 0 ls

-- The text is a trace of the system, in this form: that of these lines and this end.
pub record IsTraceOf (sys : System) (form : Form) (text : List ℕ) (ls : List Line) (end : Ending) : Type 0 where
  pub lines : AreLinesOf sys ls
  pub last : IsEndOf sys end
  pub ends : EndsAfter (last_tick 0 ls) end
  pub is : text ≡ trace_text form sys (map (line_of sys) ls) end

-- ---- Outcomes

-- The text is a trace of the system, and the writer got its dump.
pub record IsWave (sys : System) (text : List ℕ) (old new : Option (List ℕ)) : Type 0 where
  pub form : Form
  pub lines : List Line
  pub end : Ending
  pub trace : IsTraceOf sys form text lines end
  pub got : Appends old new (dump_text sys lines end)

-- ---- Beginnings

-- The bytes are the first of the dump of these lines and of some end.
pub record IsBegun (sys : System) (ls : List Line) (bytes : List ℕ) : Type 0 where
  pub end : Ending
  pub rest : List ℕ
  pub parts : bytes ++ rest ≡ dump_text sys ls end

-- A writer got the first bytes of a dump of lines that a trace of the system can begin with.
pub record WritesFront (sys : System) (old new : Option (List ℕ)) : Type 0 where
  pub bytes : List ℕ
  pub got : Appends old new bytes
  pub lines : List Line
  pub are : AreLinesOf sys lines
  pub begun : IsBegun sys lines bytes

-- A writer got the first bytes of such a dump, but not all, and `written` is how many.
pub record WritesPart (sys : System) (old new : Option (List ℕ)) (written : ℕ) : Type 0 where
  pub lines : List Line
  pub end : Ending
  pub are : AreLinesOf sys lines
  pub got : IsPartWritten old new (dump_text sys lines end) written

-- what the writer got where there is no dump, or no whole one
abbrev pub FailsWave : System → (old new : Option (List ℕ)) → WaveError → Type 0
FailsWave sys old new (Refused line) = WritesFront sys old new
FailsWave sys old new Names = WritesFront sys old new
FailsWave sys old new Memory = WritesFront sys old new
FailsWave sys old new Read = WritesFront sys old new
FailsWave sys old new (Write n) = WritesPart sys old new n
