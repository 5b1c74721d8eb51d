-- The value change dump of the lines of a trace (IEEE 1364-2005, 18.2; what a dump shows of a trace is this project's profile).
use Rattle.std.specs.Prelude.{ℕ, ◌==◌, List, [], ◌∷◌, ◌++◌, if◌then◌else◌, slice_index_or, codes}
use Rattle.fb_types.specs.Names.{Name}
use Rattle.fb_types.specs.Systems.{System}
use Rattle.fb_types.specs.Simulation.{Ending, AtHorizon, AtStop}
use Rattle.fb_types.specs.Text.{reason_text}
use Rattle.fb_types.specs.declared.run.Line.{Line}
use Rattle.fb_types.specs.declared.value.Reason.{Reason}
use Rattle.fb_wave.specs.Changes.{line, changes, time_text}
use Rattle.fb_wave.specs.Scopes.{head_text}
use Rattle.fb_wave.specs.LineSignals.{fires_of, has_signal, touches_of}

-- ---- Ticks

-- What changes in a tick: each signal of its lines, once, with what it shows after all lines up to now.
abbrev pub tick_changes : System → (before now : List Line) → List ℕ
tick_changes sys before now =
    changes (fires_of sys (before ++ now)) (has_signal sys (before ++ now)) (touches_of sys now)

-- Lines by their ticks: those of earlier ticks, and those of this tick that came so far, and then the rest. Where ticks do not fall,
-- that is what each tick changes, one tick after another (`specs/ByTick`: `AreTickByTick`).
abbrev pub ticks_text : System → (tick : ℕ) → (before now rest : List Line) → List ℕ
ticks_text sys t before now [] = tick_changes sys before now
ticks_text sys t before now (l ∷ ls) =
    if l.key.tick == t then ticks_text sys t before (now ++ l ∷ []) ls
    else tick_changes sys before now ++ time_text t l.key.tick ++ ticks_text sys l.key.tick (before ++ now) (l ∷ []) ls

-- the tick of the last line, or another where there is none
abbrev pub last_tick : ℕ → List Line → ℕ
last_tick t [] = t
last_tick t (l ∷ ls) = last_tick l.key.tick ls

-- a comment that a resource stopped
abbrev pub stop_comment : Name → Reason → List ℕ
stop_comment n reason = line (codes "$comment stop " ++ n ++ codes " " ++ reason_text reason ++ codes " $end")

-- The end is the last time. A stop is a comment.
abbrev pub end_text : System → (tick : ℕ) → Ending → List ℕ
end_text sys t (AtHorizon h) = time_text t h
end_text sys t (AtStop k r reason) =
    time_text t k ++ stop_comment (slice_index_or sys.resource_names r []) reason

-- the whole dump
abbrev pub dump_text : System → List Line → Ending → List ℕ
dump_text sys ls end = head_text sys ++ ticks_text sys 0 [] [] ls ++ end_text sys (last_tick 0 ls) end
