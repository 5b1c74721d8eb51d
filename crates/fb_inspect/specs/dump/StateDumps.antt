-- The dump of a trace with the inside of basic blocks, as a function of its takings (this project's profile).
use Rattle.std.specs.Prelude.{◌≡◌, ℕ, ◌==◌, List, [], ◌∷◌, ◌++◌, map, Bool, if◌then◌else◌}
use Rattle.fb_types.specs.Numbers.{line_of}
use Rattle.fb_types.specs.Simulation.{Ending}
use Rattle.fb_types.specs.Systems.{System}
use Rattle.fb_types.specs.declared.run.Line.{Line}
use Rattle.fb_wave.specs.Changes.{time_text}
use Rattle.fb_wave.specs.CutOff.{cut_comment}
use Rattle.fb_wave.specs.Dumps.{end_text, last_tick, tick_changes, ticks_text}
use Rattle.fb_inspect.specs.walk.Looks.{Look, Taking, opening_look, taking_lines}
use Rattle.fb_inspect.specs.dump.Heads.{inner, state_head}
use Rattle.fb_inspect.specs.dump.Inner.{taking_changes}

-- A taking, with its lines as they were read.
pub record Taken : Type 0 where
  pub taking : Taking
  pub lines : List Line

abbrev pub takings_of : List Taken → List Taking
takings_of xs = map (λ x. x.taking) xs

abbrev pub lines_of : List Taken → List Line
lines_of [] = []
lines_of (x ∷ xs) = x.lines ++ lines_of xs

-- the lines are those of the takings
abbrev pub HaveLines : System → List Taken → Type 0
HaveLines sys [] = Unit {0}
HaveLines sys (x ∷ xs) = (map (line_of sys) x.lines ≡ taking_lines x.taking) × HaveLines sys xs

abbrev pub tick_of : Taken → ℕ
tick_of x = x.taking.first.key.tick

-- Takings by their ticks, from what the blocks remember: where one is of another tick than the one before it, that tick's changes of
-- ports come first, and then the new time. What changes inside a block comes where its taking is, so that in one tick a state may change more than
-- once. After all takings come lines that are shown as ports alone, since the trace is cut off in those of their event.
abbrev pub takings_text : (with_states : Bool) → System → (untaken : List Line) → (tick : ℕ) → (before now : List Line) → Look → List Taken → List ℕ
takings_text b sys us t before now look [] = ticks_text sys t before now us
takings_text b sys us t before now look (x ∷ xs) =
    if tick_of x == t
    then inner b (taking_changes sys look x.taking) ++ takings_text b sys us t before (now ++ x.lines) x.taking.after xs
    else tick_changes sys before now ++ time_text t (tick_of x) ++ inner b (taking_changes sys look x.taking)
    ++ takings_text b sys us (tick_of x) (before ++ now) x.lines x.taking.after xs

-- The whole dump. Where nothing is shown of the inside of blocks, it is the dump of the lines (`specs/Laws`).
abbrev pub state_dump : (with_states : Bool) → System → List Taken → Ending → List ℕ
state_dump b sys xs end =
    state_head b sys ++ takings_text b sys [] 0 [] [] (opening_look sys) xs ++ end_text sys (last_tick 0 (lines_of xs)) end

-- The dump of a trace that is cut off, which says so at its end.
abbrev pub cut_dump : (with_states : Bool) → System → List Taken → (untaken : List Line) → List ℕ
cut_dump b sys xs us = state_head b sys ++ takings_text b sys us 0 [] [] (opening_look sys) xs ++ cut_comment
