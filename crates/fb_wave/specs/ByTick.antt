-- The changes of a dump, tick by tick: what `ticks_text` is (`proofs/ByTick`, `ticks_are`).
use Rattle.std.specs.Prelude.{◌≡◌, ℕ, ◌==◌, List, [], ◌∷◌, ◌++◌, map, filter, nat_lt}
use Rattle.std.specs.List.{flat_map}
use Rattle.fb_types.specs.Systems.{System}
use Rattle.fb_types.specs.declared.run.Line.{Line}
use Rattle.fb_wave.specs.Changes.{time_text}
use Rattle.fb_wave.specs.Dumps.{tick_changes, ticks_text}
use Rattle.fb_wave.specs.Levels.{marked}
use Rattle.fb_wave.specs.Waves.{RiseFrom}

-- the lines of a tick, and those before it
abbrev pub of_tick : ℕ → List Line → List Line
of_tick t ls = filter (λ l. l.key.tick == t) ls

abbrev pub before_tick : ℕ → List Line → List Line
before_tick t ls = filter (λ l. nat_lt l.key.tick t) ls

-- What a dump has of a tick of these lines: its time, which is there already for tick 0, and what the lines of the tick change.
abbrev pub tick_text : System → List Line → (tick : ℕ) → List ℕ
tick_text sys ls t = time_text 0 t ++ tick_changes sys (before_tick t ls) (of_tick t ls)

-- tick 0 and the ticks of lines, each once, in the order in which they come first
abbrev pub ticks_of : List Line → List ℕ
ticks_of ls = marked (0 ∷ []) (map (λ l. l.key.tick) ls)

-- The changes of lines whose ticks do not fall are those of each tick, one tick after another.
abbrev pub AreTickByTick : Type 0
AreTickByTick = (sys : System) (ls : List Line) → RiseFrom 0 ls → ticks_text sys 0 [] [] ls ≡ flat_map (tick_text sys ls) (ticks_of ls)
