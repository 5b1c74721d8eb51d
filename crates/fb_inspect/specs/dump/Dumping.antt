-- How a dump with the inside of basic blocks grows taking by taking (this project's own).
use Rattle.std.specs.Prelude.{◌≡◌, ℕ, List, [], ◌∷◌, ◌++◌, true}
use Rattle.fb_types.specs.Systems.{System}
use Rattle.fb_types.specs.declared.run.Line.{Line}
use Rattle.fb_wave.specs.Dumps.{last_tick, tick_changes, ticks_text}
use Rattle.fb_wave.specs.Levels.{AreLevels}
use Rattle.fb_wave.specs.LineSignals.{fires_of, has_signal, touches_of}
use Rattle.fb_wave.specs.Signals.{sizes_of}
use Rattle.fb_wave.specs.Writing.{AreSignals}
use Rattle.fb_inspect.specs.Inspections.{last_look}
use Rattle.fb_inspect.specs.walk.Looks.{opening_look}
use Rattle.fb_inspect.specs.dump.Heads.{state_head}
use Rattle.fb_inspect.specs.dump.Inner.{taking_changes}
use Rattle.fb_inspect.specs.dump.StateDumps.{Taken, lines_of, takings_of, takings_text, tick_of}
use Rattle.fb_inspect.specs.declared.dump.port_dump.PortDump.{PortDump}

-- The signals are those of the system.
abbrev pub IsPortDump : System → PortDump → Type 0
IsPortDump sys x = AreSignals sys x.signals

-- Takings were written: the text so far is that of their dump, but for what the last tick changes at ports. Whatever takings come, it
-- grows to the dump of all.
pub record Shows (sys : System) (xs : List Taken) (shown : List ℕ) (x : PortDump) : Type 0 where
  pub before : List Line
  pub now : List Line
  pub parts : lines_of xs ≡ before ++ now
  pub tick : x.tick ≡ last_tick 0 (lines_of xs)
  pub levels : AreLevels (sizes_of sys sys.paths) (fires_of sys (lines_of xs)) (has_signal sys (lines_of xs)) (touches_of sys now) x.signals.levels
  pub text :
      (us : List Line) (rest : List Taken)
      → shown ++ takings_text true sys us x.tick before now (last_look (opening_look sys) (takings_of xs)) rest
      ≡ state_head true sys ++ takings_text true sys us 0 [] [] (opening_look sys) (xs ++ rest)

-- The same where the next taking, or the next line without one, is of this tick.
pub record ShowsUpTo (sys : System) (xs : List Taken) (shown : List ℕ) (next : ℕ) (x : PortDump) : Type 0 where
  pub before : List Line
  pub now : List Line
  pub parts : lines_of xs ≡ before ++ now
  pub tick : x.tick ≡ next
  pub levels : AreLevels (sizes_of sys sys.paths) (fires_of sys (lines_of xs)) (has_signal sys (lines_of xs)) (touches_of sys now) x.signals.levels
  pub text :
      (us : List Line) (y : Taken) (rest : List Taken) → tick_of y ≡ next
      → shown ++ (taking_changes sys (last_look (opening_look sys) (takings_of xs)) y.taking ++ takings_text true sys us next before (now ++ y.lines) y.taking.after rest)
      ≡ state_head true sys ++ takings_text true sys us 0 [] [] (opening_look sys) (xs ++ y ∷ rest)
  pub untaken :
      (l : Line) (us : List Line) → l.key.tick ≡ next
      → shown ++ ticks_text sys next before (now ++ l ∷ []) us ≡ state_head true sys ++ takings_text true sys (l ∷ us) 0 [] [] (opening_look sys) xs

-- Lines of the tick were shown.
pub record ShowsLines (sys : System) (ls : List Line) (old new : PortDump) : Type 0 where
  pub tick : new.tick ≡ old.tick
  pub levels :
      (all now : List Line) → AreLevels (sizes_of sys sys.paths) (fires_of sys all) (has_signal sys all) (touches_of sys now) old.signals.levels
      → AreLevels (sizes_of sys sys.paths) (fires_of sys (all ++ ls)) (has_signal sys (all ++ ls)) (touches_of sys (now ++ ls)) new.signals.levels

-- Takings were written, and then lines without their takings: the text so far is that of all these, but for what the last tick changes at ports.
pub record ShowsUntaken (sys : System) (xs : List Taken) (us : List Line) (shown : List ℕ) (x : PortDump) : Type 0 where
  pub before : List Line
  pub now : List Line
  pub parts : lines_of xs ++ us ≡ before ++ now
  pub levels : AreLevels (sizes_of sys sys.paths) (fires_of sys (lines_of xs ++ us)) (has_signal sys (lines_of xs ++ us)) (touches_of sys now) x.signals.levels
  pub text : shown ++ tick_changes sys before now ≡ state_head true sys ++ takings_text true sys us 0 [] [] (opening_look sys) xs
