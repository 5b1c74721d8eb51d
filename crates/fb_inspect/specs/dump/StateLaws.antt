-- What a dump with the inside of basic blocks is without it.
use Rattle.std.specs.Prelude.{◌≡◌, ◌++◌, List, false}
use Rattle.fb_types.specs.Simulation.{Ending}
use Rattle.fb_types.specs.Systems.{System}
use Rattle.fb_types.specs.declared.run.Line.{Line}
use Rattle.fb_wave.specs.CutOff.{cut_text}
use Rattle.fb_wave.specs.Dumps.{dump_text}
use Rattle.fb_inspect.specs.dump.StateDumps.{HaveLines, Taken, cut_dump, lines_of, state_dump}

-- Without what is shown of the inside of blocks it is the dump of the lines, whether the trace is cut off or not.
pub record AddsOnlyStates : Type 0 where
  pub whole : (sys : System) (xs : List Taken) (end : Ending) → HaveLines sys xs → state_dump false sys xs end ≡ dump_text sys (lines_of xs) end
  pub cut : (sys : System) (xs : List Taken) (us : List Line) → HaveLines sys xs → cut_dump false sys xs us ≡ cut_text sys (lines_of xs ++ us)
