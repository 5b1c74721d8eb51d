-- A run over one agenda (this project's profile).
use Rattle.std.specs.Prelude.{◌≡◌, ℕ, List, length, Option}
use Rattle.std.specs.Io.KnownBytes.{Appends}
use Rattle.fb_types.specs.Headline.{Inputs}
use Rattle.fb_types.specs.Simulation.{Ending}
use Rattle.fb_types.specs.States.{Line}
use Rattle.fb_trace.specs.Progress.{bounded}
use Rattle.fb_sim.specs.Rounds.{AreAll, text_of}
use Rattle.fb_sim.specs.declared.options.Options.{Options}

-- The writer got the text of all lines of the simulation, of this many bytes, and the simulation ends so.
pub record RunsThrough (i : Inputs) (o : Options) (old new : Option (List ℕ)) (end : Ending) (written : ℕ) : Type 0 where
  pub out : List Line
  pub all : AreAll i o.steps o.horizon out end
  pub got : Appends old new (text_of i o.form out)
  pub counted : written ≡ bounded (length (text_of i o.form out))
