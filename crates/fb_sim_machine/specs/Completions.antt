-- What the run of all resources answers, in the model's terms alone (this project's profile).
use Rattle.std.specs.Prelude.{◌≡◌, ◌<◌, ◌++◌, ℕ, List, map, All, Option, Some, None}
use Rattle.fb_types.specs.Headline.{Inputs, system_of}
use Rattle.fb_types.specs.Numbers.{line_of}
use Rattle.fb_types.specs.Machines.{Each}
use Rattle.fb_types.specs.States.{Config}
use Rattle.fb_types.specs.Simulation.{Taken, Chain, RestsAt, Ending, AtHorizon, AtStop, last, lines_of, ending_of}
use Rattle.fb_types.specs.declared.run.Line.{Line}
use Rattle.fb_types.specs.declared.run.StopMark.{StopMark}

-- how a run ends: at its horizon, or where a resource stopped before
abbrev pub ending_at : (horizon : ℕ) → Option StopMark → Ending
ending_at horizon None = AtHorizon horizon
ending_at horizon (Some m) = AtStop m.tick m.resource m.reason

-- From here on all is taken below the horizon, or up to the first stop, and the lines are put after those that were there.
pub record Completes (i : Inputs) (horizon limit : ℕ) (c : Config) (before after : List Line) (stop : Option StopMark) : Type 0 where
  pub taken : List Taken
  pub chain : Chain (system_of i) limit c taken
  pub below : All (λ t. t.key.tick < horizon) taken
  pub rests : RestsAt horizon (ending_of horizon taken) (last c taken).agenda
  pub lines : map (line_of (system_of i)) after ≡ map (line_of (system_of i)) before ++ lines_of taken
  pub ending : ending_at horizon stop ≡ ending_of horizon taken

-- From c these events are taken below the horizon, none of which stops its resource, and this leads to d.
pub record Reaches (i : Inputs) (horizon limit : ℕ) (c d : Config) (taken : List Taken) : Type 0 where
  pub chain : Chain (system_of i) limit c taken
  pub going : Each (λ t. t.effect.stop ≡ None) taken
  pub below : All (λ t. t.key.tick < horizon) taken
  pub leads : last c taken ≡ d
