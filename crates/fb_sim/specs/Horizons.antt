-- A run that goes on to a later horizon (this project's profile).
use Rattle.std.specs.Prelude.{ℕ, ◌≤◌, List}
use Rattle.fb_types.specs.Headline.{Inputs, system_of}
use Rattle.fb_types.specs.Parts.{machine, count_of}
use Rattle.fb_types.specs.Schedules.{IsAtHorizon}
use Rattle.fb_types.specs.States.{Line}
use Rattle.fb_laws.specs.Finality.{core_of}
use Rattle.fb_laws.specs.Sound.{AreGood}
use Rattle.fb_window.specs.declared.cores.CoreState.{CoreState}
use Rattle.fb_sim.specs.Rounds.{HasCome}

-- Of accepted inputs: a core that has come to a horizon has come as far on the way to each later one, and the same lines were handed out.
abbrev pub HorizonsRise : Type 0
HorizonsRise =
    (i : Inputs) → AreGood i → (limit t u : ℕ) → t ≤ u → (core : CoreState) (ls : List Line) (come : HasCome i limit t core ls)
    → IsAtHorizon (machine (system_of i) limit) (count_of (system_of i)) t (core_of i limit come.steps)
    → HasCome i limit u core ls
