-- From a core that some rounds have led to, a round that goes on leads to another such core.
use Rattle.fb_types.proofs.Common.{◌≡◌, ℕ, List, ◌++◌, Option, Ok, subst, Inputs}
use Rattle.fb_types.specs.States.{Line}
use Rattle.fb_window.specs.declared.cores.CoreState.{CoreState}
use Rattle.fb_sim.specs.Rounds.{HasCome, Rounds}
use Rattle.fb_sim.specs.declared.options.Options.{Options}
use Rattle.fb_sim.specs.declared.progress.Round.{Round}
use Rattle.fb_sim.specs.declared.progress.Round.TheVariants.{Going}

pub goes_on :
    (i : Inputs) (o : Options) (core next : CoreState) (round : Round) (old new : Option (List ℕ))
    → (ls : List Line) × HasCome i o.steps o.horizon core ls
    → round ≡ Going next
    → ((ls : List Line) (come : HasCome i o.steps o.horizon core ls) → Rounds i o come.steps ls old new (Ok round))
    → (ls : List Line) × HasCome i o.steps o.horizon next ls
goes_on i o core next round old new come is goes =
    let after = subst (λ (r : Round). Rounds i o come.1.steps come.0 old new (Ok r)) is (goes come.0 come.1) in
    (come.0 ++ after.0, after.1.after.0)
