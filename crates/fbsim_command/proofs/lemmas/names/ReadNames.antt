-- Whatever was read has names: the law of specs.ReadNames.
use Rattle.std.proofs.Common.{◌≡◌, List, ℕ, Option, Some, None, refl, subst, sym}
use Rattle.fb_types.specs.Headline.{Inputs, system_of}
use Rattle.fb_types.specs.Limits.{single}
use Rattle.fb_types.specs.declared.deploy.Plan.{Plan}
use Rattle.fb_sim.specs.Given.{Given}
use Rattle.fb_sim.specs.Serial.{Declares, IsPlan}
use Rattle.fb_wave.specs.Named.{HasNames}
use Rattle.fbsim_command.specs.ReadNames.{AreReadWithNames}
use Rattle.fbsim_command.proofs.lemmas.names.GrammarNames.{Every}
use Rattle.fbsim_command.proofs.lemmas.names.SystemNames.{HasResourceName, library-named, plan-named, system-named}

-- the one resource that holds every instance has a name, too
resources-named : (o : Option (List ℕ)) (plan : Plan) → IsPlan o plan → Every HasResourceName plan.resources
resources-named None plan is = subst (λ (p : Plan). Every HasResourceName p.resources) (sym is) (refl, tt)
resources-named (Some bytes) plan is = plan-named bytes plan is

pub read-names : AreReadWithNames
read-names given i is =
    system-named i (library-named given.declaration i.library is.read.library) (resources-named given.deploy i.plan is.read.plan)
