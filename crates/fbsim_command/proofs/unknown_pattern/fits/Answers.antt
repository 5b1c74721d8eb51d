use Rattle.fb_types.proofs.Common.{◌<◌, ℕ, length, subst, sym, system_of, path_at}
use Rattle.fb_wave.proofs.lemmas.Bounds.{resource_named}
use Rattle.fbsim_command.proofs.unknown_pattern.fits.Goals as goal

pub resource_name-own-requires : goal.resource_name-own-requires
resource_name-own-requires c =
    let sys = system_of c.args.system.now in
    subst (λ (r : ℕ). r < length sys.resource_names) (sym c.resource.ensures) (resource_named c.args.system.now (path_at sys c.args.at.0) c.facts.ensures.limits)
