use Rattle.fb_types.proofs.Common.{◌≡◌, ◌∙◌, Option, None, Some, ap, arith, option_map, subst, sym, ℕ, MatchOption, IfSome}
use Rattle.fb_expect.specs.Locations.{IsLocation, number_at, refusal_of}
use Rattle.fb_expect.specs.declared.location.RulesLocation.{RulesLocation}
use Rattle.fbsim_command.proofs.rules_notes.note_of_location.Goals as goal

pub returns-in_default : goal.returns-in_default
returns-in_default c = λ refused.
    let bad : ◌≡◌ {A = Option ℕ} None (Some c.args.number) = sym (ap (option_map number_at) c.in_default.is) ∙ c.in_ok-location.ensures.exact ∙ refused in absurd cc
