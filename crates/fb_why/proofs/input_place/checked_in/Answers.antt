use Rattle.fb_types.proofs.Common.{◌≡◌, Bor, IfOk, List, ℕ, MatchOption, Option, Some, None, refl, sym, subst, option_map}
use Rattle.fb_check.specs.declared.location.Limit.TheVariants as limit
use Rattle.fb_check.specs.declared.location.Location.{Location}
use Rattle.fb_check.specs.declared.location.Location.TheVariants as at
use Rattle.fb_check_names.specs.declared.location.NotMappedAt.{NotMappedAt}
use Rattle.fb_why.specs.InputPlaces.{HasCheckedNone, IsCheckedPosition, Text, checked_position, twice_position, unknown_position}
use Rattle.fb_why.specs.declared.input_place.InputPosition.{InputPosition}
use Rattle.fb_why.proofs.input_place.checked_in.Goals as goal

itself : (o : Option InputPosition) → MatchOption o (o ≡ None) (λ p. o ≡ Some p)
itself None = refl
itself (Some p) = refl

-- what the location alone says is right
by_location : (deploy : Option Text) (location : Location) → ((p : NotMappedAt) → location ≡ at.NotMapped p → ⊥) → MatchOption (checked_position location) (HasCheckedNone deploy location) (IsCheckedPosition deploy location)
by_location deploy (at.NotMapped p) other = absurd (other p refl)
by_location deploy (at.NameTwice what) other = itself (twice_position what)
by_location deploy (at.NameUnknown name) other = itself (unknown_position name)
by_location deploy (at.BadStimulus location) other = refl
by_location deploy (at.OverLimit limit.Stimuli) other = refl
by_location deploy location other = refl

pub returns-in_default : goal.returns-in_default
returns-in_default c =
    let d = option_map (λ (b : Bor (List ℕ)). b.now) c.args.deploy in
    subst (λ (o : Option InputPosition). MatchOption o (HasCheckedNone d c.args.location) (IsCheckedPosition d c.args.location)) (sym c.checked_position.ensures)
    (by_location d c.args.location c.in_default.not-NotMapped)

pub returns-in-NotMapped : goal.returns-in-NotMapped
returns-in-NotMapped c =
    let d = option_map (λ (b : Bor (List ℕ)). b.now) c.args.deploy in
    subst (λ (l : Location). IfOk c.not_mapped_in.result (λ o. MatchOption o (HasCheckedNone d l) (IsCheckedPosition d l))) (sym c.in-NotMapped.is) c.not_mapped_in.ensures
