use Rattle.fb_types.proofs.Common.{IfOk, MatchOption, sym, subst, option_map}
use Rattle.std.proofs.Common.{Bor, List, ℕ}
use Rattle.fb_why.specs.InputPlaces.{HasNoInputPosition, IsInputPosition}
use Rattle.fb_why.specs.declared.location.FindingLocation.{FindingLocation}
use Rattle.fb_why.proofs.input_place.input_position.Goals as goal

pub returns-in-Check : goal.returns-in-Check
returns-in-Check c =
    let d = option_map (λ (b : Bor (List ℕ)). b.now) c.args.deploy in
    subst (λ (l : FindingLocation). IfOk c.checked_in.result (λ o. MatchOption o (HasNoInputPosition d l) (IsInputPosition d l))) (sym c.in-Check.is) c.checked_in.ensures
