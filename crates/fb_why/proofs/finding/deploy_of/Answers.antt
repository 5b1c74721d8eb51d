use Rattle.std.proofs.Common.{Bor, List, ℕ, Option, option_map, sym, subst}
use Rattle.fb_why.specs.Findings.{IsPlan}
use Rattle.fb_why.proofs.finding.deploy_of.Goals as goal

pub returns-in_default : goal.returns-in_default
returns-in_default c =
    subst (λ (o : Option (Bor (List ℕ))). IsPlan (option_map (λ (b : Bor (List ℕ)). b.now) o) c.in_ok-single.field-0) (sym c.in_default.is) c.in_ok-single.ensures
