use Rattle.std.proofs.Common.{not, sym, ◌∙◌, ap}
use Rattle.fb_check.specs.networks.Joins.{is_out}
use Rattle.fb_check.proofs.networks.ranges.leads_out.Goals as goal

pub returns-in-Some-Some : goal.returns-in-Some-Some
returns-in-Some-Some c =
    ap not c.is_within.ensures ∙ (λ i. is_out ((sym c.in-Some-Some.is-0 ∙ c.source_type-from.ensures) i) ((sym c.in-Some-Some.is-1 ∙ c.target_type-to.ensures) i))
