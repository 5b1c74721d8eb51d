use Rattle.fb_check.proofs.lemmas.Common.{◌≡◌, ◌++◌, [], sym, subst, Library, IsResolved, unknown_all}
use Rattle.fb_types.proofs.Common.{IfOk}
use Rattle.fb_check_names.specs.Catalog.{IsCatalog}
use Rattle.fb_check_names.specs.declared.catalog.Catalog.{Catalog}
use Rattle.fb_check.proofs.types.resolution.resolve.Goals as goal

pub resolve_by-requires-clause-catalog : goal.resolve_by-requires-clause-catalog
resolve_by-requires-clause-catalog c =
    let plan = c.args.plan.now in
    subst (λ (l : Library). IsCatalog l plan c.in_ok-types.types.catalog.now) (sym c.in_ok-types.ensures.1)
    (subst (λ (k : Catalog). IsCatalog c.args.library.now plan k) (sym c.in_ok-types.ensures.2) c.requires)

pub returns-clause-listed : goal.returns-clause-listed
returns-clause-listed c =
    let plan = c.args.plan.now in
    subst (λ (l : Library). IfOk c.resolve_by.result (λ _. c.resolve_by.new.found.items ≡ c.args.found.now.items ++ unknown_all l plan)) c.in_ok-types.ensures.1 c.resolve_by.ensures.listed

pub returns-clause-numbers : goal.returns-clause-numbers
returns-clause-numbers c =
    let plan = c.args.plan.now in
    subst (λ (l : Library). IfOk c.resolve_by.result (λ r. unknown_all l plan ≡ [] → IsResolved l plan r)) c.in_ok-types.ensures.1 c.resolve_by.ensures.numbers
