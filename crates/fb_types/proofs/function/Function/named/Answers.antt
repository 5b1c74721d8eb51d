use Rattle.fb_types.proofs.Common.{◌≡◌, true, false, Option, None, Some, sym, ◌∙◌, codes, if◌then◌else◌, same_name, Function}
use Rattle.fb_types.specs.declared.function.Function.TheVariants.{Min, Max, Abs, Limit, Sel}
use Rattle.fb_types.proofs.function.Function.named.Goals as goal

pub returns-then-is-2 : goal.returns-then-is-2
returns-then-is-2 c =
    let n = c.args.name.now in
    let least : false ≡ same_name n (codes "MIN") = sym c.if-is.false ∙ c.is.ensures in
    let most : true ≡ same_name n (codes "MAX") = sym c.if-is-2.true ∙ c.is-else-is.ensures in
    let rest : Option Function =
    if same_name n (codes "ABS") then Some Abs else if same_name n (codes "LIMIT") then Some Limit else if same_name n (codes "SEL") then Some Sel else None in
    λ i. if least i then Some Min else if most i then Some Max else rest
