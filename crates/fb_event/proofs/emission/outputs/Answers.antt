use Rattle.fb_types.proofs.Common.{◌≡◌, ℤ, pos, List, [], ◌∷◌, sym, subst, rules, arith, IfOk, ints}
use Rattle.fb_types.specs.declared.value.Value.{Value}
use Rattle.std.proofs.Common.{Fits}
use mir.Syntax.{w16, w128}
use mir.Val.{to_z}
use Rattle.fb_types.specs.declared.value.Value.TheVariants as value
use Rattle.fb_event.specs.Block.{values_in}
use Rattle.fb_event.specs.declared.memory.EventMemory.{EventMemory}
use Rattle.fb_event.proofs.emission.outputs.Goals as goal

pub returns-in-Flag : goal.returns-in-Flag
returns-in-Flag c = subst (λ (m : EventMemory). IfOk c.from_slice.result (λ (vs : List Value). vs ≡ values_in m)) (sym c.in-Flag.is) c.from_slice.ensures

pub returns-in-Count : goal.returns-in-Count
returns-in-Count c =
    let r = c.from_slice-in-Count.result in
    let few : Fits w16 c.in-Count.count = search rules in
    let back : to_z w128 c.in-Count.count ≡ pos c.in-Count.count = omega (arith, ints) in
    subst (λ (m : EventMemory). IfOk r (λ (vs : List Value). vs ≡ values_in m)) (sym c.in-Count.is)
    (subst (λ (z : ℤ). IfOk r (λ (vs : List Value). vs ≡ value.Bool c.in-Count.reached ∷ value.Whole z ∷ [])) back c.from_slice-in-Count.ensures)
