use Rattle.fb_types.proofs.Common.{List, [], ◌∷◌, ◌++◌, append_assoc, map, take, sym, ap, ◌∙◌, arith, map-append, take_all, take_more, Name}
use Rattle.fb_expect.specs.Needs.{has_name}
use Rattle.fb_expect.specs.declared.pattern.Condition.{Condition}
use Rattle.fb_expect.proofs.pattern.with_each.Goals as goal

pub loop-name-preserved : goal.loop-name-preserved
loop-name-preserved c =
    let names = c.args.names.now in
    let i = c.loop-name.name-index in
    let front = map has_name (take i names) in
    c.in_ok-push.ensures.ok
    ∙ ap (λ (cs : List Condition). cs ++ c.in_ok-condition.condition ∷ []) c.loop-name.invariant
    ∙ append_assoc c.args.conditions front (c.in_ok-condition.condition ∷ [])
    ∙ ap (λ (x : Condition). c.args.conditions ++ (front ++ x ∷ [])) (c.in_ok-condition.ensures ∙ ap has_name c.name-item.is)
    ∙ ap (λ (xs : List Condition). c.args.conditions ++ xs)
    (sym (ap (map has_name) (take_more names i c.name-item.result c.loop-name-test.true) ∙ map-append has_name (take i names) (_ ∷ [])))

pub returns : goal.returns
returns c =
    c.loop-name.invariant
    ∙ ap (λ (ns : List Name). c.args.conditions ++ map has_name ns) (take_all c.loop-name.name-index c.args.names.now (omega (arith, c.loop-name-test.false)))
