use Rattle.fb_types.proofs.Common.{◌≡◌, ◌∙◌, List, ap, drop_all, map, subst}
use Rattle.fb_types.specs.declared.text.Expr.{Expr}
use Rattle.fb_why.specs.Tokens.{next, past, past_each}
use Rattle.fb_why.proofs.lemmas.Mismatching.{each_more}
use Rattle.fb_why.proofs.tokens.+past.Goals as goal

pub past_each-loop-argument-preserved : goal.past_each-loop-argument-preserved
past_each-loop-argument-preserved t c =
    each_more c.args.arguments.now c.loop-argument.argument-index c.loop-argument.token c.next-token.result c.argument-item.result _ c.loop-argument-test.true c.argument-item.is
    (c.next-token.ensures ∙ ap next c.past.ensures) c.loop-argument.invariant

pub past_each-returns : goal.past_each-returns
past_each-returns t c =
    subst (λ (l : List Expr). past_each (map past l) c.loop-argument.token ≡ past_each (map past c.args.arguments.now) c.args.first)
    (drop_all c.loop-argument.argument-index c.args.arguments.now c.loop-argument-test.false) c.loop-argument.invariant
