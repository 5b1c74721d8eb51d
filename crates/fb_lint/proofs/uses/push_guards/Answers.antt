use Rattle.fb_lint.proofs.lemmas.Common.{List, refl, flat_map, guard_mentions, meant_all}
use Rattle.fb_types.specs.declared.library.Transition.{Transition}
use Rattle.fb_check.proofs.lemmas.types.GrowingLists.{list_added, one_added}
use Rattle.fb_lint.proofs.uses.push_guards.Goals as goal

pub loop-transition-preserved : goal.loop-transition-preserved
loop-transition-preserved c =
    one_added (λ (xs : List Transition). flat_map guard_mentions xs) guard_mentions c.args.transitions.now c.loop-transition.transition-index
    c.transition-item.result (meant_all c.loop-transition.mentions.items) _ _ (λ _ _. refl) c.loop-transition-test.true c.transition-item.is
    c.in_ok-push_guard.ensures c.loop-transition.invariant

pub returns : goal.returns
returns c =
    list_added (λ (xs : List Transition). flat_map guard_mentions xs) c.args.transitions.now c.loop-transition.transition-index
    (meant_all c.loop-transition.mentions.items) _ refl c.loop-transition-test.false c.loop-transition.invariant
