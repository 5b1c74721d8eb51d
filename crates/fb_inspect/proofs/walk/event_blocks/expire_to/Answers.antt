use Rattle.std.proofs.Common.{◌≡◌, ℕ, Bool, false, not, eqb, Option, Some, None, rules, sym, ap, ◌∙◌}
use Rattle.std.specs.Option.{option_eq}
use Rattle.std.proofs.lemmas.Bool.{both_ways, eqb-true, not-false}
use Rattle.fb_inspect.proofs.walk.event_blocks.expire_to.Goals as goal

same_due : (due : Option ℕ) (tick : ℕ) (differ : Bool) → differ ≡ not (option_eq eqb due (Some tick)) → differ ≡ false → due ≡ Some tick
same_due None tick differ is same = absurd (both_ways differ same is)
same_due (Some t) tick differ is same = ap (λ (n : ℕ). Some n) (eqb-true t tick (not-false (eqb t tick) (sym is ∙ same)))

pub returns-in-Ok-clause-only : goal.returns-in-Ok-clause-only
returns-in-Ok-clause-only c = λ yes. record {
  due = same_due c.args.block.now.due c.args.line.now.key.tick c.ne.result c.ne.ensures c.if-ne.false;
  emits = c.expire.new.emits;
  reacted = search rules;
  only = c.is_only.ensures.only yes;
}
