use Rattle.fb_expect.proofs.lemmas.Common.{ℕ, zero, suc, [], length, ap, sym, ◌∙◌, arith, take_all, true≢false, rules_of}
use Rattle.fb_expect.specs.Hits.{IsFirst}
use Rattle.fb_expect.proofs.lemmas.rules.Following.{all-one, begun-one}
use Rattle.fb_expect.proofs.judging.begun.Goals as goal

-- no line is a P before the first line
none-first : (i : ℕ) → IsFirst [] i → ⊥
none-first zero is = absurd (true≢false (sym is))
none-first (suc i) is = absurd (true≢false (sym is))

pub loop-rule-init : goal.loop-rule-init
loop-rule-init c =
    let none = c.in_ok-watchers.ensures.items in
    record {
      rules = ap rules_of none;
      follow = λ k d lt. (let long = ap length none in absurd (omega (arith, long, lt)));
      len = c.in_ok-watchers.ensures.len;
      room = c.in_ok-watchers.ensures.capacity;
    }

pub push_reserved-requires : goal.push_reserved-requires
push_reserved-requires c =
    let inv = c.loop-rule.invariant in
    let within = c.loop-rule-test.true in
    omega (arith, inv.len, inv.room, within)

pub loop-rule-preserved : goal.loop-rule-preserved
loop-rule-preserved c =
    let ws = c.loop-rule.watchers.items in
    let inv = c.loop-rule.invariant in
    let one = c.push_reserved.ensures in
    record {
      rules = begun-one ws _ c.args.rules.now c.loop-rule.rule-index c.rule-item.result _ c.loop-rule-test.true c.rule-item.is inv.rules one.items;
      follow = all-one [] ws _ _ one.items inv.follow (record { knows = c.state_of.ensures; counts = c.begin_tally.ensures; first = λ i is. none-first i is; saw = c.begin_sights.ensures; covers = c.ports_of.ensures });
      len = omega (arith, inv.len, one.len);
      room = omega (arith, inv.room, one.capacity);
    }

pub returns-clause-rules : goal.returns-clause-rules
returns-clause-rules c = c.loop-rule.invariant.rules ∙ take_all c.loop-rule.rule-index c.args.rules.now c.loop-rule-test.false

pub returns-clause-follow : goal.returns-clause-follow
returns-clause-follow c = c.loop-rule.invariant.follow
