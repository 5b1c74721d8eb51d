use Rattle.std.proofs.Common.{◌≡◌, ◌∙◌, ap, sym, true, arith}
use Rattle.fb_types.specs.declared.value.Value.TheVariants as value
use Rattle.fb_expect.specs.Contradictions.{suits}
use Rattle.fb_expect.proofs.lemmas.patterns.Contradicting.{all-of, suits-next}
use Rattle.fb_expect.proofs.contradiction.span_of.Goals as goal

pub loop-condition-init : goal.loop-condition-init
loop-condition-init c = record { all = λ z at is. at; part = λ z at. at }

pub loop-condition-preserved : goal.loop-condition-preserved
loop-condition-preserved c =
    let l = c.loop-condition in
    record {
      all = λ z at is.
          let parts = suits-next c.args.variable.now (value.Whole z) c.args.conditions.now l.condition-index c.condition-item.result c.loop-condition-test.true c.condition-item.is is in
          c.narrowed-span.ensures.all z (l.invariant.all z at parts.0) parts.1;
      part = λ z at. l.invariant.part z (c.narrowed-span.ensures.part z at);
    }

pub returns-clause-all : goal.returns-clause-all
returns-clause-all c = λ z at is.
    c.loop-condition.invariant.all z at (all-of c.args.variable.now (value.Whole z) c.args.conditions.now c.loop-condition.condition-index c.loop-condition-test.false is)

pub returns-clause-part : goal.returns-clause-part
returns-clause-part c = c.loop-condition.invariant.part
