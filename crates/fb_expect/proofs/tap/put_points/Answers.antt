use Rattle.std.proofs.Common.{ℕ, List, ◌*◌, ◌++◌, length, ap, ◌∙◌, arith}
use Rattle.fb_expect.proofs.lemmas.texts.JoinedTexts.{point-added, points-all}
use Rattle.fb_expect.proofs.tap.put_points.Goals as goal

pub overflow_add-number : goal.overflow_add-number
overflow_add-number c =
    let room = c.point_count-number.ensures.room in
    let count = c.point_count-number.ensures.count in
    omega (arith, c.loop-index-test.true, c.min-index-end.ensures, room, count, c.loop-index.invariant.number)

pub loop-index-preserved : goal.loop-index-preserved
loop-index-preserved c =
    let a = c.args in
    let l = c.loop-index in
    record {
      number = omega (arith, l.invariant.number);
      text =
          point-added a.is_strict a.of (length a.rules.now * a.before) a.rules.now a.judged.now l.index c.index-rules-index.result _ l.number a.text.now.items l.text.items
          c.put_point.new.text.items (omega (arith, c.loop-index-test.true, c.min-index-end.ensures)) (omega (arith, c.loop-index-test.true, c.min-index-end.ensures)) c.index-rules-index.is
          l.invariant.number l.invariant.text c.in_ok-put_point.ensures;
    }

pub returns : goal.returns
returns c =
    let a = c.args in
    let l = c.loop-index in
    l.invariant.text
    ∙ ap (λ (t : List ℕ). a.text.now.items ++ t)
    (points-all a.is_strict a.of (length a.rules.now * a.before) a.rules.now a.judged.now l.index (omega (arith, c.min-index-end.ensures, l.auto.index-end, c.loop-index-test.false)))
