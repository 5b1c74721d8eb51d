use Rattle.fb_expect.proofs.lemmas.Common.{◌≡◌, ℕ, List, ◌+◌, ◌++◌, length, ap, sym, ◌∙◌, arith, append-nil}
use Rattle.std.proofs.Common.{◌*◌}
use Rattle.fb_expect.specs.Applied.{applied_points}
use Rattle.fb_expect.proofs.lemmas.documents.AppliedTexts.{applied-put, applied-end}
use Rattle.fb_expect.proofs.applied.put_applied.Goals as goal

pub loop-index-init : goal.loop-index-init
loop-index-init c =
    let a = c.args in
    let n = length a.rules.now * a.traces in
    record {
      number = omega (arith, c.point_count-number.ensures.count);
      text = ap (λ (k : ℕ). a.text.now.items ++ applied_points k a.rules.now a.counts.now a.traces) (let e : n + 0 ≡ n = omega arith in e);
    }

pub overflow_add-number : goal.overflow_add-number
overflow_add-number c =
    let room = c.point_count-number.ensures.room in
    let count = c.point_count-number.ensures.count in
    omega (arith, c.loop-index-test.true, c.min-index-end.ensures, room, count, c.loop-index.invariant.number)

pub loop-index-preserved : goal.loop-index-preserved
loop-index-preserved c =
    let a = c.args in
    let l = c.loop-index in
    record {
      number = omega (arith, l.invariant.number);
      text =
          applied-put (length a.rules.now * a.traces) l.index a.rules.now a.counts.now c.index-rules-index.result l.number a.traces l.text.items c.put_applied_point.new.text.items
          (omega (arith, c.loop-index-test.true, c.min-index-end.ensures)) (omega (arith, c.loop-index-test.true, c.min-index-end.ensures)) c.index-rules-index.is
          l.invariant.number c.in_ok-put_applied_point.ensures
          ∙ l.invariant.text;
    }

pub returns : goal.returns
returns c =
    let a = c.args in
    let l = c.loop-index in
    sym (append-nil l.text.items)
    ∙ ap (λ (t : List ℕ). l.text.items ++ t)
    (sym (applied-end (length a.rules.now * a.traces + l.index) a.rules.now a.counts.now l.index a.traces (omega (arith, c.min-index-end.ensures, l.auto.index-end, c.loop-index-test.false))))
    ∙ l.invariant.text
