use Rattle.fb_types.proofs.Common.{◌<◌, length, get_or, sym, subst, ◌∙◌, arith, eqb-true, get_or_default}
use Rattle.fb_wave.proofs.lemmas.Numerals.{Reads, Reads-more, empty_is_none, past_is_none, zero_is_none}
use Rattle.fb_wave.proofs.number.natural.Goals as goal
use Rattle.fb_wave.proofs.number.natural.Goals.{else-index-gt0-via-then-index-gt0+else-value-eq0, else-index-gt0-via-else-index-gt0}

pub returns-then-value-eq0 : goal.returns-then-value-eq0
returns-then-value-eq0 c =
    let text = c.args.text.now in
    let within : c.loop-index.index < length text = omega arith in
    zero_is_none c.loop-index.index text (subst (λ v. Reads v c.loop-index.index text) c.if-value-eq0.true c.loop-index.invariant) c.if-index-gt0.true within

pub returns-in_err-value : goal.returns-in_err-value
returns-in_err-value c =
    let text = c.args.text.now in
    let p = c.loop-index.index in
    let within : p < length text = omega arith in
    rw c.from_residual.ensures
    (past_is_none c.loop-index.value p (get_or text p 0) text c.loop-index.invariant within (get_or_default text p 0 (get_or text p 0) within) c.in_err-value.ensures)

pub loop-index-preserved : goal.loop-index-preserved
loop-index-preserved c =
    let text = c.args.text.now in
    let p = c.loop-index.index in
    let within : p < length text = omega arith in
    let some : 0 < p → 0 < c.loop-index.value =
    elim c.else-index-gt0.branch [
      | else-index-gt0-via-then-index-gt0+else-value-eq0 w ↦ (λ h. omega (arith, w.if-value-eq0.false))
      | else-index-gt0-via-else-index-gt0 w ↦ (λ h. absurd (omega (arith, w.if-index-gt0.false, h)))
    ]
    in
    Reads-more c.loop-index.value p (get_or text p 0) c.in_ok-value.value text c.loop-index.invariant within (get_or_default text p 0 (get_or text p 0) within) c.in_ok-value.ensures some

pub returns-then-is_empty : goal.returns-then-is_empty
returns-then-is_empty c = empty_is_none c.args.text.now (eqb-true _ 0 (sym c.is_empty.ensures ∙ c.if-is_empty.true))
