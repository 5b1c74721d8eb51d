use Rattle.fb_types.proofs.Common.{◌≡◌, ◌+◌, ◌*◌, ◌≤◌, ℕ, true, get_or, take, sym, ap, ◌∙◌, arith, is_ascii_digit, fold}
use Rattle.fb_inputs.specs.Numbers.{with_digit}
use Rattle.fb_inputs.proofs.lemmas.stimuli.Digits.{all_read, digit_within, digits_on, limit_passed, no_digit, none_read, not_digits, one_digit, read_on}
use Rattle.fb_inputs.proofs.number.natural.Goals.{then-value-most, else-value-most}
use Rattle.fb_inputs.proofs.number.natural.Goals as goal

pub returns-then-is_empty : goal.returns-then-is_empty
returns-then-is_empty c = none_read c.args.most c.args.text.now (sym c.is_empty.ensures ∙ c.if-is_empty.true)

pub returns-then-not-is_ascii_digit : goal.returns-then-not-is_ascii_digit
returns-then-not-is_ascii_digit c =
    not_digits c.args.most c.args.text.now (sym c.is_empty.ensures ∙ c.if-is_empty.false)
    (no_digit c.args.text.now c.loop-b.b-index 0 c.loop-b-test.true c.loop-b.invariant.digits (sym c.is_ascii_digit.ensures.value ∙ c.if-not-is_ascii_digit.true))

pub loop-b-preserved : goal.loop-b-preserved
loop-b-preserved c =
    let text = c.args.text.now in
    let i = c.loop-b.b-index in
    let n = fold with_digit 0 (take i text) in
    let is_digit : is_ascii_digit (get_or text i 0) ≡ true = sym c.is_ascii_digit.ensures.value ∙ c.if-not-is_ascii_digit.false in
    let small : c.from-digit.result ≤ 9 = omega (arith, c.from-digit.ensures, digit_within (get_or text i 0) is_digit) in
    let next : fold with_digit 0 (take (i + 1) text) ≡ 10 * n + c.from-digit.result = read_on text i 0 c.loop-b-test.true ∙ ap (λ (k : ℕ). 10 * n + k) (sym c.from-digit.ensures) in
    record {
      sum =
          rw next
          (elim c.if-value-most.branch [
            | then-value-most w ↦ w.value-is ∙ limit_passed c.args.most n c.loop-b.value c.from-digit.result small c.requires.low c.loop-b.invariant.sum w.if-value-most.true
            | else-value-most w ↦ w.value-is ∙ one_digit c.args.most n c.loop-b.value c.from-digit.result small c.requires.low c.loop-b.invariant.sum w.if-value-most.false
          ]);
      digits = digits_on text i 0 c.loop-b-test.true c.loop-b.invariant.digits is_digit;
    }

pub returns : goal.returns
returns c = all_read c.args.most c.args.text.now c.loop-b.b-index c.loop-b.value (sym c.is_empty.ensures ∙ c.if-is_empty.false) c.loop-b-test.false c.loop-b.invariant.sum c.loop-b.invariant.digits
