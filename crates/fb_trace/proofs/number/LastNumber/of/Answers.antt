use Rattle.fb_types.proofs.Common.{◌-◌, ◌∙◌, refl, sym, arith, length-take-le}
use Rattle.fb_trace.proofs.lemmas.digits.Digits.{digits_moved, few_digits, with_blank}
use Rattle.fb_trace.proofs.number.LastNumber.of.Goals as goal

pub slice_bounds-text-end : goal.slice_bounds-text-end
slice_bounds-text-end c =
    let w = c.write_digits-start in
    omega (arith, few_digits c.args.number w.result w.new.digits w.ensures.length w.ensures.written c.ranges.number.fits)

pub slice_bounds-copy_text-end : goal.slice_bounds-copy_text-end
slice_bounds-copy_text-end c =
    let w = c.write_digits-start in
    sym (length-take-le (39 - w.result) _ (omega (arith, few_digits c.args.number w.result w.new.digits w.ensures.length w.ensures.written c.ranges.number.fits)))

pub copy_text-requires : goal.copy_text-requires
copy_text-requires c =
    let w = c.write_digits-start in
    length-take-le (39 - w.result) _ (omega (arith, few_digits c.args.number w.result w.new.digits w.ensures.length w.ensures.written c.ranges.number.fits))
    ∙ sym (digits_moved w.result w.new.digits w.ensures.length)

pub bounds-text-count : goal.bounds-text-count
bounds-text-count c =
    let w = c.write_digits-start in
    omega (arith, few_digits c.args.number w.result w.new.digits w.ensures.length w.ensures.written c.ranges.number.fits)

pub invariant_of-result : goal.invariant_of-result
invariant_of-result c =
    let w = c.write_digits-start in
    let few = few_digits c.args.number w.result w.new.digits w.ensures.length w.ensures.written c.ranges.number.fits in
    (omega (arith, few), with_blank c.args.number w.result w.new.digits c.copy_text.new.to _ w.ensures.length w.ensures.written c.copy_text.ensures few refl, refl)
