use Rattle.fb_types.proofs.Common.{arith, length-take-le, sym}
use Rattle.fb_inspect.proofs.refused.fault_text.put_quoted.Goals as goal

pub slice_bounds-front-end : goal.slice_bounds-front-end
slice_bounds-front-end c = sym (length-take-le 60 c.args.part.now (omega arith))
