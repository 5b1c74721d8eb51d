use Rattle.fb_types.proofs.Common.{◌∙◌, Decides-eqb, slice_eq-Decides}
use Rattle.fb_inspect.proofs.refused.fault_names.taken_of.Goals as goal

pub returns-then-eq : goal.returns-then-eq
returns-then-eq c =
    (slice_eq-Decides Decides-eqb c.args.sign.now c.as_slice.result.now c.eq.result c.eq.ensures).0 c.if-eq.true ∙ c.as_slice.ensures
