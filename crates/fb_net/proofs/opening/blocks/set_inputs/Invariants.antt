use Rattle.fb_types.proofs.Common.{◌≡◌, drop, variable_names}
use Rattle.fb_st.specs.Frames.{declared_in, values_of}
use Rattle.fb_net.specs.Opening.{begun_all}
use Rattle.fb_net.proofs.opening.blocks.set_inputs.Given as goal

abbrev pub invariant-loop-index : goal.invariant-loop-index
invariant-loop-index l = record {
  values : begun_all (drop l.index (variable_names l.inputs)) (drop l.index l.values) (values_of l.frame) ≡ begun_all (variable_names l.inputs) l.values (values_of l.fn.frame);
  declared : declared_in l.frame ≡ declared_in l.fn.frame;
}
