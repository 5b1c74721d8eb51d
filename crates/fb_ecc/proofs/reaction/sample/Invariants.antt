use Rattle.fb_types.proofs.Common.{◌≡◌, List, drop, Name, pair_up, with_values}
use Rattle.fb_st.specs.Frames.{values_of, declared_in}
use Rattle.fb_ecc.specs.Located.{AreAt}
use Rattle.fb_ecc.proofs.reaction.sample.Given as goal

-- the rest of the values makes of the variables what all values make of them from the start
abbrev pub invariant-loop-index : goal.invariant-loop-index
invariant-loop-index l = record {
  sampled : (names : List Name) → AreAt (declared_in l.initial.frame) names l.slots
      → with_values (pair_up (drop l.index names) (drop l.index l.values)) (values_of l.frame) ≡ with_values (pair_up names l.values) (values_of l.initial.frame);
  declared : declared_in l.frame ≡ declared_in l.initial.frame;
}
