use Rattle.fb_types.proofs.Common.{◌≡◌, ℕ, List, [], get_or, drop, Some, sym, ◌∙◌, ap, arith, slice_get, Name, pair_up, with_values}
use Rattle.fb_st.specs.Frames.{Declared, declared_in, values_of}
use Rattle.fb_ecc.proofs.lemmas.Links.{nothing_left, samples_one, samples_none, value_here, value_past}
use Rattle.fb_ecc.proofs.lemmas.Located.{at_index, same_count, written_there}
use Rattle.fb_ecc.proofs.reaction.sample.Goals as goal
use Rattle.fb_ecc.proofs.reaction.sample.Goals.{in-Some, in_default}

pub loop-index-preserved : goal.loop-index-preserved
loop-index-preserved c =
    let i : ℕ = c.loop-index.index in
    let slots = c.args.slots.now in
    let values = c.args.values.now in
    elim c.match-get.branch [
      | in-Some w ↦
          let there = value_here values i c.get.result w.in-Some.value c.get.ensures.lookup.1 c.get.ensures.lookup.3 w.in-Some.is in
          rw w.frame-is (record {
            sampled = λ names are.
                let at = at_index (declared_in c.args.frame.now) names slots i are c.loop-index-test.true in
                let found : slice_get (declared_in c.loop-index.frame) (get_or slots i 0) ≡ Some at.0 = ap (λ (ds : List Declared). slice_get ds (get_or slots i 0)) c.loop-index.invariant.declared ∙ at.1 in
                let wrote = written_there _ at.0 w.in-Some.value.now (values_of c.loop-index.frame) (values_of w.put_at.new.self) c.loop-index.frame w.put_at.new.self w.put_at.ensures.value found in
                samples_one names values i at.0.0 w.in-Some.value.now (values_of c.loop-index.frame) (values_of w.put_at.new.self) at.2 there wrote
                ∙ c.loop-index.invariant.sampled names are;
            declared = w.put_at.ensures.declared ∙ c.loop-index.invariant.declared;
          })
      | in_default w ↦
          rw w.frame-is (record {
            sampled = λ names are.
                samples_none names values i (values_of c.loop-index.frame) (value_past values i c.get.result c.get.ensures.lookup.3 w.in_default.is)
                ∙ c.loop-index.invariant.sampled names are;
            declared = c.loop-index.invariant.declared;
          })
    ]

pub returns-clause-sampled : goal.returns-clause-sampled
returns-clause-sampled c = λ names are.
    let i : ℕ = c.loop-index.index in
    let none : drop i names ≡ [] = nothing_left names i (let n = same_count (declared_in c.args.frame.now) names c.args.slots.now are in let f = c.loop-index-test.false in omega (arith, n, f)) in
    sym (ap (λ (ns : List Name). with_values (pair_up ns (drop i c.args.values.now)) (values_of c.loop-index.frame)) none) ∙ c.loop-index.invariant.sampled names are
