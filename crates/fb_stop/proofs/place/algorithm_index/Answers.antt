use Rattle.fb_types.proofs.Common.{◌≡◌, ◌∙◌, ℕ, false, List, Some, sym, ap, subst, below_more, length, ◌≤◌, arith, slice_get, slice_get-get_or, slice_get_within, same_name}
use Rattle.fb_types.specs.declared.library.Algorithm.{Algorithm}
use Rattle.fb_stop.proofs.place.algorithm_index.Goals as goal

some-is : {A : Type 0} (x y : A) → Some x ≡ Some y → x ≡ y
some-is x y e = cc

pub returns-then-is-clause-found : goal.returns-then-is-clause-found
returns-then-is-clause-found c =
    let xs : List Algorithm = c.as_slice-algorithm-items.result.now in
    let i : ℕ = c.loop-index.index in
    let found = c.algorithm-item.result in
    let read : slice_get xs i ≡ Some found = slice_get-get_or xs i found c.loop-index-test.true ∙ ap Some (sym c.algorithm-item.is) in
    record {
      algorithm = found;
      at = subst (λ (l : List Algorithm). slice_get l i ≡ Some found) c.as_slice-algorithm-items.ensures read;
      named = sym c.is.ensures ∙ c.if-is.true;
      first = λ j a low at. c.loop-index.invariant j a low at;
    }

pub loop-index-preserved : goal.loop-index-preserved
loop-index-preserved c =
    let n = c.args.name.now in
    let xs : List Algorithm = c.args.block.now.algorithms in
    let i : ℕ = c.loop-index.index in
    let one = c.algorithm-item.result in
    let read : slice_get xs i ≡ Some one = subst (λ (l : List Algorithm). slice_get l i ≡ Some one) c.as_slice-algorithm-items.ensures
    (slice_get-get_or c.as_slice-algorithm-items.result.now i one c.loop-index-test.true ∙ ap Some (sym c.algorithm-item.is)) in
    λ j a low at.
    below_more (λ (j : ℕ). (a : Algorithm) → slice_get xs j ≡ Some a → same_name n a.name ≡ false) i
    (λ j low a at. c.loop-index.invariant j a low at)
    (λ a at. let same : a ≡ one = some-is a one (sym at ∙ read) in ap (λ (x : Algorithm). same_name n x.name) same ∙ (sym c.is.ensures ∙ c.if-is.false))
    j low a at

pub returns-clause-none : goal.returns-clause-none
returns-clause-none c = λ j a at.
    let xs : List Algorithm = c.args.block.now.algorithms in
    let within = slice_get_within xs j a at in
    let all : length xs ≤ c.loop-index.index = subst (λ (l : List Algorithm). length l ≤ c.loop-index.index) c.as_slice-algorithm-items.ensures c.loop-index-test.false in
    c.loop-index.invariant j a (omega (arith, within, all)) at
