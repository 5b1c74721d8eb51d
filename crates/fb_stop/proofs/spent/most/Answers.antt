use Rattle.fb_types.proofs.Common.{◌≡◌, ◌<◌, ◌≤◌, ◌+◌, ℕ, List, Option, Some, None, length, below_more, get_or, arith, slice_get, get_or_from_slice_get, slice_get-get_or, slice_get_within}
use Rattle.std.specs.Prelude.{IfNone}
use Rattle.fb_stop.specs.Spent.{AreNone}
use Rattle.std.proofs.lemmas.Option.{IfSome_then}
use Rattle.fb_stop.proofs.spent.most.Goals as goal
use Rattle.fb_stop.proofs.spent.most.Goals.{then-spent-index, else-spent-index}

-- no number so far is greater, nor is one more
none_greater : (xs : List ℕ) (i old new : ℕ) → ((j x : ℕ) → j < i → slice_get xs j ≡ Some x → x ≤ old) → old ≤ new → get_or xs i 0 ≤ new
    → (j x : ℕ) → j < i + 1 → slice_get xs j ≡ Some x → x ≤ new
none_greater xs i old new all more here j x below at =
    below_more (λ (k : ℕ). (y : ℕ) → slice_get xs k ≡ Some y → y ≤ new) i
    (λ k lt y found. let h = all k y lt found in omega (arith, h, more))
    (λ y found. let e = get_or_from_slice_get xs i y 0 found in omega (arith, e, here))
    j below x at

pub loop-index-preserved : goal.loop-index-preserved
loop-index-preserved c =
    let xs : List ℕ = c.args.spent.now in
    let i : ℕ = c.loop-index.index in
    let old : ℕ = c.loop-index.most in
    let inv = c.loop-index.invariant in
    elim c.if-spent-index.branch [
      | then-spent-index w ↦
          let more = w.if-spent-index.true in
          rw (w.most-is, w.found-is) (record {
            all = none_greater xs i old (get_or xs i 0) inv.all (omega (arith, more)) (omega arith);
            found = slice_get-get_or xs i 0 c.loop-index-test.true;
            within = omega arith;
            some = omega (arith, more);
            first = λ j x before at. let less = inv.all j x before at in omega (arith, less, more);
            none = tt;
          })
      | else-spent-index w ↦
          let less = w.if-spent-index.false in
          rw (w.most-is, w.found-is) (record {
            all = none_greater xs i old old inv.all (omega arith) (omega (arith, less));
            found = inv.found;
            within = IfSome_then c.loop-index.found inv.within (λ k lt. omega (arith, lt));
            some = inv.some;
            first = inv.first;
            none = inv.none;
          })
    ]

-- at the end all numbers were seen: where none was found, none is more than 0
all_none : (xs : List ℕ) (i most : ℕ) (o : Option ℕ) → length xs ≤ i → ((j x : ℕ) → j < i → slice_get xs j ≡ Some x → x ≤ most) → IfNone o (most ≡ 0) → IfNone o (AreNone xs)
all_none xs i most (Some k) end all is = tt
all_none xs i most None end all is = λ j x at.
    let within = slice_get_within xs j x at in
    let less = all j x (omega (arith, within, end)) at in
    omega (arith, less, is)

pub returns-clause-none : goal.returns-clause-none
returns-clause-none c = all_none c.args.spent.now c.loop-index.index c.loop-index.most c.loop-index.found c.loop-index-test.false c.loop-index.invariant.all c.loop-index.invariant.none
