use Rattle.fb_types.proofs.Common.{◌≡◌, ◌≢◌, ◌<◌, ◌+◌, ◌-◌, ◌∙◌, ℕ, Bool, true, false, cond, List, Some, length, take, get_or, sym, ap, subst, arith, slice_get, filter, slice_get-get_or, same_name}
use Rattle.fb_types.specs.declared.library.Transition.{Transition}
use Rattle.std.proofs.lemmas.List.Filters.{length-filter_more}
use Rattle.fb_stop.proofs.place.transition_index.Goals as goal
use Rattle.fb_stop.proofs.place.transition_index.Goals.{then-is+else-left-eq0, else-is}

-- how many of those so far pass a test, with one more
counted : (p : Transition → Bool) (xs : List Transition) (i : ℕ) (x : Transition) (b : Bool) → i < length xs → x ≡ get_or xs i x → p x ≡ b
    → length (filter p (take (i + 1) xs)) ≡ length (filter p (take i xs)) + cond b 1 0
counted p xs i x b within at is =
    length-filter_more p xs i x within ∙ ap (λ (c : Bool). length (filter p (take i xs)) + cond c 1 0) (ap p (sym at) ∙ is)

one_less : (left before after nth : ℕ) → left ≢ 0 → after ≡ before + 1 → left + before ≡ nth → left - 1 + after ≡ nth
one_less left before after nth some more all = omega arith

as_many : (left before after nth : ℕ) → after ≡ before + 0 → left + before ≡ nth → left + after ≡ nth
as_many left before after nth more all = omega arith

none_left : (left before nth : ℕ) → left ≡ 0 → left + before ≡ nth → before ≡ nth
none_left left before nth none all = omega arith

pub loop-index-preserved : goal.loop-index-preserved
loop-index-preserved c =
    let leaves : Transition → Bool = λ x. same_name x.from c.args.state.now in
    let ts : List Transition = c.args.block.now.transitions in
    let i : ℕ = c.loop-index.index in
    let left : ℕ = c.loop-index.left in
    let before : ℕ = length (filter leaves (take i ts)) in
    let after : ℕ = length (filter leaves (take (i + 1) ts)) in
    let more = λ (b : Bool) (is : c.is.result ≡ b). subst (λ (l : List Transition). length (filter leaves (take (i + 1) l)) ≡ length (filter leaves (take i l)) + cond b 1 0) c.as_slice-transition-items.ensures
    (counted leaves c.as_slice-transition-items.result.now i c.transition-item.result b c.loop-index-test.true c.transition-item.is (sym c.is.ensures ∙ is)) in
    elim c.if-is.branch [
      | then-is+else-left-eq0 w ↦ rw w.left-is (one_less left before after c.args.nth w.if-left-eq0.false (more true w.if-is.true) c.loop-index.invariant)
      | else-is w ↦ rw w.left-is (as_many left before after c.args.nth (more false w.if-is.false) c.loop-index.invariant)
    ]

pub returns-then-left-eq0-clause-found : goal.returns-then-left-eq0-clause-found
returns-then-left-eq0-clause-found c =
    let leaves : Transition → Bool = λ x. same_name x.from c.args.state.now in
    let i : ℕ = c.loop-index.index in
    let x : Transition = c.transition-item.result in
    let read : slice_get c.as_slice-transition-items.result.now i ≡ Some x =
    slice_get-get_or c.as_slice-transition-items.result.now i x c.loop-index-test.true ∙ ap Some (sym c.transition-item.is) in
    record {
      transition = x;
      at = subst (λ (l : List Transition). slice_get l i ≡ Some x) c.as_slice-transition-items.ensures read;
      leaves = sym c.is.ensures ∙ c.if-is.true;
      before = none_left c.loop-index.left (length (filter leaves (take i c.args.block.now.transitions))) c.args.nth c.if-left-eq0.true c.loop-index.invariant;
    }
