use Rattle.fb_types.proofs.Common.{◌≡◌, ℕ, ◌+◌, ◌-◌, ◌<◌, ◌≤◌, List, [], ◌∷◌, drop, get_or, length, Some, None, refl, sym, ap, ◌∙◌, arith, lt-ltb, le-ltb, at_drop_all, at_drop_more}
use Rattle.fb_types.specs.declared.deploy.ResourceEntry.{ResourceEntry}
use Rattle.fb_why.specs.InputPlaces.{listed, listed_at}
use Rattle.fb_why.proofs.input_place.listed_at.Goals as goal

-- the resource at hand
here : (xs : List ResourceEntry) (r k : ℕ) (x : ResourceEntry) → r < length xs → x ≡ get_or xs r x → listed_at r (drop r xs) k ≡ listed_at r (x ∷ drop (r + 1) xs) k
here xs r k x within is =
    at_drop_more (λ (ys : List ResourceEntry). listed_at r ys k) xs r x within ∙ ap (λ (y : ResourceEntry). listed_at r (y ∷ drop (r + 1) xs) k) (sym is)

in_this : (xs : List ResourceEntry) (r k : ℕ) (x : ResourceEntry) → k < length x.instances → listed_at r (x ∷ xs) k ≡ Some (listed r k)
unfolding listed_at
in_this xs r k x within = rw (lt-ltb k (length x.instances) within) refl

in_others : (xs : List ResourceEntry) (r k : ℕ) (x : ResourceEntry) → length x.instances ≤ k → listed_at r (x ∷ xs) k ≡ listed_at (r + 1) xs (k - length x.instances)
unfolding listed_at
in_others xs r k x past = rw (le-ltb k (length x.instances) past) refl

in_none : (r k : ℕ) → listed_at r [] k ≡ None
unfolding listed_at
in_none r k = refl

pub returns-then-left-count : goal.returns-then-left-count
returns-then-left-count c =
    let x = c.index-resources-resource.result in
    let r = c.loop-resource.resource in
    let k = c.loop-resource.left in
    let within : k < length x.instances = omega (arith, c.len-count.ensures) in
    ap (λ p. Some p) c.listed.ensures
    ∙ sym (c.loop-resource.invariant ∙ here c.args.resources.now r k x c.loop-resource-test.true c.index-resources-resource.is ∙ in_this (drop (r + 1) c.args.resources.now) r k x within)

pub loop-resource-preserved : goal.loop-resource-preserved
loop-resource-preserved c =
    let x = c.index-resources-resource.result in
    let r = c.loop-resource.resource in
    let k = c.loop-resource.left in
    let past : length x.instances ≤ k = omega (arith, c.len-count.ensures) in
    c.loop-resource.invariant ∙ here c.args.resources.now r k x c.loop-resource-test.true c.index-resources-resource.is ∙ in_others (drop (r + 1) c.args.resources.now) r k x past
    ∙ ap (λ (n : ℕ). listed_at (r + 1) (drop (r + 1) c.args.resources.now) (k - n)) (sym c.len-count.ensures)

pub returns : goal.returns
returns c =
    let r = c.loop-resource.resource in
    let k = c.loop-resource.left in
    sym (c.loop-resource.invariant ∙ at_drop_all (λ (ys : List ResourceEntry). listed_at r ys k) c.args.resources.now r c.loop-resource-test.false ∙ in_none r k)
