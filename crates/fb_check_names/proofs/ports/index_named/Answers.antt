use Rattle.fb_types.proofs.Common.{◌≡◌, ℕ, ◌<◌, ◌+◌, Bool, true, false, cond, List, ◌++◌, length, map, take, drop, get_or, Some, None, sym, ◌∙◌, ap, arith, position, is_some, list_any, length-map, length-take, map-append, take_all, take-append-drop, Name, same_name}
use Rattle.fb_types.proofs.lemmas.lists.LoopSteps.{map_take_more}
use Rattle.fb_types.proofs.lemmas.lists.Positions.{is_some-position, position-append_old, position-push_new}
use Rattle.fb_check_names.specs.Numbers.{index_of}
use Rattle.fb_check_names.proofs.ports.index_named.Goals as goal

-- if none of those so far has the name, the result of the next one is that of all up to it
pushed :
    {A : Type 0} (f : A → Name) (n : Name) (xs : List A) (i : ℕ) (x : A) (m : Name) (b : Bool) → i < length xs → x ≡ get_or xs i x → m ≡ f x
    → index_of (map f (take i xs)) n ≡ None → same_name n m ≡ b → index_of (map f (take (i + 1) xs)) n ≡ cond b (Some i) None
pushed f n xs i x m b h e named none is =
    let ys = map f (take i xs) in
    let counted : length ys ≡ i = length-map (take i xs) f ∙ length-take i xs ∙ (grind arith) in
    let new : list_any (same_name n) ys ≡ false = sym (is_some-position (same_name n) ys) ∙ ap is_some none in
    ap (position (same_name n)) (map_take_more f xs i x h e) ∙ position-push_new (same_name n) ys (f x) new
    ∙ (λ j. cond ((ap (same_name n) (sym named) ∙ is) j) (Some (counted j)) None)

found :
    {A : Type 0} (f : A → Name) (n : Name) (xs : List A) (i : ℕ) (x : A) (m : Name) → i < length xs → x ≡ get_or xs i x → m ≡ f x
    → index_of (map f (take i xs)) n ≡ None → same_name n m ≡ true → Some i ≡ index_of (map f xs) n
found f n xs i x m h e named none is =
    let whole : map f (take (i + 1) xs) ++ map f (drop (i + 1) xs) ≡ map f xs =
    sym (map-append f (take (i + 1) xs) (drop (i + 1) xs)) ∙ ap (map f) (take-append-drop (i + 1) xs) in
    sym (position-append_old (same_name n) (map f (take (i + 1) xs)) (map f (drop (i + 1) xs)) i (pushed f n xs i x m true h e named none is))
    ∙ ap (position (same_name n)) whole

pub returns-then-is : goal.returns-then-is
returns-then-is g c =
    found g.T.Named.called c.args.name.now _ _ _ c.name.result.now c.loop-index-test.true c.index-items-index.is c.name.ensures c.loop-index.invariant
    (sym c.is.ensures ∙ c.if-is.true)

pub loop-index-preserved : goal.loop-index-preserved
loop-index-preserved g c =
    pushed g.T.Named.called c.args.name.now _ _ _ c.name.result.now false c.loop-index-test.true c.index-items-index.is c.name.ensures c.loop-index.invariant
    (sym c.is.ensures ∙ c.if-is.false)

pub returns : goal.returns
returns g c =
    sym c.loop-index.invariant
    ∙ ap (λ xs. index_of (map g.T.Named.called xs) c.args.name.now) (take_all c.loop-index.index c.args.items.now c.loop-index-test.false)
