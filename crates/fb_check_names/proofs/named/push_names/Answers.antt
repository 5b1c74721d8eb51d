use Rattle.fb_types.proofs.Common.{◌≡◌, ℕ, ◌<◌, ◌+◌, Bor, List, [], ◌∷◌, ◌++◌, length, map, take, get_or, sym, ap, ◌∙◌, append-nil, append_assoc, map-append, take_all, Name}
use Rattle.fb_types.proofs.lemmas.lists.LoopSteps.{map_take_more}
use Rattle.fb_check_names.specs.Indexes.{names_in}
use Rattle.fb_check_names.proofs.named.push_names.Goals as goal

-- one more name after those so far
names_more :
    {A : Type 0} (f : A → Name) (xs : List A) (i : ℕ) (x : A) (before so_far after : List (Bor Name)) (n : Bor Name) → i < length xs → x ≡ get_or xs i x
    → n.now ≡ f x → names_in so_far ≡ names_in before ++ map f (take i xs) → after ≡ so_far ++ n ∷ []
    → names_in after ≡ names_in before ++ map f (take (i + 1) xs)
names_more f xs i x before so_far after n h e named are grown =
    ap names_in grown ∙ map-append (λ (n : Bor Name). n.now) so_far (n ∷ []) ∙ ap (λ ns. ns ++ n.now ∷ []) are
    ∙ append_assoc (names_in before) (map f (take i xs)) (n.now ∷ [])
    ∙ ap (λ ns. names_in before ++ ns) (ap (λ m. map f (take i xs) ++ m ∷ []) named ∙ sym (map_take_more f xs i x h e))

pub loop-item-init : goal.loop-item-init
loop-item-init g c = sym (append-nil (names_in c.args.names.now.items))

pub loop-item-preserved : goal.loop-item-preserved
loop-item-preserved g c =
    names_more g.T.Named.called _ _ _ c.args.names.now.items _ _ c.name.result c.loop-item-test.true c.item-item.is c.name.ensures c.loop-item.invariant
    c.in_ok-push.ensures.items

pub returns : goal.returns
returns g c =
    c.loop-item.invariant
    ∙ ap (λ xs. names_in c.args.names.now.items ++ map g.T.Named.called xs) (take_all c.loop-item.item-index c.args.items.now c.loop-item-test.false)
