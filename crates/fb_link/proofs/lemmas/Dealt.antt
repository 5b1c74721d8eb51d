-- One more message is dealt, and one more list is sorted.
use Rattle.fb_types.proofs.Common.{◌≡◌, ◌≢◌, ℕ, ◌+◌, ◌<◌, ◌≤◌, ◌++◌, List, [], ◌∷◌, length, Some, sym, ap, subst, ◌∙◌, append-nil, arith, slice_get, slice_set, Global, cond-true, cond-false, eq-eqb, ne_eqb, flat_map-append, slice_get_within, System}
use Rattle.fb_types.specs.declared.run.Message.{Message}
use Rattle.std.proofs.Common.{filter, Vec}
use Rattle.std.proofs.lemmas.List.Elements.{filter-append}
use Rattle.fb_link.specs.Messages.{receiver_of}
use Rattle.fb_link.specs.Exchanges.{goes_to, all_of, AreDealt, AreFor, AreSorted}
use Rattle.fb_link.proofs.lemmas.Lists.{set_each}

abbrev Boxes : Type 0
Boxes = List (Vec Message Global)

pub all_snoc : (boxes : Boxes) (box : Vec Message Global) → all_of (boxes ++ box ∷ []) ≡ all_of boxes ++ box.items
all_snoc boxes box = flat_map-append (λ (b : Vec Message Global). b.items) boxes (box ∷ []) ∙ ap (λ z. all_of boxes ++ z) (append-nil box.items)

-- the messages for a resource, of all and one more
pub goes : (sys : System) (all : List Message) (m : Message) (r : ℕ) → r ≡ receiver_of sys m → filter (goes_to sys r) (all ++ m ∷ []) ≡ filter (goes_to sys r) all ++ m ∷ []
goes sys all m r e =
    filter-append (goes_to sys r) all (m ∷ [])
    ∙ ap (λ z. filter (goes_to sys r) all ++ z) (cond-true (goes_to sys r m) (m ∷ []) [] (eq-eqb (receiver_of sys m) r (sym e)))

pub stays : (sys : System) (all : List Message) (m : Message) (r : ℕ) → r ≢ receiver_of sys m → filter (goes_to sys r) (all ++ m ∷ []) ≡ filter (goes_to sys r) all
stays sys all m r n =
    filter-append (goes_to sys r) all (m ∷ [])
    ∙ ap (λ z. filter (goes_to sys r) all ++ z) (cond-false (goes_to sys r m) (m ∷ []) [] (ne_eqb (receiver_of sys m) r (λ e. n (sym e))))
    ∙ append-nil (filter (goes_to sys r) all)

-- a message was put after those for its receiver
pub dealt_more : (sys : System) (all : List Message) (boxes news : Boxes) (m : Message) (r : ℕ) (box new : Vec Message Global) → r ≡ receiver_of sys m → r < length boxes
    → slice_get boxes r ≡ Some box → new.items ≡ box.items ++ m ∷ [] → news ≡ slice_set boxes r new → AreDealt sys all boxes → AreDealt sys (all ++ m ∷ []) news
dealt_more sys all boxes news m r box new to within was put set dealt =
    subst (AreDealt sys (all ++ m ∷ [])) (sym set)
    (set_each (λ q (b : Vec Message Global). b.items ≡ filter (goes_to sys q) (all ++ m ∷ [])) boxes r new within
    (put ∙ ap (λ z. z ++ m ∷ []) (dealt r box was) ∙ sym (goes sys all m r to))
    (λ q b apart there. dealt q b there ∙ sym (stays sys all m q (λ e. apart (e ∙ sym to)))))

-- The lists before an index are sorted, and the others are as they were dealt.
abbrev pub AreSortedTo : System → (all : List Message) → (index : ℕ) → Boxes → Type 0
AreSortedTo sys all n boxes =
    (r : ℕ) (box : Vec Message Global) → slice_get boxes r ≡ Some box → (r < n → AreFor sys r all box.items) × (n ≤ r → box.items ≡ filter (goes_to sys r) all)

pub sorted_none : (sys : System) (all : List Message) (boxes : Boxes) → AreDealt sys all boxes → AreSortedTo sys all 0 boxes
sorted_none sys all boxes dealt r box there = (λ b. absurd (omega arith), λ b. dealt r box there)

pub sorted_more : (sys : System) (all : List Message) (boxes news : Boxes) (n : ℕ) (box new : Vec Message Global) → n < length boxes
    → slice_get boxes n ≡ Some box → AreSorted box.items new.items → news ≡ slice_set boxes n new → AreSortedTo sys all n boxes → AreSortedTo sys all (n + 1) news
sorted_more sys all boxes news n box new within was sort set done =
    subst (AreSortedTo sys all (n + 1)) (sym set)
    (set_each (λ r (b : Vec Message Global). (r < n + 1 → AreFor sys r all b.items) × (n + 1 ≤ r → b.items ≡ filter (goes_to sys r) all)) boxes n new within
    (λ b. sort sys n all ((done n box was).1 (omega arith)), λ b. absurd (omega arith))
    (λ r b apart there. (λ l. (done r b there).0 (below r apart l), λ l. (done r b there).1 (omega arith))))
  where
    below : (r : ℕ) → r ≢ n → r < n + 1 → r < n
    below r apart l = omega arith

pub sorted_all : (sys : System) (all : List Message) (boxes : Boxes) (n : ℕ) → length boxes ≤ n → AreSortedTo sys all n boxes
    → (r : ℕ) (box : Vec Message Global) → slice_get boxes r ≡ Some box → AreFor sys r all box.items
sorted_all sys all boxes n enough done r box there = (done r box there).0 (let b = slice_get_within boxes r box there in omega arith)
