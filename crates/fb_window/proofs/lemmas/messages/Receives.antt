-- Messages that resources receive one after another.
use Rattle.fb_window.proofs.lemmas.Common.{◌≡◌, ℕ, ◌<◌, Some, List, [], ◌∷◌, ◌++◌, map, length, refl, sym, ap, ◌∙◌, subst, arith, All, inl, inr, ◌⊎◌, slice_get, slice_set, filter, cases_eq, length-set, All-nil, All-head, All-tail, Inputs, system_of, found, machine, System, Key, Message, arriving, receiver_of, IsFor, Resource, AreGiven}
use Rattle.fb_types.proofs.Common.{◌≢◌, All-cons, or_else, Local}
use Rattle.fb_types.proofs.lemmas.lists.Lookups.{found-append, or_else_assoc}
use Rattle.fb_link.specs.Exchanges.{goes_to}
use Rattle.fb_link.proofs.lemmas.Dealt.{goes, stays}
use Rattle.fb_resource.proofs.lemmas.Lists.{set_here, set_apart}
use Rattle.fb_resource.specs.Resources.{HasReceived, Represents, with_messages}
use Rattle.fb_window.proofs.lemmas.messages.Delivers.{map_append}
use Rattle.fb_laws.proofs.lemmas.lists.Indexes.{has_at, is_at, one_at}

-- ---- One resource

-- where none come, it is as it was
received_none : (x : Resource) → HasReceived [] x x
received_none x = record { besides = refl; of = λ i of fit. of; represents = λ i limit of fit l s. s }

all_front : {X : Type 0} (P : X → Type 0) (xs ys : List X) → All P (xs ++ ys) → All P xs
all_front P [] ys h = All-nil P
all_front P (x ∷ xs) ys h = All-cons P x xs (All-head P x (xs ++ ys) h) (all_front P xs ys (All-tail P x (xs ++ ys) h))

all_back : {X : Type 0} (P : X → Type 0) (xs ys : List X) → All P (xs ++ ys) → All P ys
all_back P [] ys h = h
all_back P (x ∷ xs) ys h = all_back P xs ys (All-tail P x (xs ++ ys) h)

-- and of one more after the others
received_more : (ms : List Message) (m : Message) (x y z : Resource) → HasReceived ms x y → HasReceived (m ∷ []) y z → HasReceived (ms ++ m ∷ []) x z
received_more ms m x y z f g = record {
  besides = g.besides ∙ ap (λ (u : Resource). record u { agenda = z.agenda }) f.besides;
  of = λ i of fit. g.of i (f.of i of (front i fit)) (last i fit);
  represents = λ i limit of fit l s.
      subst (λ (n : Local (machine (system_of i) limit)). Represents i limit n z) (joined i limit l)
      (g.represents i limit (f.of i of (front i fit)) (last i fit) (with_messages i limit ms l) (f.represents i limit of (front i fit) l s));
}
  where
    front : (i : Inputs) → All (IsFor i x) (ms ++ m ∷ []) → All (IsFor i x) ms
    front i fit = all_front (IsFor i x) ms (m ∷ []) fit

    last : (i : Inputs) → All (IsFor i x) (ms ++ m ∷ []) → All (IsFor i y) (m ∷ [])
    last i fit =
        let it = All-head (IsFor i x) m [] (all_back (IsFor i x) ms (m ∷ []) fit) in
        All-cons (IsFor i y) m []
        (record {
          message = it.message;
          here = it.here ∙ sym (ap (λ (u : Resource). u.tree.resource) f.besides);
          later = let same = ap (λ (u : Resource). u.clock) f.besides in let late = it.later in omega arith;
        })
        (All-nil (IsFor i y))

    inbox_is : (i : Inputs) (limit : ℕ) (l : Local (machine (system_of i) limit)) (k : Key)
        → or_else (found k (map (arriving i) (m ∷ []))) (or_else (found k (map (arriving i) ms)) (l.inbox k)) ≡ or_else (found k (map (arriving i) (ms ++ m ∷ []))) (l.inbox k)
    inbox_is i limit l k =
        sym (or_else_assoc (found k (map (arriving i) (m ∷ []))) (found k (map (arriving i) ms)) (l.inbox k))
        ∙ ap (λ o. or_else o (l.inbox k)) (sym (found-append k (map (arriving i) ms) (map (arriving i) (m ∷ []))) ∙ ap (λ z. found k z) (sym (map_append (arriving i) ms (m ∷ []))))

    joined : (i : Inputs) (limit : ℕ) (l : Local (machine (system_of i) limit)) → with_messages i limit (m ∷ []) (with_messages i limit ms l) ≡ with_messages i limit (ms ++ m ∷ []) l
    joined i limit l = λ u. record l { inbox = λ k. inbox_is i limit l k u }

-- ---- All of them

pub given_none : (sys : System) (xs : List Resource) → AreGiven sys [] xs xs
given_none sys xs = record { counted = refl; each = λ r x e. (x, e, received_none x) }

-- what is at another index of a list in which one element was set
pub set_other : {A : Type 0} (xs : List A) (i j : ℕ) (x y : A) → j ≢ i → slice_get xs j ≡ Some y → slice_get (slice_set xs i x) j ≡ Some y
set_other xs i j x y apart e =
    let b = is_at xs j y e in
    let n = length-set xs i x in
    let f = has_at (slice_set xs i x) j (omega arith) in
    f.1 ∙ ap (λ z. Some z) (one_at xs j f.0 y (set_apart xs i j x f.0 apart f.1) e)

pub set_same : {A : Type 0} (xs : List A) (i : ℕ) (x : A) → i < length xs → slice_get (slice_set xs i x) i ≡ Some x
set_same xs i x b =
    let n = length-set xs i x in
    let f = has_at (slice_set xs i x) i (omega arith) in
    f.1 ∙ ap (λ z. Some z) (sym (set_here xs i x f.0 b f.1))

-- one more message is received
pub given_more : (sys : System) (ms : List Message) (m : Message) (xs ys : List Resource) (r : ℕ) (y z : Resource) → AreGiven sys ms xs ys → slice_get ys r ≡ Some y → receiver_of sys m ≡ r
    → HasReceived (m ∷ []) y z → AreGiven sys (ms ++ m ∷ []) xs (slice_set ys r z)
given_more sys ms m xs ys r y z g at to h = record {
  counted = length-set ys r z ∙ g.counted;
  each = λ q x e. go q x e (cases_eq q r);
}
  where
    go : (q : ℕ) (x : Resource) → slice_get xs q ≡ Some x → ((q ≡ r) ⊎ (q ≢ r)) → (u : Resource) × (slice_get (slice_set ys r z) q ≡ Some u) × HasReceived (filter (goes_to sys q) (ms ++ m ∷ [])) x u
    go q x e (inl same) =
        let p = g.each q x e in
        let was : p.0 ≡ y = one_at ys r p.0 y (subst (λ (n : ℕ). slice_get ys n ≡ Some p.0) same p.1) at in (
          z,
          subst (λ (n : ℕ). slice_get (slice_set ys r z) n ≡ Some z) (sym same) (set_same ys r z (is_at ys r y at)),
          subst (λ (ns : List Message). HasReceived ns x z) (sym (goes sys ms m q (same ∙ sym to)))
              (received_more (filter (goes_to sys q) ms) m x y z (subst (λ (u : Resource). HasReceived (filter (goes_to sys q) ms) x u) was p.2) h),
        )
    go q x e (inr apart) =
        let p = g.each q x e in (
          p.0,
          set_other ys r q z p.0 apart p.1,
          subst (λ (ns : List Message). HasReceived ns x p.0) (sym (stays sys ms m q (λ f. apart (f ∙ to)))) p.2,
        )
