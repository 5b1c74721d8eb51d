-- Sets of what was seen so far, by their keys.
use Rattle.fb_types.proofs.Common.{◌≡◌, ◌⊎◌, ℕ, ◌<◌, ◌+◌, Bool, true, false, cond, List, [], ◌∷◌, ◌++◌, length, map, take, get_or, Option, Some, None, Contains, Bor, refl, sym, ◌∙◌, ap, subst, inl, inr, list_any, Decides, nat_cmp, is_eq, ordering_then, true≢false, Contains-append_left, Contains-push, Contains-push_cases, Name, Port}
use Rattle.std.proofs.Common.{Ordering}
use Rattle.std.specs.Cmp.Lexicographic.{slice_cmp}
use Rattle.std.specs.Option.{option_cmp}
use Rattle.std.specs.declared.cmp.Ordering.TheVariants as order
use Rattle.std.specs.BTreeSet as set
use Rattle.fb_types.proofs.lemmas.lists.LoopSteps.{more_of_part}
use Rattle.fb_types.proofs.lemmas.names.NameOrders.{name_cmp-Decides, slice_cmp-Decides}
use Rattle.fb_check_names.proofs.lemmas.comparisons.DecidedSame.{IsExact}
use Rattle.fb_check.specs.networks.Serving.{Lead, lead_cmp, lead_port, path_of, name_cmp}

-- ---- Comparisons that decide equality

-- both parts are equal
pub then-Decides :
    {A B C : Type 0} (r s : Ordering) → Decides (is_eq r) A → Decides (is_eq s) B → (A → B → C) → (C → A) → (C → B) → Decides (is_eq (ordering_then r s)) C
then-Decides order.Less s a b both first second = (λ h. absurd (true≢false (sym h)), λ c. a.1 (first c))
then-Decides order.Equal s a b both first second = (λ h. both (a.0 refl) (b.0 h), λ c. b.1 (second c))
then-Decides order.Greater s a b both first second = (λ h. absurd (true≢false (sym h)), λ c. a.1 (first c))

then-equal : (r : Ordering) → is_eq (ordering_then r order.Equal) ≡ is_eq r
then-equal order.Less = refl
then-equal order.Equal = refl
then-equal order.Greater = refl

nat_cmp-Decides : (m n : ℕ) → Decides (is_eq (nat_cmp m n)) (m ≡ n)
nat_cmp-Decides m n =
    let P : Bool → Type 0 = λ b. Decides b (m ≡ n) in
    let one = slice_cmp-Decides (m ∷ []) (n ∷ []) in
    subst P (then-equal (nat_cmp m n)) (λ h. (let e = one.0 h in cc), λ e. one.1 (ap (λ k. k ∷ []) e))

option-Decides : (a b : Option (Bor Name)) → Decides (is_eq (option_cmp name_cmp a b)) (path_of a ≡ path_of b)
option-Decides None None = (λ _. refl, λ _. refl)
option-Decides None (Some y) = (λ h. absurd (true≢false (sym h)), λ e. absurd (cc))
option-Decides (Some x) None = (λ h. absurd (true≢false (sym h)), λ e. absurd (cc))
option-Decides (Some x) (Some y) =
    (λ h. ap (λ (n : Name). n ∷ []) ((name_cmp-Decides x.now y.now).0 h), λ e. (name_cmp-Decides x.now y.now).1 (let s : x.now ≡ y.now = cc in s))

-- the port and the resource
abbrev pub lead_view : Lead → Port × ℕ
lead_view k = (lead_port k, k.2)

pub lead_cmp-exact : IsExact lead_cmp lead_view
lead_cmp-exact a b =
    let ports : Decides (is_eq (ordering_then (option_cmp name_cmp a.0 b.0) (name_cmp a.1 b.1))) (lead_port a ≡ lead_port b) =
    then-Decides (option_cmp name_cmp a.0 b.0) (name_cmp a.1 b.1) (option-Decides a.0 b.0) (name_cmp-Decides a.1.now b.1.now)
    (λ p n. λ i. record { at = p i; name = n i }) (λ e. ap (λ (q : Port). q.at) e) (λ e. ap (λ (q : Port). q.name) e) in
    then-Decides (ordering_then (option_cmp name_cmp a.0 b.0) (name_cmp a.1 b.1)) (nat_cmp a.2 b.2) ports (nat_cmp-Decides a.2 b.2)
    (λ p r. λ i. (p i, r i)) (λ e. ap (λ (x : Port × ℕ). x.0) e) (λ e. ap (λ (x : Port × ℕ). x.1) e)

-- the names of two resources
abbrev pub Pair : Type 0
Pair = Bor Name × Bor Name

abbrev pub pair_cmp : Pair → Pair → Ordering
pair_cmp a b = ordering_then (slice_cmp nat_cmp a.0.now b.0.now) (slice_cmp nat_cmp a.1.now b.1.now)

abbrev pub pair_view : Pair → Name × Name
pair_view k = (k.0.now, k.1.now)

pub pair_cmp-exact : IsExact pair_cmp pair_view
pair_cmp-exact a b =
    then-Decides (slice_cmp nat_cmp a.0.now b.0.now) (slice_cmp nat_cmp a.1.now b.1.now) (slice_cmp-Decides a.0.now b.0.now) (slice_cmp-Decides a.1.now b.1.now)
    (λ p q. λ i. (p i, q i)) (λ e. ap (λ (x : Name × Name). x.0) e) (λ e. ap (λ (x : Name × Name). x.1) e)

-- ---- What a set has

-- the set has the keys at which a fact holds
abbrev pub Has : {K Y : Type 0} → (K → K → Ordering) → (K → Y) → (Y → Type 0) → set.BTreeSet K → Type 0
Has {K} cmp view P s = (k : K) → Decides (set.contains cmp s k) (P (view k))

pub has_none : {K Y : Type 0} (cmp : K → K → Ordering) (view : K → Y) (P : Y → Type 0) (s : set.BTreeSet K) → s.keys ≡ [] → ((y : Y) → ¬ (P y)) → Has cmp view P s
has_none cmp view P s e none k =
    (λ h. absurd (true≢false (sym h ∙ ap (list_any (λ q. is_eq (cmp k q))) e)), λ p. absurd (none (view k) p))

-- one more key
pub has_more :
    {K Y : Type 0} (cmp : K → K → Ordering) (view : K → Y) (P Q : K → Type 0) (s t : set.BTreeSet K) (k : K) → IsExact cmp view
    → ((q : K) → Decides (set.contains cmp s q) (P q)) → ((q : K) → set.contains cmp t q ≡ cond (is_eq (cmp k q)) true (set.contains cmp s q))
    → ((q : K) → P q → Q q) → ((q : K) → view k ≡ view q → Q q) → ((q : K) → Q q → P q ⊎ (view k ≡ view q))
    → (q : K) → Decides (set.contains cmp t q) (Q q)
has_more cmp view P Q s t k exact has updates old new cases q =
    let D : Bool → Type 0 = λ b. Decides b (Q q) in
    subst D (sym (updates q))
    (elim (is_eq (cmp k q)) as (λ b. is_eq (cmp k q) ≡ b → Decides (cond b true (set.contains cmp s q)) (Q q)) [
      | true ↦ λ e. (λ _. new q ((exact k q).0 e), λ _. refl)
      | false ↦ λ e. (
        λ h. old q ((has q).0 h),
        λ p. elim (cases q p) [
          | inl before ↦ (has q).1 before
          | inr same ↦ absurd (true≢false (sym ((exact k q).1 same) ∙ e))
        ],
      )
    ] refl)

-- a set of the elements of a list, with one more
pub elements_more :
    {A K Y : Type 0} (cmp : K → K → Ordering) (view : K → Y) (f : A → Y) (xs : List A) (i : ℕ) (x : A) (s t : set.BTreeSet K) (k : K)
    → IsExact cmp view → i < length xs → x ≡ get_or xs i x → view k ≡ f x → Has cmp view (Contains (map f (take i xs))) s
    → ((q : K) → set.contains cmp t q ≡ cond (is_eq (cmp k q)) true (set.contains cmp s q)) → Has cmp view (Contains (map f (take (i + 1) xs))) t
elements_more {K = K} {Y = Y} cmp view f xs i x s t k exact h e g has updates =
    let P : List Y → Type 0 = λ ys. Has cmp view (Contains ys) t in
    let ys = map f (take i xs) in
    more_of_part P f xs i x (view k) h e g
    (has_more cmp view (λ (q : K). Contains ys (view q)) (λ (q : K). Contains (ys ++ view k ∷ []) (view q)) s t k exact has updates
    (λ q c. Contains-append_left ys (view k ∷ []) (view q) c)
    (λ q same. subst (λ (y : Y). Contains (ys ++ view k ∷ []) y) same (Contains-push ys (view k)))
    (λ q c. Contains-push_cases ys (view k) (view q) c))
