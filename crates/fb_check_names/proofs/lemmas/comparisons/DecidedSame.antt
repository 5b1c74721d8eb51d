-- Comparisons that decide whether names, ends of connections and ends of links are the same.
use Rattle.fb_types.proofs.Common.{◌≡◌, [], ◌∷◌, Option, Some, None, Bor, refl, sym, ◌∙◌, ap, Decides, is_eq, ordering_then, true≢false, Name, Path, Port}
use Rattle.std.proofs.Common.{Ordering}
use Rattle.std.specs.declared.cmp.Ordering.TheVariants as order
use Rattle.std.specs.Option.{option_cmp}
use Rattle.fb_types.specs.NameOrder as names
use Rattle.fb_types.proofs.lemmas.names.NameOrders.{name_cmp-Decides}
use Rattle.fb_check_names.specs.Ends.{End, end_port}
use Rattle.fb_check_names.specs.Pairs.{link_names}

-- ---- Comparisons that decide equality

abbrev pub name_cmp : Bor Name → Bor Name → Ordering
name_cmp x y = names.name_cmp x.now y.now

-- two keys are equal exactly if what they represent is
abbrev pub IsExact : {K Y : Type 0} → (K → K → Ordering) → (K → Y) → Type 0
IsExact {K} cmp view = (k q : K) → Decides (is_eq (cmp k q)) (view k ≡ view q)

pub name_cmp-exact : IsExact name_cmp (λ k. k.now)
name_cmp-exact k q = name_cmp-Decides k.now q.now

-- ---- Ends of connections

abbrev pub end_cmp : End → End → Ordering
end_cmp a b = ordering_then (option_cmp name_cmp a.0 b.0) (name_cmp a.1 b.1)

abbrev pub pair_cmp : End × End → End × End → Ordering
pair_cmp p q = ordering_then (end_cmp p.0 q.0) (end_cmp p.1 q.1)

abbrev pub pair_ports : End × End → Port × Port
pair_ports p = (end_port p.0, end_port p.1)

-- both parts are equal
pub then-Decides :
    {A B C : Type 0} (r s : Ordering) → Decides (is_eq r) A → Decides (is_eq s) B → (A → B → C) → (C → A) → (C → B) → Decides (is_eq (ordering_then r s)) C
then-Decides order.Less s a b both first second = (λ h. absurd (true≢false (sym h)), λ c. a.1 (first c))
then-Decides order.Equal s a b both first second = (λ h. both (a.0 refl) (b.0 h), λ c. b.1 (second c))
then-Decides order.Greater s a b both first second = (λ h. absurd (true≢false (sym h)), λ c. a.1 (first c))

abbrev end_path : Option (Bor Name) → Path
end_path o = elim o [ None ↦ [] | Some c ↦ c.now ∷ [] ]

option-Decides : (a b : Option (Bor Name)) → Decides (is_eq (option_cmp name_cmp a b)) (end_path a ≡ end_path b)
option-Decides None None = (λ _. refl, λ _. refl)
option-Decides None (Some y) = (λ h. absurd (true≢false (sym h)), λ e. absurd (cc))
option-Decides (Some x) None = (λ h. absurd (true≢false (sym h)), λ e. absurd (cc))
option-Decides (Some x) (Some y) =
    (λ h. ap (λ (n : Name). n ∷ []) ((name_cmp-Decides x.now y.now).0 h), λ e. (name_cmp-Decides x.now y.now).1 (let s : x.now ≡ y.now = cc in s))

end_port-is : (e : End) → end_port e ≡ record { at = end_path e.0; name = e.1.now }
end_port-is e = elim e.0 as (λ o. elim o as (λ _. Port) [ None ↦ record { at = []; name = e.1.now } | Some c ↦ record { at = c.now ∷ []; name = e.1.now } ] ≡ record { at = end_path o; name = e.1.now }) [
  | None ↦ refl
  | Some c ↦ refl
]

end-Decides : (a b : End) → Decides (is_eq (end_cmp a b)) (end_port a ≡ end_port b)
end-Decides a b =
    then-Decides (option_cmp name_cmp a.0 b.0) (name_cmp a.1 b.1) (option-Decides a.0 b.0) (name_cmp-Decides a.1.now b.1.now)
    (λ p n. end_port-is a ∙ (λ i. record { at = p i; name = n i }) ∙ sym (end_port-is b))
    (λ e. ap (λ (q : Port). q.at) (sym (end_port-is a) ∙ e ∙ end_port-is b))
    (λ e. ap (λ (q : Port). q.name) (sym (end_port-is a) ∙ e ∙ end_port-is b))

pub pair_cmp-exact : IsExact pair_cmp pair_ports
pair_cmp-exact p q =
    then-Decides (end_cmp p.0 q.0) (end_cmp p.1 q.1) (end-Decides p.0 q.0) (end-Decides p.1 q.1)
    (λ a b. λ i. (a i, b i))
    (λ e. ap (λ (x : Port × Port). x.0) e)
    (λ e. ap (λ (x : Port × Port). x.1) e)

-- ---- Ends of links

abbrev pub link_cmp : Bor Name × Bor Name → Bor Name × Bor Name → Ordering
link_cmp p q = ordering_then (name_cmp p.0 q.0) (name_cmp p.1 q.1)

pub link_cmp-exact : IsExact link_cmp link_names
link_cmp-exact p q =
    then-Decides (name_cmp p.0 q.0) (name_cmp p.1 q.1) (name_cmp-Decides p.0.now q.0.now) (name_cmp-Decides p.1.now q.1.now)
    (λ a b. λ i. (a i, b i))
    (λ e. ap (λ (x : Name × Name). x.0) e)
    (λ e. ap (λ (x : Name × Name). x.1) e)
