-- The charts that the blocks of a resource share.
use Rattle.fb_types.proofs.Common.{◌≡◌, ℕ, true, false, cond, nat_eq, [], ◌⊎◌, Some, None, refl, sym, ◌∙◌, ap, subst, inl, inr, arith, slice_get, IfSome, lookup, is_eq, nat_cmp, Inputs, nat_tests, same_Some}
use Rattle.fb_types.specs.declared.library.BasicType.{BasicType}
use Rattle.std.specs.BTreeMap.{get, is_at}
use Rattle.fb_types.specs.declared.library.BlockType.TheVariants as block
use Rattle.fb_ecc.specs.Programs.{IsSharedOf}
use Rattle.fb_ecc.specs.declared.shared.Shared.{Shared}
use Rattle.fb_net.specs.Opening.{AreCharts, Charts, ChartsGrow}

pub no_charts : (i : Inputs) (charts : Charts) → charts.entries ≡ [] → AreCharts i charts
no_charts i charts empty index t c here there =
    let none : None ≡ Some c = sym (ap (lookup (is_at (nat_cmp index))) empty) ∙ there in
    absurd (cc)

-- the chart at the index of a type, if there is one, is that of the type
pub known_chart :
    (i : Inputs) (charts : Charts) (index : ℕ) (t : BasicType) → AreCharts i charts → slice_get i.library.blocks index ≡ Some (block.Basic t)
    → IfSome (get nat_cmp charts index) (IsSharedOf t)
known_chart i charts index t are here =
    elim (get nat_cmp charts index) as (λ o. get nat_cmp charts index ≡ o → IfSome o (IsSharedOf t)) [
      | None ↦ λ e. tt
      | Some c ↦ λ e. are index t c here e
    ] refl

is_eq-nat_cmp : (m n : ℕ) → is_eq (nat_cmp m n) ≡ nat_eq m n
is_eq-nat_cmp m n = grind (arith, nat_tests)

nat_same : (m n : ℕ) → is_eq (nat_cmp m n) ≡ true → m ≡ n
nat_same m n h = let e : nat_eq m n ≡ true = sym (is_eq-nat_cmp m n) ∙ h in grind (arith, nat_tests)

-- a chart more, of the type at the index
pub chart_more :
    (old new : Charts) (index : ℕ) (t : BasicType) (kept : Shared) → IsSharedOf t kept
    → ((q : ℕ) → get nat_cmp new q ≡ cond (is_eq (nat_cmp index q)) (Some kept) (get nat_cmp old q)) → ChartsGrow old index t new
chart_more old new index t kept is written q c there =
    elim (is_eq (nat_cmp index q)) as (λ b. is_eq (nat_cmp index q) ≡ b → cond b (Some kept) (get nat_cmp old q) ≡ Some c → (get nat_cmp old q ≡ Some c) ⊎ ((index ≡ q) × (IsSharedOf t c))) [
      | true ↦ λ e at. inr (nat_same index q e, subst (IsSharedOf t) (same_Some kept c at) is)
      | false ↦ λ e at. inl at
    ] refl (sym (written q) ∙ there)

basic_is : (a b : BasicType) → Some (block.Basic a) ≡ Some (block.Basic b) → a ≡ b
basic_is a b e = cc

pub charts_grow :
    (i : Inputs) (old new : Charts) (index : ℕ) (t : BasicType) → AreCharts i old → slice_get i.library.blocks index ≡ Some (block.Basic t) → ChartsGrow old index t new
    → AreCharts i new
charts_grow i old new index t are here grow q other c at there =
    elim (grow q c there) [
      | inl before ↦ are q other c at before
      | inr now ↦
          let same : t ≡ other = basic_is t other (sym here ∙ ap (slice_get i.library.blocks) now.0 ∙ at) in
          subst (λ (x : BasicType). IsSharedOf x c) same now.1
    ]
