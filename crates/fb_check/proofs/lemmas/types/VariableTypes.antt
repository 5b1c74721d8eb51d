-- The types of variables by their names.
use Rattle.fb_types.proofs.Common.{◌≡◌, ◌++◌, List, [], ◌∷◌, Some, None, cond, true, false, refl, option_map, unwrap_or, Name, same_name, named}
use Rattle.fb_types.specs.declared.library.Variable.{Variable}
use Rattle.fb_types.specs.declared.value.Ty.{Ty}
use Rattle.fb_types.specs.Blocks.{type_named}
use Rattle.fb_types.specs.declared.value.Ty.TheVariants.{Bool as Boolean}

pub type_front : (n : Name) (xs ys : List Variable) (t : Ty) → type_named xs n ≡ Some t → type_named (xs ++ ys) n ≡ Some t
type_front n [] ys t h = absurd (cc)
type_front n (z ∷ zs) ys t h =
    elim (same_name z.name n) as
    (λ b. option_map (λ (v : Variable). v.ty) (cond b (Some z) (named (λ (v : Variable). v.name) n zs)) ≡ Some t
    → option_map (λ (v : Variable). v.ty) (cond b (Some z) (named (λ (v : Variable). v.name) n (zs ++ ys))) ≡ Some t) [
      | true ↦ λ g. g
      | false ↦ λ g. type_front n zs ys t g
    ] h

pub type_back : (n : Name) (xs ys : List Variable) → type_named xs n ≡ None → type_named (xs ++ ys) n ≡ type_named ys n
type_back n [] ys h = refl
type_back n (z ∷ zs) ys h =
    elim (same_name z.name n) as
    (λ b. option_map (λ (v : Variable). v.ty) (cond b (Some z) (named (λ (v : Variable). v.name) n zs)) ≡ None
    → option_map (λ (v : Variable). v.ty) (cond b (Some z) (named (λ (v : Variable). v.name) n (zs ++ ys))) ≡ type_named ys n) [
      | true ↦ λ g. absurd (cc)
      | false ↦ λ g. type_back n zs ys g
    ] h

-- what is no variable has the type BOOL
pub type_or_boolean :
    (n : Name) (vs : List Variable)
    → unwrap_or (type_named vs n) Boolean ≡ elim (named (λ (v : Variable). v.name) n vs) [ None ↦ Boolean | Some v ↦ v.ty ]
type_or_boolean n vs =
    elim (named (λ (v : Variable). v.name) n vs) as
    (λ o. unwrap_or (option_map (λ (v : Variable). v.ty) o) Boolean ≡ elim o [ None ↦ Boolean | Some v ↦ v.ty ]) [
      | None ↦ refl
      | Some v ↦ refl
    ]
