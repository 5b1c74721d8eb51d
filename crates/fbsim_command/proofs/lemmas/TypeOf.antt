-- The type of the first variable with a name.
use Rattle.fb_types.proofs.Common.{◌≡◌, ℕ, ◌+◌, ◌<◌, ◌≤◌, Bool, true, false, cond, List, get_or, length, drop, Option, Some, None, option_map, sym, ◌∙◌, ap, find, drop_all, drop_more, Name, same_name}
use Rattle.fb_types.specs.declared.library.Variable.{Variable}
use Rattle.fb_types.specs.declared.value.Ty.{Ty}
use Rattle.fbsim_command.specs.Possible.{type_of}

module _ (vs : List Variable) (name : Name) (i : ℕ) (d : Variable) where
  one : i < length vs → type_of (drop i vs) name
      ≡ option_map (λ v. v.ty) (cond (same_name (get_or vs i d).name name) (Some (get_or vs i d)) (find (λ v. same_name v.name name) (drop (i + 1) vs)))
  one lt = ap (λ (us : List Variable). type_of us name) (drop_more vs i d lt)

  abbrev by : Bool → Option Ty
  by b = option_map (λ v. v.ty) (cond b (Some (get_or vs i d)) (find (λ v. same_name v.name name) (drop (i + 1) vs)))

  pub type-found : i < length vs → type_of vs name ≡ type_of (drop i vs) name → same_name (get_or vs i d).name name ≡ true → Some (get_or vs i d).ty ≡ type_of vs name
  type-found lt all on = sym (all ∙ one lt ∙ ap by on)

  pub type-passed : i < length vs → type_of vs name ≡ type_of (drop i vs) name → same_name (get_or vs i d).name name ≡ false → type_of vs name ≡ type_of (drop (i + 1) vs) name
  type-passed lt all off = all ∙ one lt ∙ ap by off

pub type-none : (vs : List Variable) (name : Name) (i : ℕ) → length vs ≤ i → type_of vs name ≡ type_of (drop i vs) name → None ≡ type_of vs name
type-none vs name i end all = sym (all ∙ ap (λ (us : List Variable). type_of us name) (drop_all i vs end))
