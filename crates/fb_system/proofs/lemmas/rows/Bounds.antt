-- The resource that holds an instance is one of the deployment.
use Rattle.fb_types.proofs.Common.{◌≡◌, ℕ, ◌<◌, Bool, true, false, cond, List, [], ◌∷◌, length, Some, None, refl, sym, subst, arith, nat_lt, position, unwrap_or, position_or_len, ltb-true, length-map, among, holder, resource_of, Inputs, system_of, IsWithinLimits, Name, Path}
use Rattle.fb_types.specs.declared.deploy.Plan.{Plan}
use Rattle.fb_types.specs.declared.deploy.ResourceEntry.{ResourceEntry}

-- ---- An index that is sought

one_below : (a b : ℕ) → 0 < b → unwrap_or (cond (nat_lt a b) (Some a) None) 0 < b
one_below a b some = go (nat_lt a b) refl
  where
    go : (t : Bool) → nat_lt a b ≡ t → unwrap_or (cond t (Some a) None) 0 < b
    go true e = ltb-true a b e
    go false e = some

position_below : {A : Type 0} (p : A → Bool) (xs : List A) → 0 < length xs → unwrap_or (position p xs) 0 < length xs
position_below p xs some = one_below (position_or_len p xs) (length xs) some

-- ---- Resources

holder_below : (plan : Plan) (n : Name) → 0 < length plan.resources → holder plan n < length plan.resources
holder_below plan n some = go plan.holds_all
  where
    go : (t : Bool) → cond t 0 (unwrap_or (position (λ (r : ResourceEntry). among r.instances n) plan.resources) 0) < length plan.resources
    go true = some
    go false = position_below (λ (r : ResourceEntry). among r.instances n) plan.resources some

resource_below : (plan : Plan) (p : Path) → 0 < length plan.resources → resource_of plan p < length plan.resources
resource_below plan [] some = some
resource_below plan (n ∷ []) some = holder_below plan n some
resource_below plan (n ∷ m ∷ p) some = resource_below plan (m ∷ p) some

pub resource_named : (i : Inputs) (p : Path) → IsWithinLimits i.plan → (system_of i).resource p < length (system_of i).resource_names
resource_named i p limits =
    let some : 0 < length i.plan.resources = let h = limits.some_resource in omega arith in
    subst (λ n. resource_of i.plan p < n) (sym (length-map i.plan.resources (λ (r : ResourceEntry). r.name))) (resource_below i.plan p some)
