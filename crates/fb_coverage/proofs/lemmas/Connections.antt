-- Where the event connections of an instance are.
use Rattle.fb_types.proofs.Common.{◌≡◌, ◌<◌, [], ◌∷◌, length, Option, Some, None, refl, arith, option_and_then, first_of, inside, instance_at, kind_at, kind_of_instance, network_at, network_of, Path}
use Rattle.fb_types.specs.declared.library.Instance.{Instance}
use Rattle.fb_types.specs.declared.library.Library.{Library}
use Rattle.fb_wave.specs.Scopes.{own_name}

-- the network inside an instance is that of its type
pub network_inside : (lib : Library) (p : Path) → 0 < length p → network_at lib p ≡ option_and_then network_of (kind_at lib p)
network_inside lib [] some = absurd (omega (arith, some))
network_inside lib (n ∷ q) some =
    elim (instance_at lib (n ∷ q)) as (λ (o : Option Instance). option_and_then (inside lib) o ≡ option_and_then network_of (option_and_then (kind_of_instance lib) o)) [
      | None ↦ refl
      | Some i ↦ refl
    ]

-- the own name of an instance is the first of its path
pub first_own : (p : Path) → 0 < length p → first_of p ≡ Some (own_name p)
first_own [] some = absurd (omega (arith, some))
first_own (n ∷ q) some = refl
