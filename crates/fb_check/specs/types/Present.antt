-- Lists of numbers, without those that are not there, and the names of a deployment that have none.
use Rattle.std.specs.Prelude.{ℕ, List, [], ◌∷◌, ◌++◌, Option, Some, None, is_some, option_map, option_and_then}
use Rattle.std.specs.Borrow.{Bor}
use Rattle.std.specs.BTreeMap.{BTreeMap}
use Rattle.fb_types.specs.Names.{Name}
use Rattle.fb_types.specs.declared.deploy.Link.{Link}
use Rattle.fb_check_names.specs.Indexes.{index_in}
use Rattle.fb_check_names.specs.declared.numbers.LinkEnds.{LinkEnds}
use Rattle.fb_check_names.specs.Listed.{unless}
use Rattle.fb_check_names.specs.declared.location.Side.TheVariants.{From, To}
use Rattle.fb_check_names.specs.declared.location.UnknownName.{UnknownName}
use Rattle.fb_check_names.specs.declared.location.UnknownName.TheVariants as location

abbrev pub some_of : {A : Type 0} → Option A → List A
some_of None = []
some_of (Some x) = x ∷ []

-- the results of f for the elements that have one
abbrev pub each_some : {A B : Type 0} → (A → Option B) → List A → List B
each_some f [] = []
each_some f (x ∷ xs) = some_of (f x) ++ each_some f xs

-- ---- Deployments

abbrev pub mapped_unless : BTreeMap (Bor Name) ℕ → ℕ → ℕ → Name → List UnknownName
mapped_unless m r k n = unless (is_some (index_in m n)) (location.Mapped r k)

abbrev pub sides_unless : BTreeMap (Bor Name) ℕ → ℕ → Link → List UnknownName
sides_unless m k l = unless (is_some (index_in m l.from)) (location.LinkEnd k From) ++ unless (is_some (index_in m l.to)) (location.LinkEnd k To)

abbrev pub ends_in : BTreeMap (Bor Name) ℕ → Link → Option LinkEnds
ends_in m l = option_and_then (λ x. option_map (λ y. record { from = x; to = y }) (index_in m l.to)) (index_in m l.from)
