-- Names and paths that the tests do not distinguish are the same.
use Rattle.std.proofs.Common.{◌≡◌, Bool, true, List, [], ◌∷◌, refl}
use Rattle.std.specs.Cmp.{first_so, second_so}
use Rattle.fb_types.specs.Names.{Path, Port, alike, same_name, same_path, same_port}
use Rattle.fb_types.proofs.lemmas.names.NameLaws.{same_from_same_name, same_name-itself}

module _ {A : Type 0} (same : A → A → Bool) where
  pub alike_is : ((x y : A) → same x y ≡ true → x ≡ y) → (xs ys : List A) → alike same xs ys ≡ true → xs ≡ ys
  alike_is exact [] [] h = refl
  alike_is exact [] (y ∷ ys) h = absurd cc
  alike_is exact (x ∷ xs) [] h = absurd cc
  alike_is exact (x ∷ xs) (y ∷ ys) h =
      let first : x ≡ y = exact x y (first_so (same x y) (alike same xs ys) h) in
      let others : xs ≡ ys = alike_is exact xs ys (second_so (same x y) (alike same xs ys) h) in
      cc

  pub alike_itself : ((x : A) → same x x ≡ true) → (xs : List A) → alike same xs xs ≡ true
  alike_itself reflexive [] = refl
  alike_itself reflexive (x ∷ xs) = rw (reflexive x) (alike_itself reflexive xs)

pub same_path_is : (p q : Path) → same_path p q ≡ true → p ≡ q
same_path_is = alike_is same_name same_from_same_name

pub same_path_itself : (p : Path) → same_path p p ≡ true
same_path_itself = alike_itself same_name same_name-itself

pub same_port_is : (p q : Port) → same_port p q ≡ true → p ≡ q
same_port_is p q h =
    let at : p.at ≡ q.at = same_path_is p.at q.at (first_so (same_path p.at q.at) (same_name p.name q.name) h) in
    let name : p.name ≡ q.name = same_from_same_name p.name q.name (second_so (same_path p.at q.at) (same_name p.name q.name) h) in
    λ i. record { at = at i; name = name i }
