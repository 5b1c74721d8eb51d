-- The first link from one resource to another, one link at a time.
use Rattle.fb_types.proofs.Common.{◌≡◌, ℕ, ◌<◌, ◌+◌, Bool, cond, List, [], ◌∷◌, ◌++◌, length, take, get_or, Option, Some, None, refl, sym, ◌∙◌, ap, arith, position, is_some, take_more, length-take, or_else}
use Rattle.fb_types.proofs.lemmas.lists.Positions.{position-append_old, position-push_new, is_some-position}
use Rattle.fb_check_names.specs.declared.numbers.LinkEnds.{LinkEnds}
use Rattle.fb_system.specs.Linking.{AreWays, first_between, joins, way_between}

-- ---- The first of a list with one element more

first_more : {A : Type 0} (p : A → Bool) (xs : List A) (y : A) → position p (xs ++ y ∷ []) ≡ or_else (position p xs) (cond (p y) (Some (length xs)) None)
first_more p xs y =
    elim (position p xs) as (λ o. position p xs ≡ o → position p (xs ++ y ∷ []) ≡ or_else o (cond (p y) (Some (length xs)) None)) [
      | None ↦ λ e. position-push_new p xs y (sym (is_some-position p xs) ∙ ap is_some e)
      | Some j ↦ λ e. position-append_old p xs (y ∷ []) j e
    ] refl

-- the first link with one link more
between_more :
    (ends : List LinkEnds) (i : ℕ) (d e : LinkEnds) (from to : ℕ) → i < length ends → e ≡ get_or ends i d
    → first_between (take (i + 1) ends) from to ≡ or_else (first_between (take i ends) from to) (cond (joins from to e) (Some i) None)
between_more ends i d e from to h g =
    let counted : length (take i ends) ≡ i = omega (arith, length-take i ends) in
    ap (λ (es : List LinkEnds). first_between es from to) (take_more ends i d h ∙ ap (λ (x : LinkEnds). take i ends ++ x ∷ []) (sym g))
    ∙ first_more (joins from to) (take i ends) e
    ∙ ap (λ n. or_else (first_between (take i ends) from to) (cond (joins from to e) (Some n) None)) counted

-- ---- The steps of the loop

pub ways_more :
    (ends : List LinkEnds) (i : ℕ) (d e : LinkEnds) (m new : List (List (Option ℕ))) → i < length ends → e ≡ get_or ends i d → AreWays (take i ends) m
    → ((from to : ℕ) → way_between new from to ≡ or_else (way_between m from to) (cond (joins from to e) (Some i) None)) → AreWays (take (i + 1) ends) new
ways_more ends i d e m new h g ways noted = record {
  each = λ from to.
      noted from to ∙ ap (λ o. or_else o (cond (joins from to e) (Some i) None)) (ways.each from to) ∙ sym (between_more ends i d e from to h g);
}
