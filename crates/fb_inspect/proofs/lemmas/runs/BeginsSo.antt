-- A line of a run that comes after the takings of a walk begins a taking.
use Rattle.fb_inspect.proofs.lemmas.Common.{◌≡◌, ◌⊎◌, ℕ, ◌≤◌, List, [], ◌∷◌, ◌++◌, length, map, sym, ◌∙◌, ap, subst, inl, inr, arith, append-nil, length-append, length-map, AtHorizon, AtStop, Ending, System, Steps, Divide, Range, AreTakings, EndsSo, IsOneOf, KeepsLimit, all_lines, last_look, limited, IsTaking, Look, Taking, emission_line, most, opening_look, taking_lines}
use Rattle.fb_types.specs.States.{Line}
use Rattle.fb_inspect.specs.walk.RunTakings.{BeginsSo}
use Rattle.fb_inspect.proofs.lemmas.runs.RunContinues.{all_both, compare, last_none, limited_begins, tails, taking_after}
use Rattle.fb_inspect.proofs.lemmas.reactions.OneTaking.{first_line, nothing, row_one}

module _ (sys : System) (limit : ℕ) (within : limit ≤ most) (xs : List Taking) (l : Line) (more : List Line) (are : AreTakings sys most (opening_look sys) xs) where
  abbrev look : Look
  look = opening_look sys

  free : (end : Ending) (ys : List Taking) → AreTakings sys most look ys → all_lines ys ≡ all_lines xs ++ l ∷ more → BeginsSo sys limit xs l end
  free end ys other lines =
      let split = row_one sys most look xs ys (l ∷ more) are other lines in
      by split.0 split.1 split.2
    where
      by : (zs : List Taking) → ys ≡ xs ++ zs → all_lines zs ≡ l ∷ more → BeginsSo sys limit xs l end
      by [] parts all = absurd (nothing l more all)
      by (z ∷ zs) parts all = inl (z, first_line z.first l _ more all, taking_after sys look xs zs z (subst (λ (ts : List Taking). AreTakings sys most look ts) parts other))

  module _ (before : List Taking) (chain : AreTakings sys most look before) (y : Taking) (keeps : KeepsLimit limit y.first.key.tick y.first.key.resource (last_look look before))
      (judged : IsTaking sys limit (limited limit y.first.key.tick y.first.key.resource (last_look look before)) y) where
    abbrev A : List Line
    A = taking_lines y ++ []

    beyond_line : (w : Taking) (ws : List Taking) → xs ≡ before ++ w ∷ ws → A ≡ all_lines (w ∷ ws) ++ l ∷ more → ⊥
    beyond_line w ws parts e =
        let first : w.first ≡ y.first = sym (first_line y.first w.first _ _ e) in
        let there = taking_after sys look before ws w (subst (λ (ts : List Taking). AreTakings sys most look ts) parts are) in
        let begins = limited_begins sys limit within (last_look look before) y w keeps judged there first in
        let long = ap length begins.1 ∙ length-append y.emits begins.0 in
        let mine = length-map y.emits (emission_line y.first) in
        let its = length-map w.emits (emission_line w.first) in
        let left = length-append (map (emission_line y.first) y.emits) [] in
        let one = length-append (map (emission_line w.first) w.emits ++ all_lines ws) (l ∷ more) in
        let two = length-append (map (emission_line w.first) w.emits) (all_lines ws) in
        let same = ap length (tails y.first w.first _ _ e) in
        omega (arith, long, mine, its, left, one, two, same)

    begins_by : ((zs : List Taking) × (before ≡ xs ++ zs) × (all_lines zs ++ A ≡ l ∷ more)) ⊎ ((w : Taking) × (ws : List Taking) × (xs ≡ before ++ w ∷ ws) × (A ≡ all_lines (w ∷ ws) ++ l ∷ more))
        → BeginsSo sys limit xs l (AtStop y.first.key.tick y.first.key.resource Steps)
    begins_by (inl found) = by found.0 found.1 found.2
      where
        by : (zs : List Taking) → before ≡ xs ++ zs → all_lines zs ++ A ≡ l ∷ more → BeginsSo sys limit xs l (AtStop y.first.key.tick y.first.key.resource Steps)
        by [] parts e =
            let first : y.first ≡ l = first_line y.first l _ more e in
            let at : last_look look before ≡ last_look look xs = ap (last_look look) parts ∙ last_none sys look xs in
            inr (
              y,
              first,
              subst (λ (m : Line). IsTaking sys limit (limited limit m.key.tick m.key.resource (last_look look xs)) y) first
                  (subst (λ (k : Look). IsTaking sys limit (limited limit y.first.key.tick y.first.key.resource k) y) at judged),
              ap (λ (m : Line). AtStop m.key.tick m.key.resource Steps) first,
            )
        by (z ∷ zs) parts e = inl (z, first_line z.first l _ more e, taking_after sys look xs zs z (subst (λ (ts : List Taking). AreTakings sys most look ts) parts chain))
    begins_by (inr found) = absurd (beyond_line found.0 found.1 found.2 found.3)

  steps_begin :
      (t r : ℕ) (before last : List Taking) → AreTakings sys most look before → IsOneOf t r last → KeepsLimit limit t r (last_look look before)
      → AreTakings sys limit (limited limit t r (last_look look before)) last → all_lines before ++ all_lines last ≡ all_lines xs ++ l ∷ more → BeginsSo sys limit xs l (AtStop t r Steps)
  steps_begin t r before [] chain one keeps judged e = free (AtStop t r Steps) before chain (sym (append-nil (all_lines before)) ∙ e)
  steps_begin t r before (y ∷ []) chain one keeps judged e =
      let at = last_look look before in
      let own = subst (λ (n : ℕ). KeepsLimit limit y.first.key.tick n at) (sym one.1) (subst (λ (n : ℕ). KeepsLimit limit n r at) (sym one.0) keeps) in
      let its =
      subst (λ (n : ℕ). IsTaking sys limit (limited limit y.first.key.tick n at) y) (sym one.1) (subst (λ (n : ℕ). IsTaking sys limit (limited limit n r at) y) (sym one.0) judged.0)
      in
      let found = begins_by before chain y own its (compare sys look xs before (taking_lines y ++ []) (l ∷ more) are chain e) in
      subst (λ (n : ℕ). BeginsSo sys limit xs l (AtStop t n Steps)) one.1 (subst (λ (n : ℕ). BeginsSo sys limit xs l (AtStop n y.first.key.resource Steps)) one.0 found)
  steps_begin t r before (y ∷ (z ∷ zs)) chain one keeps judged e = absurd one

  pub run_begins : (ys : List Taking) (end : Ending) → EndsSo sys limit ys end → all_lines ys ≡ all_lines xs ++ l ∷ more → BeginsSo sys limit xs l end
  run_begins ys (AtHorizon h) ends e = free (AtHorizon h) ys ends.0 e
  run_begins ys (AtStop t r Steps) ends e =
      let it = ends.limited_so in
      steps_begin t r it.before it.last it.chain it.one it.within it.judged (sym (all_both sys it.before it.last) ∙ ap all_lines (sym it.parts) ∙ e)
  run_begins ys (AtStop t r Divide) ends e = free (AtStop t r Divide) ys ends.0 e
  run_begins ys (AtStop t r Range) ends e = free (AtStop t r Range) ys ends.0 e
