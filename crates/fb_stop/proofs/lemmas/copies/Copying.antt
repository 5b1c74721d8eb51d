-- Lists of copies.
use Rattle.fb_types.proofs.Common.{◌≡◌, ℕ, ◌+◌, List, [], ◌∷◌, ◌++◌, length, length-append, Option, Some, refl, sym, ap, subst, ◌∙◌, slice_get, slice_set, Basic, Inputs, system_of, path_at, State}
use Rattle.fb_types.specs.declared.library.BasicType.{BasicType}
use Rattle.fb_types.specs.declared.run.Line.{Line}
use Rattle.fb_types.specs.declared.run.Target.{Target}
use Rattle.fb_types.proofs.lemmas.lists.ByIndex.{slice_get-push}
use Rattle.fb_ecc.specs.declared.state.BasicState.{BasicState}
use Rattle.fb_stop.specs.Copies.{AreCopies, FollowsAt, HasFollowed, IsCopy, IsFollowed}
use Rattle.fb_stop.specs.declared.found.EventSite.{EventSite}
use Rattle.fb_stop.specs.declared.found.EventSite.TheVariants.{Port as AtPort}

pub no_copies : (i : Inputs) (s : State) → AreCopies i 0 s []
no_copies i s = record { counted = refl; each = λ k copy at. absurd (cc) }

-- one copy more
pub copies_more : (i : Inputs) (n : ℕ) (s : State) (xs ys : List (Option BasicState)) (copy : Option BasicState) → AreCopies i n s xs → ys ≡ xs ++ copy ∷ []
    → IsCopy i n (s.blocks (path_at (system_of i) n)) copy → AreCopies i (n + 1) s ys
copies_more i n s xs ys copy are is here = record {
  counted = ap (λ (zs : List (Option BasicState)). length zs) is ∙ length-append xs (copy ∷ []) ∙ ap (λ k. k + 1) are.counted;
  each = λ k other at.
      slice_get-push (λ m c. IsCopy i m (s.blocks (path_at (system_of i) m)) c) xs copy are.each
      (subst (λ m. IsCopy i m (s.blocks (path_at (system_of i) m)) copy) (sym are.counted) here) k other
      (sym (ap (λ zs. slice_get zs k) is) ∙ at);
}

pub first_of : {A : Type 0} (xs : List A) (x : A) → slice_get xs 0 ≡ Some x → (rest : List A) × (xs ≡ x ∷ rest)
first_of [] x at = absurd (cc)
first_of (y ∷ xs) x at = (xs, let e : y ≡ x = cc in ap (λ z. z ∷ xs) e)

module _ (i : Inputs) (t : Target) (left : ℕ) (line : Line) (copies : List (Option BasicState)) (block : BasicType) (copy after : Option BasicState)
    (kind : (system_of i).kind (path_at (system_of i) t.instance) ≡ Some (Basic block)) (at : slice_get copies t.instance ≡ Some copy)
    (followed : HasFollowed block t.event line.values left copy after) where
  followed_here : (b : BasicType) → (system_of i).kind (path_at (system_of i) t.instance) ≡ Some (Basic b) → FollowsAt i t b left line copies (slice_set copies t.instance after)
  followed_here b same =
      let both : Some (Basic block) ≡ Some (Basic b) = sym kind ∙ same in
      let one : block ≡ b = cc in
      subst (λ (u : BasicType). FollowsAt i t u left line copies (slice_set copies t.instance after)) one
      (record { before = record { kind = kind; copy = copy; at = at }; after = after; followed = followed; is = refl })

  followed_in : (lines : List Line) → slice_get lines 0 ≡ Some line → IsFollowed i (AtPort t) (Some left) lines copies (slice_set copies t.instance after)
  followed_in [] first = absurd (cc)
  followed_in (l ∷ ls) first =
      let same : line ≡ l = cc in (
        λ b is. subst (λ (z : Line). FollowsAt i t b left z copies (slice_set copies t.instance after)) same (followed_here b is),
        λ none. absurd (none block kind),
      )

  -- the copy at a port has reacted
  pub is_followed : (place : EventSite) (steps : Option ℕ) (lines : List Line) → place ≡ AtPort t → steps ≡ Some left → slice_get lines 0 ≡ Some line
      → IsFollowed i place steps lines copies (slice_set copies t.instance after)
  is_followed place steps lines port is first =
      subst (λ (z : EventSite). IsFollowed i z steps lines copies (slice_set copies t.instance after)) (sym port)
      (subst (λ (z : Option ℕ). IsFollowed i (AtPort t) z lines copies (slice_set copies t.instance after)) (sym is) (followed_in lines first))
