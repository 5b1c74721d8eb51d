-- Edges that lead from state to state.
use Rattle.fb_types.proofs.Common.{◌≡◌, Bool, true, false, ◌&&◌, ◌||◌, List, [], ◌∷◌, map, Contains, refl, sym, ap, subst, inl, inr, ◌⊎◌, ◌↔◌, true≢false, Name, same_name}
use Rattle.fb_types.specs.declared.library.Transition.{Transition}
use Rattle.fb_types.proofs.lemmas.lists.Elements.{Contains-nil, Contains-cons_cases, Contains-here, Contains-there, Contains-map, map-Contains}
use Rattle.fb_types.proofs.lemmas.names.NameLaws.{same_name-itself, same_from_same_name}
use Rattle.fb_lint.specs.Reached.{Edge, edge_of, leads, Reached, at_first, by_transition}

-- ---- Truth values

either : (x y : Bool) → (x || y) ≡ true → (x ≡ true) ⊎ (y ≡ true)
either true y h = inl refl
either false y h = inr h

both : (x y : Bool) → (x && y) ≡ true → (x ≡ true) × (y ≡ true)
both true y h = (refl, h)
both false y h = absurd (true≢false (sym h))

on_left : (x y : Bool) → x ≡ true → (x || y) ≡ true
on_left true y h = refl
on_left false y h = absurd (true≢false (sym h))

on_right : (x y : Bool) → y ≡ true → (x || y) ≡ true
on_right true y h = refl
on_right false y h = h

of_both : (x y : Bool) → x ≡ true → y ≡ true → (x && y) ≡ true
of_both true y h g = g
of_both false y h g = absurd (true≢false (sym h))

pub same_truth : (x y : Bool) → (x ≡ true → y ≡ true) → (y ≡ true → x ≡ true) → x ≡ y
same_truth true true there back = refl
same_truth true false there back = sym (there refl)
same_truth false true there back = back refl
same_truth false false there back = refl

-- ---- Edges

pub leads-itself : (es : List Edge) (s : Name) → leads es s s ≡ true
leads-itself [] s = same_name-itself s
leads-itself (e ∷ es) s = on_left (leads es s s) (leads es s e.0 && leads es e.1 s) (leads-itself es s)

pub leads-on : (es : List Edge) (a b c : Name) → leads es a b ≡ true → leads es b c ≡ true → leads es a c ≡ true
leads-on [] a b c first last = subst (λ (n : Name). same_name n c ≡ true) (sym (same_from_same_name a b first)) last
leads-on (e ∷ es) a b c first last =
    elim (either (leads es a b) (leads es a e.0 && leads es e.1 b) first) [
      | inl ab ↦
          elim (either (leads es b c) (leads es b e.0 && leads es e.1 c) last) [
            | inl bc ↦ on_left (leads es a c) (leads es a e.0 && leads es e.1 c) (leads-on es a b c ab bc)
            | inr far ↦
                let f = both (leads es b e.0) (leads es e.1 c) far in
                on_right (leads es a c) (leads es a e.0 && leads es e.1 c) (of_both (leads es a e.0) (leads es e.1 c) (leads-on es a b e.0 ab f.0) f.1)
          ]
      | inr near ↦
          let n = both (leads es a e.0) (leads es e.1 b) near in
          elim (either (leads es b c) (leads es b e.0 && leads es e.1 c) last) [
            | inl bc ↦ on_right (leads es a c) (leads es a e.0 && leads es e.1 c) (of_both (leads es a e.0) (leads es e.1 c) n.0 (leads-on es e.1 b c n.1 bc))
            | inr far ↦
                let f = both (leads es b e.0) (leads es e.1 c) far in
                on_right (leads es a c) (leads es a e.0 && leads es e.1 c) (of_both (leads es a e.0) (leads es e.1 c) n.0 f.1)
          ]
    ]

pub leads-edge : (es : List Edge) (e : Edge) → Contains es e → leads es e.0 e.1 ≡ true
leads-edge [] e c = absurd (Contains-nil e c)
leads-edge (x ∷ es) e c =
    elim (Contains-cons_cases x es e c) [
      | inl same ↦
          subst (λ (z : Edge). leads (x ∷ es) z.0 z.1 ≡ true) same
          (on_right (leads es x.0 x.1) (leads es x.0 x.0 && leads es x.1 x.1) (of_both (leads es x.0 x.0) (leads es x.1 x.1) (leads-itself es x.0) (leads-itself es x.1)))
      | inr rest ↦ on_left (leads es e.0 e.1) (leads es e.0 x.0 && leads es x.1 e.1) (leads-edge es e rest)
    ]

-- what holds of the first, and of the end of an edge if of its beginning, holds of all to which edges lead
pub leads-closed :
    (P : Name → Type 0) (es : List Edge) (a b : Name) → ((e : Edge) → Contains es e → P e.0 → P e.1) → P a → leads es a b ≡ true → P b
leads-closed P [] a b closed here h = subst P (same_from_same_name a b h) here
leads-closed P (e ∷ es) a b closed here h =
    let inside : (x : Edge) → Contains es x → P x.0 → P x.1 = λ x c. closed x (Contains-there e es x c) in
    elim (either (leads es a b) (leads es a e.0 && leads es e.1 b) h) [
      | inl near ↦ leads-closed P es a b inside here near
      | inr far ↦
          let f = both (leads es a e.0) (leads es e.1 b) far in
          leads-closed P es e.1 b inside (closed e (Contains-here e es) (leads-closed P es a e.0 inside here f.0)) f.1
    ]

-- ---- States that are reached

reached-leads : (xs : List Transition) (initial n : Name) → Reached xs initial n → leads (map edge_of xs) initial n ≡ true
reached-leads xs initial n at_first = leads-itself (map edge_of xs) initial
reached-leads xs initial n (by_transition x c r) =
    let edge = leads-edge (map edge_of xs) (edge_of x) (Contains-map edge_of xs x c) in
    leads-on (map edge_of xs) initial x.from x.to (reached-leads xs initial x.from r) edge

leads-reached : (xs : List Transition) (initial n : Name) → leads (map edge_of xs) initial n ≡ true → Reached xs initial n
leads-reached xs initial n h = leads-closed (Reached xs initial) (map edge_of xs) initial n closed at_first h
  where
    closed : (e : Edge) → Contains (map edge_of xs) e → Reached xs initial e.0 → Reached xs initial e.1
    closed e c r =
        let w = map-Contains edge_of xs e c in
        let from : (edge_of w.0).0 ≡ e.0 = ap (λ (z : Edge). z.0) w.2 in
        let to : (edge_of w.0).1 ≡ e.1 = ap (λ (z : Edge). z.1) w.2 in
        subst (Reached xs initial) to (by_transition w.0 w.1 (subst (Reached xs initial) (sym from) r))

pub leads-is_reached : (xs : List Transition) (initial n : Name) → (leads (map edge_of xs) initial n ≡ true) ↔ Reached xs initial n
leads-is_reached xs initial n = (leads-reached xs initial n, reached-leads xs initial n)
