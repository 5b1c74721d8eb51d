-- The sign at the front of a text is the longest of the list that is there.
use Rattle.fb_read.proofs.lemmas.Common.{◌≡◌, ℕ, zero, suc, Bool, true, false, cond, eqb, leb, List, [], ◌∷◌, length, take, Option, None, Some, refl, sym, subst, ap, inl, inr, ◌∙◌, arith, bytes_eq, cases_Bool, eqb-true, leb-true, Text, sign_of, Mark}
use Rattle.fb_types.proofs.Common.{⊎_elim, ◌⊎◌, slice_get, leb-false, bytes_eq-Decides}
use Rattle.fb_read.specs.Shapes.{IsLongest, SignsExactly, IsSignOf, signs}

abbrev begins : (b next : ℕ) → Text → Bool
begins b next w = bytes_eq (take (length w) (b ∷ (next ∷ []))) w

abbrev longer : Mark → (n : ℕ) → Option (Mark × ℕ) → Option (Mark × ℕ)
longer k n None = Some (k, n)
longer k n (Some (j, m)) = cond (leb m n) (Some (k, n)) (Some (j, m))

abbrev longest : List (Text × Mark) → (b next : ℕ) → Option (Mark × ℕ)
longest [] b next = None
longest (s ∷ all) b next = cond (begins b next s.0) (longer s.1 (length s.0) (longest all b next)) (longest all b next)

module _ (b next : ℕ) where
  further : (s : Text × Mark) (all : List (Text × Mark)) (k : Mark) (n : ℕ) → IsSignOf all b next k n → IsSignOf (s ∷ all) b next k n
  further s all k n h = record { index = suc h.index; written = h.written; listed = h.listed; front = h.front; long = h.long }

  -- the first of the list, or one after it
  nearer : (w : Text) (j : Mark) (all : List (Text × Mark)) (k : Mark) (n : ℕ) → IsSignOf ((w, j) ∷ all) b next k n
      → ((take (length w) (b ∷ (next ∷ [])) ≡ w) × (n ≡ length w)) ⊎ IsSignOf all b next k n
  nearer w j all k n h = go h.index h.listed
    where
      first : (p q : Text × Mark) → ((Some p) ≡ Some q) → p ≡ q
      first p q e = cc

      go : (i : ℕ) → slice_get ((w, j) ∷ all) i ≡ Some (h.written, k) → ((take (length w) (b ∷ (next ∷ [])) ≡ w) × (n ≡ length w)) ⊎ IsSignOf all b next k n
      go zero e =
          let same : h.written ≡ w = sym (ap (λ (p : Text × Mark). p.0) (first (w, j) (h.written, k) e)) in
          inl (subst (λ (x : Text). take (length x) (b ∷ (next ∷ [])) ≡ x) same h.front, h.long ∙ ap length same)
      go (suc i) e = inr (record { index = i; written = h.written; listed = e; front = h.front; long = h.long })

  longest_is : (all : List (Text × Mark)) → IsLongest all b next (longest all b next)
  longest_is [] = λ k n h. absurd cc
  longest_is ((w, j) ∷ all) = go (begins b next w) refl (longest all b next) (longest_is all)
    where
      here : begins b next w ≡ true → IsSignOf ((w, j) ∷ all) b next j (length w)
      here e = record { index = 0; written = w; listed = refl; front = (bytes_eq-Decides (take (length w) (b ∷ (next ∷ []))) w).0 e; long = refl }

      apart : begins b next w ≡ false → take (length w) (b ∷ (next ∷ [])) ≡ w → ⊥
      apart e h = let t = (bytes_eq-Decides (take (length w) (b ∷ (next ∷ []))) w).1 h in absurd cc

      not_first : begins b next w ≡ false → (o : Option (Mark × ℕ)) → IsLongest all b next o → IsLongest ((w, j) ∷ all) b next o
      not_first e None none = λ k n h. ⊎_elim (λ p. apart e p.0) (λ s. none k n s) (nearer w j all k n h)
      not_first e (Some (k, n)) some =
          (further (w, j) all k n some.0, λ i m h. ⊎_elim (λ p. absurd (apart e p.0)) (λ s. some.1 i m s) (nearer w j all i m h))

      both : begins b next w ≡ true → (k : Mark) (n : ℕ) → IsLongest all b next (Some (k, n)) → (t : Bool) → leb n (length w) ≡ t
          → IsLongest ((w, j) ∷ all) b next (cond t (Some (j, length w)) (Some (k, n)))
      both e k n some true le =
          (here e, λ i m h. ⊎_elim (λ p. omega (arith, p.1)) (λ s. omega (arith, some.1 i m s, leb-true n (length w) le)) (nearer w j all i m h))
      both e k n some false lt =
          (further (w, j) all k n some.0, λ i m h. ⊎_elim (λ p. omega (arith, p.1, leb-false n (length w) lt)) (λ s. some.1 i m s) (nearer w j all i m h))

      go : (t : Bool) → begins b next w ≡ t → (o : Option (Mark × ℕ)) → IsLongest all b next o → IsLongest ((w, j) ∷ all) b next (cond t (longer j (length w) o) o)
      go false e o is = not_first e o is
      go true e None none = (here e, λ i m h. ⊎_elim (λ p. omega (arith, p.1)) (λ s. absurd (none i m s)) (nearer w j all i m h))
      go true e (Some (k, n)) some = both e k n some (leb n (length w)) refl

abbrev Same : (b next : ℕ) → Type 0
Same b next = sign_of b next ≡ longest signs b next

at_first : (c b next : ℕ) → eqb b c ≡ true → Same c next → Same b next
at_first c b next e h = subst (λ (x : ℕ). Same x next) (sym (eqb-true b c e)) h

at_next : (d b next : ℕ) → eqb next d ≡ true → Same b d → Same b next
at_next d b next e h = subst (λ (x : ℕ). Same b x) (sym (eqb-true next d e)) h

sign_58 : (next : ℕ) → Same 58 next
sign_58 next = elim (cases_Bool (eqb next 61)) [
  | inl e ↦ at_next 61 58 next e refl
  | inr f61 ↦ rw f61 refl
]

sign_46 : (next : ℕ) → Same 46 next
sign_46 next = elim (cases_Bool (eqb next 46)) [
  | inl e ↦ at_next 46 46 next e refl
  | inr f46 ↦ rw f46 refl
]

sign_45 : (next : ℕ) → Same 45 next
sign_45 next = elim (cases_Bool (eqb next 62)) [
  | inl e ↦ at_next 62 45 next e refl
  | inr f62 ↦ rw f62 refl
]

sign_60 : (next : ℕ) → Same 60 next
sign_60 next = elim (cases_Bool (eqb next 62)) [
  | inl e ↦ at_next 62 60 next e refl
  | inr f62 ↦ elim (cases_Bool (eqb next 61)) [
    | inl e ↦ at_next 61 60 next e refl
    | inr f61 ↦ rw (f62, f61) refl
  ]
]

sign_62 : (next : ℕ) → Same 62 next
sign_62 next = elim (cases_Bool (eqb next 61)) [
  | inl e ↦ at_next 61 62 next e refl
  | inr f61 ↦ rw f61 refl
]

same : (b next : ℕ) → Same b next
same b next = elim (cases_Bool (eqb b 59)) [
  | inl e ↦ at_first 59 b next e refl
  | inr f59 ↦ elim (cases_Bool (eqb b 58)) [
    | inl e ↦ at_first 58 b next e (sign_58 next)
    | inr f58 ↦ elim (cases_Bool (eqb b 44)) [
      | inl e ↦ at_first 44 b next e refl
      | inr f44 ↦ elim (cases_Bool (eqb b 46)) [
        | inl e ↦ at_first 46 b next e (sign_46 next)
        | inr f46 ↦ elim (cases_Bool (eqb b 40)) [
          | inl e ↦ at_first 40 b next e refl
          | inr f40 ↦ elim (cases_Bool (eqb b 41)) [
            | inl e ↦ at_first 41 b next e refl
            | inr f41 ↦ elim (cases_Bool (eqb b 91)) [
              | inl e ↦ at_first 91 b next e refl
              | inr f91 ↦ elim (cases_Bool (eqb b 93)) [
                | inl e ↦ at_first 93 b next e refl
                | inr f93 ↦ elim (cases_Bool (eqb b 45)) [
                  | inl e ↦ at_first 45 b next e (sign_45 next)
                  | inr f45 ↦ elim (cases_Bool (eqb b 61)) [
                    | inl e ↦ at_first 61 b next e refl
                    | inr f61 ↦ elim (cases_Bool (eqb b 60)) [
                      | inl e ↦ at_first 60 b next e (sign_60 next)
                      | inr f60 ↦ elim (cases_Bool (eqb b 62)) [
                        | inl e ↦ at_first 62 b next e (sign_62 next)
                        | inr f62 ↦ elim (cases_Bool (eqb b 43)) [
                          | inl e ↦ at_first 43 b next e refl
                          | inr f43 ↦ elim (cases_Bool (eqb b 42)) [
                            | inl e ↦ at_first 42 b next e refl
                            | inr f42 ↦ elim (cases_Bool (eqb b 47)) [
                              | inl e ↦ at_first 47 b next e refl
                              | inr f47 ↦ elim (cases_Bool (eqb b 38)) [
                                | inl e ↦ at_first 38 b next e refl
                                | inr f38 ↦ rw (f59, f58, f44, f46, f40, f41, f91, f93, f45, f61, f60, f62, f43, f42, f47, f38) refl
                              ]
                            ]
                          ]
                        ]
                      ]
                    ]
                  ]
                ]
              ]
            ]
          ]
        ]
      ]
    ]
  ]
]

pub signs-exactly : SignsExactly
signs-exactly b next = subst (λ (o : Option (Mark × ℕ)). IsLongest signs b next o) (sym (same b next)) (longest_is b next signs)
