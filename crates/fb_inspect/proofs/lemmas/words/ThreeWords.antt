-- A text that begins with three words.
use Rattle.fb_types.proofs.Common.{◌≡◌, ℕ, true, List, ◌∷◌, ◌++◌, Option, Some, None, codes, sym, ap, subst, ◌∙◌, append_assoc, append_cancel_left, MatchOption}
use Rattle.fb_wave.specs.Words.{AreThree, IsCut, is_word}

three_parts : (u v w r : List ℕ) → (u ++ 32 ∷ (v ++ 32 ∷ w)) ++ r ≡ u ++ 32 ∷ (v ++ 32 ∷ (w ++ r))
three_parts u v w r = simp append_assoc

pub are_three :
    (text u r0 t v r1 s w rest : List ℕ) → IsCut text u r0 → r0 ≡ codes " " ++ t → IsCut t v r1 → r1 ≡ codes " " ++ s → IsCut s w rest → AreThree text u v w rest
are_three text u r0 t v r1 s w rest first blank second gap last =
    record {
      parts =
          first.parts
          ∙ ap (λ (x : List ℕ). u ++ x) (blank ∙ ap (λ (x : List ℕ). 32 ∷ x) (second.parts ∙ ap (λ (x : List ℕ). v ++ x) (gap ∙ ap (λ (x : List ℕ). 32 ∷ x) last.parts)))
          ∙ sym (three_parts u v w rest);
      one = first.whole;
      two = second.whole;
      last = last.whole;
      ended = last.ended;
    }

-- a blank, and a word that is cut off after it
pub next_from :
    {P : Type 0} (word rest : P → List ℕ) (o : Option P) (text t : List ℕ) → text ≡ codes " " ++ t → MatchOption o (is_word t ≡ true) (λ p. IsCut t (word p) (rest p))
    → MatchOption o ((s : List ℕ) → text ≡ codes " " ++ s → is_word s ≡ true) (λ p. (s : List ℕ) × (text ≡ codes " " ++ s) × IsCut s (word p) (rest p))
next_from word rest None text t blank whole = λ s other. subst (λ (l : List ℕ). is_word l ≡ true) (append_cancel_left (codes " ") t s (sym blank ∙ other)) whole
next_from word rest (Some p) text t blank cut = (t, blank, cut)
