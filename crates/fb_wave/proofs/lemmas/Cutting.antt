-- A text is a word and what comes after it in one way at most.
use Rattle.fb_wave.proofs.lemmas.Common.{◌≡◌, ℕ, true, List, [], ◌∷◌, ◌++◌, refl, sym, ap, ◌∙◌, not, and_parts, false≢true, not-true, list_all-append, is_end, is_word, is_ended, IsCut}

-- a word that is ended is not a word with what ends it
pub not_word : (w r : List ℕ) → is_ended r ≡ true → is_word (w ++ r) ≡ true → ⊥
not_word w [] ended word = false≢true ended
not_word w (b ∷ bs) ended word =
    let both = and_parts (is_word w) (is_word (b ∷ bs)) (sym (list_all-append (λ (c : ℕ). not (is_end c)) w (b ∷ bs)) ∙ word) in
    let first = and_parts (not (is_end b)) (is_word bs) both.1 in
    false≢true (sym (not-true (is_end b) first.0) ∙ ended)

pub uncut : (text w r : List ℕ) → is_word text ≡ true → text ≡ w ++ r → is_ended r ≡ true → ⊥
uncut text w r word parts ended = not_word w r ended (ap is_word (sym parts) ∙ word)

clash : (b : ℕ) (w : List ℕ) → is_end b ≡ true → is_word (b ∷ w) ≡ true → ⊥
clash b w end word = false≢true (sym (not-true (is_end b) (and_parts (not (is_end b)) (is_word w) word).0) ∙ end)

pub word_once : (w v r q : List ℕ) → is_word w ≡ true → is_word v ≡ true → is_ended r ≡ true → is_ended q ≡ true → w ++ r ≡ v ++ q → (w ≡ v) × (r ≡ q)
word_once [] [] r q word other ended last e = (refl, e)
word_once [] (b ∷ v) r q word other ended last e = absurd (clash b v (ap is_ended (sym e) ∙ ended) other)
word_once (b ∷ w) [] r q word other ended last e = absurd (clash b w (ap is_ended e ∙ last) word)
word_once (b ∷ w) (c ∷ v) r q word other ended last e =
    let first : b ≡ c = cc in
    let rest : w ++ r ≡ v ++ q = cc in
    let more = word_once w v r q (and_parts (not (is_end b)) (is_word w) word).1 (and_parts (not (is_end c)) (is_word v) other).1 ended last rest in
    let same : w ≡ v = more.0 in
    ((cc), more.1)

pub cut_once : (text w r v q : List ℕ) → IsCut text w r → is_word v ≡ true → is_ended q ≡ true → text ≡ v ++ q → (w ≡ v) × (r ≡ q)
cut_once text w r v q cut word ended parts = word_once w v r q cut.whole word cut.ended ended (sym cut.parts ∙ parts)
