-- Texts that end in a part of a line.
use Rattle.fb_inspect.proofs.lemmas.Common.{◌≡◌, ◌⊎◌, ℕ, ◌-◌, ◌==◌, suc, Bool, true, false, cond, List, [], ◌∷◌, ◌++◌, length, Option, Some, None, refl, sym, ◌∙◌, ap, inl, inr, append-nil, arith, not, IfSome, slice_get, take_through, Consumes, IsFirstLine, is_unended, IsCutAfter}
use Rattle.fb_types.proofs.Common.{and_from, not-true, not_from_false}
use Rattle.fb_wave.specs.CutOff.{has_no_feed, is_unended_by}

-- ---- What is known of a text

-- something more holds of a known text
pub on_some : {A : Type 0} (o : Option A) (P Q : A → Type 0) → IfSome o P → ((a : A) → P a → Q a) → IfSome o Q
on_some None P Q h f = tt
on_some (Some a) P Q h f = f a h

-- ---- Line feeds

-- the last byte of a longer line
shift : (b c : ℕ) (bs : List ℕ) → is_unended (b ∷ c ∷ bs) ≡ is_unended (c ∷ bs)
shift b c bs =
    let next : length (b ∷ c ∷ bs) - 1 ≡ suc (length (c ∷ bs) - 1) = omega arith in
    ap (λ (k : ℕ). is_unended_by (slice_get (b ∷ c ∷ bs) k)) next

none_left : (rest : List ℕ) → [] ≡ take_through 10 rest → rest ≡ []
none_left [] is = refl
none_left (b ∷ bs) is = absurd (by (b == 10) is)
  where
    by : (t : Bool) → [] ≡ cond t (b ∷ []) (b ∷ take_through 10 bs) → ⊥
    by true e = cc
    by false e = cc

-- a line that does not end in a line feed has none, and is the last
pub unended_all : (next rest : List ℕ) → next ≡ take_through 10 (next ++ rest) → is_unended next ≡ true → (rest ≡ []) × (has_no_feed next ≡ true)
unended_all [] rest is last = (none_left rest is, refl)
unended_all (b ∷ []) rest is last =
    let other : (b == 10) ≡ false = not-true (b == 10) last in
    let tail : b ∷ [] ≡ b ∷ take_through 10 rest = is ∙ ap (λ (t : Bool). cond t (b ∷ []) (b ∷ take_through 10 rest)) other in
    (none_left rest (cc), and_from (not (b == 10)) true last refl)
unended_all (b ∷ c ∷ bs) rest is last = by (λ e. unended_all (c ∷ bs) rest e (sym (shift b c bs) ∙ last)) (b == 10) refl
  where
    by :
        (c ∷ bs ≡ take_through 10 ((c ∷ bs) ++ rest) → (rest ≡ []) × (has_no_feed (c ∷ bs) ≡ true)) → (t : Bool) → (b == 10) ≡ t
        → (rest ≡ []) × (has_no_feed (b ∷ c ∷ bs) ≡ true)
    by go true ten =
        let short : b ∷ c ∷ bs ≡ b ∷ [] = is ∙ ap (λ (t : Bool). cond t (b ∷ []) (b ∷ take_through 10 ((c ∷ bs) ++ rest))) ten in
        absurd (cc)
    by go false other =
        let tail : b ∷ c ∷ bs ≡ b ∷ take_through 10 ((c ∷ bs) ++ rest) = is ∙ ap (λ (t : Bool). cond t (b ∷ []) (b ∷ take_through 10 ((c ∷ bs) ++ rest))) other in
        let more = go (cc) in
        (more.0, and_from (not (b == 10)) (has_no_feed (c ∷ bs)) (not_from_false (b == 10) other) more.1)

-- ---- Parts of lines

-- a text that is a part of a line
pub cut_whole :
    (input remaining : Option (List ℕ)) (line : List ℕ) → Consumes input remaining line → IsFirstLine line input → is_unended line ≡ true → IfSome input (λ text. IsCutAfter text [])
cut_whole None remaining line read one short = tt
cut_whole (Some text) None line read one short = absurd read
cut_whole (Some text) (Some rest) line read one short =
    let all = unended_all line rest (one ∙ ap (take_through 10) read) short in
    record { part = line; unended = all.1; is = read ∙ ap (λ (t : List ℕ). line ++ t) all.0 ∙ append-nil line }

-- the line that was read last, after some text
pub alone_of :
    (input mid remaining : Option (List ℕ)) (text last : List ℕ) → Consumes input mid text → Consumes mid remaining last → IsFirstLine last mid
    → IfSome remaining (λ rest. (input ≡ None) ⊎ (last ≡ take_through 10 (last ++ rest)))
alone_of input mid None text last read more one = tt
alone_of None mid (Some rest) text last read more one = inl refl
alone_of (Some t) None (Some rest) text last read more one = absurd read
alone_of (Some t) (Some m) (Some rest) text last read more one = inr (one ∙ ap (take_through 10) more)

-- the line that was read last has no end, so the text is cut off after what comes before it
pub cut_rest :
    (input remaining : Option (List ℕ)) (text last : List ℕ) → Consumes input remaining (text ++ last)
    → IfSome remaining (λ rest. (input ≡ None) ⊎ (last ≡ take_through 10 (last ++ rest))) → is_unended last ≡ true → IfSome input (λ whole. IsCutAfter whole text)
cut_rest None remaining text last read alone short = tt
cut_rest (Some t) None text last read alone short = absurd read
cut_rest (Some t) (Some rest) text last read (inl none) short = absurd (cc)
cut_rest (Some t) (Some rest) text last read (inr one) short =
    let all = unended_all last rest one short in
    record {
      part = last;
      unended = all.1;
      is = read ∙ ap (λ (u : List ℕ). (text ++ last) ++ u) all.0 ∙ append-nil (text ++ last);
    }
