-- Texts that end in a line feed, whatever comes after them, and the lines that are whole in them.
use Rattle.fb_inspect.proofs.lemmas.Common.{◌≡◌, ◌≤◌, ◌⊎◌, ◌==◌, ◌+◌, ℕ, Bool, true, false, cond, List, [], ◌∷◌, ◌++◌, map, length, Option, Some, None, refl, sym, ap, subst, ◌∙◌, inl, inr, append-nil, arith, not, IfSome, take_through, line_of, System, lines_text, Form, Line, IsTextOf, HasNames, is_unended, IsWrongLine, Refusal, AreAhead, Ahead}
use Rattle.fb_wave.proofs.lemmas.Severed.{ended_feeds, feeds, feeds-append, lines_feeds, none_left, shift}
use Rattle.fb_inspect.specs.Refusals.{IsLineAfter}
use Rattle.fb_inspect.specs.walk.Standing.{MayBeAhead, ReadsWhole}
use Rattle.fb_inspect.specs.walk.Walking.{AreGathered, IsOwnRow}

-- ---- Line feeds

-- the last byte is that of the end
pub last_of : (u : List ℕ) (b : ℕ) (v : List ℕ) → is_unended (u ++ (b ∷ v)) ≡ is_unended (b ∷ v)
last_of [] b v = refl
last_of (c ∷ []) b v = shift c b v
last_of (c ∷ d ∷ us) b v = shift c d (us ++ (b ∷ v)) ∙ last_of (d ∷ us) b v

pub ended_append : (u v : List ℕ) → is_unended v ≡ false → is_unended (u ++ v) ≡ false
ended_append u [] ended = absurd (cc)
ended_append u (b ∷ v) ended = last_of u b v ∙ ended

-- a line with a line feed ends before what is left, whatever that is
pub ended_alone : (line rest left : List ℕ) → line ≡ take_through 10 (line ++ rest) → is_unended line ≡ false → line ≡ take_through 10 (line ++ left)
ended_alone [] rest left is ended = absurd (cc)
ended_alone (b ∷ []) rest left is ended = by (b == 10) refl ended
  where
    by : (t : Bool) → (b == 10) ≡ t → not t ≡ false → b ∷ [] ≡ take_through 10 (b ∷ left)
    by true ten same = sym (ap (λ (t : Bool). cond t (b ∷ []) (b ∷ take_through 10 left)) ten)
    by false ten same = absurd (cc)
ended_alone (b ∷ c ∷ bs) rest left is ended = by (λ e. ended_alone (c ∷ bs) rest left e (sym (shift b c bs) ∙ ended)) (b == 10) refl
  where
    by :
        (c ∷ bs ≡ take_through 10 ((c ∷ bs) ++ rest) → c ∷ bs ≡ take_through 10 ((c ∷ bs) ++ left)) → (t : Bool) → (b == 10) ≡ t
        → b ∷ c ∷ bs ≡ take_through 10 ((b ∷ c ∷ bs) ++ left)
    by go true ten =
        let short : b ∷ c ∷ bs ≡ b ∷ [] = is ∙ ap (λ (t : Bool). cond t (b ∷ []) (b ∷ take_through 10 ((c ∷ bs) ++ rest))) ten in
        absurd (cc)
    by go false other =
        let tail : b ∷ c ∷ bs ≡ b ∷ take_through 10 ((c ∷ bs) ++ rest) = is ∙ ap (λ (t : Bool). cond t (b ∷ []) (b ∷ take_through 10 ((c ∷ bs) ++ rest))) other in
        let more : c ∷ bs ≡ take_through 10 ((c ∷ bs) ++ left) = go (cc) in
        ap (λ (l : List ℕ). b ∷ l) more ∙ sym (ap (λ (t : Bool). cond t (b ∷ []) (b ∷ take_through 10 ((c ∷ bs) ++ left))) other)

-- ---- Lines of a text

module _ (sys : System) (names : HasNames sys) (front : List ℕ) (ended : is_unended front ≡ false) (number : ℕ) where
  abbrev texts_of : Form → List Line → List ℕ
  texts_of form ls = lines_text form sys (map (line_of sys) ls)

  -- A line that comes there whatever comes after a text is a line of the text.
  line_within : (f k : Form) (before earlier : List Line) (line : List ℕ) → IsLineAfter sys f number (front ++ []) before line → IsLineAfter sys k number (front ++ (10 ∷ [])) earlier line → number ≤ feeds front
  line_within f k before earlier [] one two =
      let nothing = none_left two.rest two.alone in
      let whole : front ++ (10 ∷ []) ≡ texts_of k earlier = two.is ∙ ap (λ (r : List ℕ). texts_of k earlier ++ r) nothing ∙ append-nil (texts_of k earlier) in
      let more : feeds front + 1 ≡ length earlier = sym (feeds-append front (10 ∷ [])) ∙ ap feeds whole ∙ lines_feeds sys k earlier names two.are.each in
      let is : feeds front ≡ feeds (texts_of f before) + feeds one.rest = ap feeds (sym (append-nil front) ∙ one.is) ∙ feeds-append (texts_of f before) one.rest in
      let many = lines_feeds sys f before names one.are.each in
      let first = one.numbered in
      let second = two.numbered in
      omega (arith, more, is, many, first, second)
  line_within f k before earlier (b ∷ bs) one two =
      let is : front ≡ texts_of f before ++ (b ∷ (bs ++ one.rest)) = sym (append-nil front) ∙ one.is in
      let last : is_unended (b ∷ (bs ++ one.rest)) ≡ false = sym (last_of (texts_of f before) b (bs ++ one.rest)) ∙ sym (ap is_unended is) ∙ ended in
      let some = ended_feeds (b ∷ (bs ++ one.rest)) last in
      let counted : feeds front ≡ feeds (texts_of f before) + feeds (b ∷ (bs ++ one.rest)) = ap feeds is ∙ feeds-append (texts_of f before) (b ∷ (bs ++ one.rest)) in
      let many = lines_feeds sys f before names one.are.each in
      let first = one.numbered in
      omega (arith, some, counted, many, first)

  pub wrong_within : (steps : ℕ) (n : Refusal) (line : List ℕ) → n.number ≡ number → IsWrongLine sys steps n line (front ++ []) → IsWrongLine sys steps n line (front ++ (10 ∷ [])) → number ≤ feeds front
  wrong_within steps n line same one two =
      line_within one.form two.form one.before two.before line (subst (λ (k : ℕ). IsLineAfter sys one.form k (front ++ []) one.before line) same one.at)
      (subst (λ (k : ℕ). IsLineAfter sys two.form k (front ++ (10 ∷ [])) two.before line) same two.at)

-- ---- What is read ahead

module _ (sys : System) (form : Form) (first : Line) where
  -- nothing more was read
  pub stays_whole : (a : Ahead) (input : Option (List ℕ)) → (a.text.items ≡ [] → ⊥) → IfSome input (λ before. ReadsWhole sys form first a a before input)
  stays_whole a None some = tt
  stays_whole a (Some before) some = record {
    more = [];
    ended = inl refl;
    left = (before, refl, refl);
    text = sym (append-nil a.text.items);
    ahead = λ rest may. by rest may;
  }
    where
      by : (rest : List ℕ) → MayBeAhead sys form first a.text.items a.last.items rest → (rows : List Line) × AreAhead sys form first rows a.text.items a.last.items rest
      by rest (inl none) = absurd (some none)
      by rest (inr there) = there

  -- lines were read, and one more, which has a line feed
  pub filled_whole :
      (old new : Ahead) (rows : List Line) (text : List ℕ) (input remaining : Option (List ℕ)) → old.text.items ≡ [] → AreGathered sys form first rows text new.last.items input remaining
      → ((m : Line) → IsTextOf sys form m new.last.items → IsOwnRow m first → ⊥) → new.text.items ≡ text ++ new.last.items → is_unended new.last.items ≡ false
      → IfSome input (λ before. ReadsWhole sys form first old new before remaining)
  filled_whole old new rows text None remaining none are other is ended = tt
  filled_whole old new rows text (Some before) None none are other is ended = absurd are.read
  filled_whole old new rows text (Some before) (Some rest) none are other is ended = record {
    more = text ++ new.last.items;
    ended = inr (ended_append text new.last.items ended);
    left = (rest, refl, are.read);
    text = is ∙ ap (λ (u : List ℕ). u ++ (text ++ new.last.items)) (sym none);
    ahead = λ left may. (
      rows,
      record { each = are.each; is = is ∙ ap (λ (u : List ℕ). u ++ new.last.items) are.is; alone = by left are.alone; other = other },
    );
  }
    where
      by : (left : List ℕ) → (Some before ≡ None) ⊎ (new.last.items ≡ take_through 10 (new.last.items ++ rest)) → new.last.items ≡ take_through 10 (new.last.items ++ left)
      by left (inl nothing) = absurd (cc)
      by left (inr alone) = ended_alone new.last.items rest left alone ended
