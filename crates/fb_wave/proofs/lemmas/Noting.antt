-- What signals show after one more event or value, and which are marked.
use Rattle.fb_types.proofs.Common.{◌≡◌, ◌≢◌, ℕ, ◌+◌, ◌%◌, ◌^◌, ◌<◌, Bool, true, false, cond, ◌||◌, List, [], ◌∷◌, ◌++◌, length, Option, Some, None, get_or, set, refl, sym, ap, subst, ◌∙◌, arith, inl, inr, ◌==◌, All, count_by, cases_lt, get_or-set_other, get_or-set_same, get_or_append_left, length-set, length_push, list_any-append}
use Rattle.fb_types.specs.declared.value.Value.{Value}
use Rattle.std.proofs.lemmas.List.{get_or_push}
use Rattle.std.proofs.lemmas.List.Sums.{sum_by-append}
use borrow.Author.Tests.{eq-eqb, ne_eqb}
use Rattle.fb_wave.specs.Levels.{or_else, last_shown, count_in, shows, shown_of, after_event, is_in, with_one, marked, IsCell, AreLevels}
use Rattle.fb_wave.specs.declared.levels.Cell.{Cell}
use Rattle.fb_wave.specs.declared.levels.Levels as code
use Rattle.fb_wave.specs.declared.levels.Level.{Level}
use Rattle.fb_wave.specs.declared.levels.Level.TheVariants.{Count, Last}

-- ---- One more

or_else-cond : (b : Bool) (v : Value) (o u : Option Value) → or_else (cond b (Some v) o) u ≡ cond b (Some v) (or_else o u)
or_else-cond true v o u = refl
or_else-cond false v o u = refl

last_shown-more : (s : ℕ) (ts : List (ℕ × Value)) (k : ℕ) (v : Value) → last_shown s (ts ++ (k, v) ∷ []) ≡ cond (k == s) (Some v) (last_shown s ts)
last_shown-more s [] k v = refl
last_shown-more s (t ∷ ts) k v =
    ap (λ (o : Option Value). or_else o (cond (t.0 == s) (Some t.1) None)) (last_shown-more s ts k v)
    ∙ or_else-cond (k == s) v (last_shown s ts) (cond (t.0 == s) (Some t.1) None)

count_by-more : (s : ℕ) (fs : List ℕ) (k : ℕ) → count_by (λ (j : ℕ). j == s) (fs ++ k ∷ []) ≡ count_by (λ (j : ℕ). j == s) fs + cond (k == s) 1 0
count_by-more s fs k = sum_by-append (λ (j : ℕ). cond (j == s) 1 0) fs (k ∷ []) ∙ ap (λ (m : ℕ). count_by (λ (j : ℕ). j == s) fs + m) (zeroth (cond (k == s) 1 0))
  where
    zeroth : (m : ℕ) → 0 + m ≡ m
    zeroth m = omega arith

marked-append : (b ss us : List ℕ) → marked b (ss ++ us) ≡ marked (marked b ss) us
marked-append b [] us = refl
marked-append b (s ∷ ss) us = marked-append (with_one b s) ss us

pub is_in-more : (ss : List ℕ) (s k : ℕ) → is_in (ss ++ s ∷ []) k ≡ (is_in ss k || ((s == k) || false))
is_in-more ss s k = list_any-append (λ (j : ℕ). j == k) ss (s ∷ [])

-- ---- One more signal

abbrev fresh : Cell
fresh = record { shown = Count 0; is_marked = false }

is_fresh : (s : ℕ) → IsCell [] [] [] s fresh
is_fresh s = record { shown = refl; is_marked = refl }

-- the same number of signals
pub counted_as : (n m : ℕ) (x : code.Levels) → n ≡ m → AreLevels n [] [] [] x → AreLevels m [] [] [] x
counted_as n m x same are = subst (λ (k : ℕ). AreLevels k [] [] [] x) same are

-- a signal of which no line shown
pub one_more_signal :
    (n : ℕ) (x y : code.Levels) → AreLevels n [] [] [] x → y.cells.items ≡ x.cells.items ++ fresh ∷ [] → y.marked.items ≡ x.marked.items
    → AreLevels (n + 1) [] [] [] y
one_more_signal n x y are more same =
    let xs = x.cells.items in
    let counted = are.counted in
    record {
      counted = omega (arith, ap length more, length_push xs fresh, counted);
      cells = subst (λ (cs : List Cell). (s : ℕ) (d : Cell) → s < length cs → IsCell [] [] [] s (get_or cs s d)) (sym more)
          (λ s d h.
          elim (cases_lt s (length xs)) [
            | inl less ↦ subst (IsCell [] [] [] s) (sym (get_or_append_left xs (fresh ∷ []) d s less)) (are.cells s d less)
            | inr past ↦
                (let last : length xs ≡ s = omega (arith, h, past, length_push xs fresh) in
                subst (IsCell [] [] [] s) (sym (get_or_push xs fresh d s last)) (is_fresh s))
          ]);
      marked = same ∙ are.marked;
    }

-- ---- A table with one cell changed

pub at_set :
    (P Q : ℕ → Cell → Type 0) (xs : List Cell) (s : ℕ) (x : Cell) → ((k : ℕ) (d : Cell) → k < length xs → P k (get_or xs k d))
    → ((k : ℕ) (c : Cell) → k ≢ s → P k c → Q k c) → s < length xs → Q s x
    → (k : ℕ) (d : Cell) → k < length (set xs s x) → Q k (get_or (set xs s x) k d)
at_set P Q xs s x all other within here k d h =
    let long : k < length xs = omega (arith, h, length-set xs s x) in
    let apart : k ≢ s → Q k (get_or (set xs s x) k d) = λ differ. subst (Q k) (sym (get_or-set_other xs s k x d differ)) (other k (get_or xs k d) differ (all k d long)) in
    elim (cases_lt k s) [
      | inl less ↦ apart (λ e. omega (arith, e, less))
      | inr past ↦
          elim (cases_lt s k) [
            | inl more ↦ apart (λ e. omega (arith, e, more))
            | inr same ↦
                (let e : s ≡ k = omega (arith, past, same) in
                subst (λ j. Q j (get_or (set xs s x) j d)) e (subst (Q s) (sym (get_or-set_same xs s x d within)) here))
          ]
    ]

-- ---- Notes

pub marked_old :
    (n : ℕ) (f : List ℕ) (t : List (ℕ × Value)) (u : List ℕ) (x : code.Levels) (s : ℕ) (d : Cell) → AreLevels n f t u x → s < length x.cells.items
    → (get_or x.cells.items s d).is_marked ≡ true → AreLevels n f t (u ++ s ∷ []) x
marked_old n f t u x s d all within is =
    let there : is_in (marked [] u) s ≡ true = sym ((all.cells s d within).is_marked) ∙ is in
    let same : marked [] u ≡ marked [] (u ++ s ∷ []) = sym (marked-append [] u (s ∷ []) ∙ ap (λ (b : Bool). cond b (marked [] u) (marked [] u ++ s ∷ [])) there) in
    record {
      counted = all.counted;
      cells = λ k e h.
          let c = all.cells k e h in
          record { shown = c.shown; is_marked = c.is_marked ∙ ap (λ (l : List ℕ). is_in l k) same };
      marked = all.marked ∙ same;
    }

pub marked_new :
    (n : ℕ) (f : List ℕ) (t : List (ℕ × Value)) (u : List ℕ) (x y : code.Levels) (s : ℕ) (d : Cell) → AreLevels n f t u x → s < length x.cells.items
    → (get_or x.cells.items s d).is_marked ≡ false
    → y.cells.items ≡ set x.cells.items s (record { shown = (get_or x.cells.items s d).shown; is_marked = true })
    → y.marked.items ≡ x.marked.items ++ s ∷ [] → AreLevels n f t (u ++ s ∷ []) y
marked_new n f t u x y s d all within is cells listed =
    let none : is_in (marked [] u) s ≡ false = sym ((all.cells s d within).is_marked) ∙ is in
    let grown : marked [] (u ++ s ∷ []) ≡ marked [] u ++ s ∷ [] = marked-append [] u (s ∷ []) ∙ ap (λ (b : Bool). cond b (marked [] u) (marked [] u ++ s ∷ [])) none in
    let other : (k : ℕ) (c : Cell) → k ≢ s → IsCell f t u k c → IsCell f t (u ++ s ∷ []) k c =
    λ k c differ is'. record {
      shown = is'.shown;
      is_marked = is'.is_marked ∙ sym (ap (λ (l : List ℕ). is_in l k) grown ∙ is_in-more (marked [] u) s k
          ∙ ap (λ (b : Bool). is_in (marked [] u) k || (b || false)) (ne_eqb s k (λ e. differ (sym e))) ∙ or_false (is_in (marked [] u) k));
    }
    in
    let here : IsCell f t (u ++ s ∷ []) s (record { shown = (get_or x.cells.items s d).shown; is_marked = true }) =
    record {
      shown = (all.cells s d within).shown;
      is_marked = sym (ap (λ (l : List ℕ). is_in l s) grown ∙ is_in-more (marked [] u) s s ∙ ap (λ (b : Bool). is_in (marked [] u) s || (b || false)) (eq-eqb s s refl) ∙ or_true (is_in (marked [] u) s));
    }
    in
    record {
      counted = ap length cells ∙ length-set x.cells.items s _ ∙ all.counted;
      cells = subst (λ (l : List Cell). (k : ℕ) (e : Cell) → k < length l → IsCell f t (u ++ s ∷ []) k (get_or l k e)) (sym cells)
          (at_set (IsCell f t u) (IsCell f t (u ++ s ∷ [])) x.cells.items s _ all.cells other within here);
      marked = listed ∙ ap (λ (l : List ℕ). l ++ s ∷ []) all.marked ∙ sym grown;
    }
  where
    or_false : (b : Bool) → (b || (false || false)) ≡ b
    or_false true = refl
    or_false false = refl

    or_true : (b : Bool) → (b || (true || false)) ≡ true
    or_true true = refl
    or_true false = refl

-- one more marked signal is within the cells
pub within_more :
    (cells : List Cell) (ss new : List ℕ) (s : ℕ) (x : Cell) → All (λ k. k < length cells) ss → s < length cells → new ≡ ss ++ s ∷ []
    → All (λ k. k < length (set cells s x)) new
within_more cells ss new s x are one is =
    let long = length-set cells s x in
    subst (All (λ k. k < length (set cells s x))) (sym is)
    (λ k d h.
    elim (cases_lt k (length ss)) [
      | inl less ↦ subst (λ (m : ℕ). m < length (set cells s x)) (sym (get_or_append_left ss (s ∷ []) d k less)) (let w = are k d less in omega (arith, w, long))
      | inr past ↦
          (let last : length ss ≡ k = omega (arith, h, past, length_push ss s) in
          subst (λ (m : ℕ). m < length (set cells s x)) (sym (get_or_push ss s d k last)) (omega (arith, one, long)))
    ])

-- ---- Values and events

-- a cell shows something else, and its note stays
reshown :
    (n : ℕ) (f g : List ℕ) (t w : List (ℕ × Value)) (u : List ℕ) (x y : code.Levels) (s : ℕ) (d : Cell) (v : Level) → AreLevels n f t u x → s < length x.cells.items
    → ((k : ℕ) → k ≢ s → shown_of k f t ≡ shown_of k g w) → v ≡ shown_of s g w
    → y.cells.items ≡ set x.cells.items s (record { shown = v; is_marked = (get_or x.cells.items s d).is_marked })
    → y.marked.items ≡ x.marked.items → AreLevels n g w u y
reshown n f g t w u x y s d v all within others is cells listed =
    let other : (k : ℕ) (c : Cell) → k ≢ s → IsCell f t u k c → IsCell g w u k c =
    λ k c differ is'. record { shown = is'.shown ∙ others k differ; is_marked = is'.is_marked }
    in
    let here : IsCell g w u s (record { shown = v; is_marked = (get_or x.cells.items s d).is_marked }) =
    record { shown = is; is_marked = (all.cells s d within).is_marked }
    in
    record {
      counted = ap length cells ∙ length-set x.cells.items s _ ∙ all.counted;
      cells = subst (λ (l : List Cell). (k : ℕ) (e : Cell) → k < length l → IsCell g w u k (get_or l k e)) (sym cells)
          (at_set (IsCell f t u) (IsCell g w u) x.cells.items s _ all.cells other within here);
      marked = listed ∙ all.marked;
    }

pub shown_one :
    (n : ℕ) (f : List ℕ) (t : List (ℕ × Value)) (u : List ℕ) (x y : code.Levels) (s : ℕ) (d : Cell) (v : Value) → AreLevels n f t u x → s < length x.cells.items
    → y.cells.items ≡ set x.cells.items s (record { shown = Last v; is_marked = (get_or x.cells.items s d).is_marked })
    → y.marked.items ≡ x.marked.items → AreLevels n f (t ++ (s, v) ∷ []) u y
shown_one n f t u x y s d v all within cells listed =
    reshown n f f t (t ++ (s, v) ∷ []) u x y s d (Last v) all within
    (λ k differ. ap (λ (o : Option Value). shows o (count_in k f)) (sym (last_shown-more k t s v ∙ ap (λ (b : Bool). cond b (Some v) (last_shown k t)) (ne_eqb s k (λ e. differ (sym e))))))
    (ap (λ (o : Option Value). shows o (count_in s f)) (sym (last_shown-more s t s v ∙ ap (λ (b : Bool). cond b (Some v) (last_shown s t)) (eq-eqb s s refl))))
    cells listed

count_same : (f : List ℕ) (s k : ℕ) → k ≢ s → count_in k f ≡ count_in k (f ++ s ∷ [])
count_same f s k differ =
    ap (λ (m : ℕ). m % 2 ^ 64) (sym (count_by-more k f s ∙ ap (λ (b : Bool). count_by (λ (j : ℕ). j == k) f + cond b 1 0) (ne_eqb s k (λ e. differ (sym e))) ∙ omega arith))

count_next : (f : List ℕ) (s : ℕ) → (count_in s f + 1) % 2 ^ 64 ≡ count_in s (f ++ s ∷ [])
count_next f s =
    next (count_by (λ (j : ℕ). j == s) f)
    ∙ ap (λ (m : ℕ). m % 2 ^ 64) (sym (count_by-more s f s ∙ ap (λ (b : Bool). count_by (λ (j : ℕ). j == s) f + cond b 1 0) (eq-eqb s s refl)))
  where
    next : (c : ℕ) → (c % 2 ^ 64 + 1) % 2 ^ 64 ≡ (c + 1) % 2 ^ 64
    next c = omega arith

after-shows : (o : Option Value) (n : ℕ) → after_event (shows o n) ≡ shows o ((n + 1) % 2 ^ 64)
after-shows None n = refl
after-shows (Some v) n = refl

pub fired_one :
    (n : ℕ) (f : List ℕ) (t : List (ℕ × Value)) (u : List ℕ) (x y : code.Levels) (s : ℕ) (d e : Cell) (v : Level) → AreLevels n f t u x → s < length x.cells.items
    → v ≡ after_event ((get_or x.cells.items s e).shown)
    → y.cells.items ≡ set x.cells.items s (record { shown = v; is_marked = (get_or x.cells.items s d).is_marked })
    → y.marked.items ≡ x.marked.items → AreLevels n (f ++ s ∷ []) t u y
fired_one n f t u x y s d e v all within is cells listed =
    reshown n f (f ++ s ∷ []) t t u x y s d v all within
    (λ k differ. ap (shows (last_shown k t)) (count_same f s k differ))
    (is ∙ ap after_event ((all.cells s e within).shown) ∙ after-shows (last_shown s t) (count_in s f) ∙ ap (shows (last_shown s t)) (count_next f s))
    cells listed
