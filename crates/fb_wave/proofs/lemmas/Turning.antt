-- The changes of a tick are put one after another, and each signal's note goes.
use Rattle.fb_types.proofs.Common.{◌≡◌, ◌≢◌, ℕ, ◌+◌, ◌<◌, ◌≤◌, Bool, true, false, ◌||◌, ◌&&◌, List, [], ◌∷◌, ◌++◌, length, take, drop, get_or, set, refl, sym, ap, subst, ◌∙◌, arith, append_assoc, append-nil, All, not, drop_more, take_more, take_all, drop_all, get_or_default, length-set, All-head, All-tail}
use Rattle.fb_types.specs.declared.value.Value.{Value}
use Rattle.std.specs.List.{flat_map}
use borrow.Author.Tests.{eq-eqb, ne_eqb}
use Rattle.fb_wave.proofs.lemmas.Noting.{at_set, is_in-more}
use Rattle.fb_wave.specs.Changes.{changed, changes}
use Rattle.fb_wave.specs.Levels.{shown_of, is_in, marked, IsCell, AreLevels}
use Rattle.fb_wave.specs.declared.levels.Cell.{Cell}
use Rattle.fb_wave.specs.declared.levels.Levels as code

-- What has become of a cell where the notes of some signals are gone.
pub record IsLater (gone : List ℕ) (k : ℕ) (old new : Cell) : Type 0 where
  pub shown : new.shown ≡ old.shown
  pub is_marked : new.is_marked ≡ (old.is_marked && not (is_in gone k))

-- what signals show, by their cells
abbrev pub shown_by : List Cell → Cell → List ℕ → List ℕ
shown_by cells d ss = flat_map (λ s. changed s (get_or cells s d).shown) ss

-- The changes of the marked signals before an index are put.
pub record IsTurned (old text : List ℕ) (from to : code.Levels) (index : ℕ) : Type 0 where
  pub counted : length to.cells.items ≡ length from.cells.items
  pub marked : to.marked.items ≡ from.marked.items
  pub cells : (k : ℕ) (d e : Cell) → k < length from.cells.items → IsLater (take index from.marked.items) k (get_or from.cells.items k d) (get_or to.cells.items k e)
  pub shown : (d : Cell) → text ++ shown_by from.cells.items d (drop index from.marked.items) ≡ old ++ shown_by from.cells.items d from.marked.items

and_true : (b : Bool) → b ≡ (b && true)
and_true true = refl
and_true false = refl

and_false : (b : Bool) → false ≡ (b && false)
and_false true = refl
and_false false = refl

or_false : (b : Bool) → (b || (false || false)) ≡ b
or_false true = refl
or_false false = refl

or_true : (b : Bool) → (b || (true || false)) ≡ true
or_true true = refl
or_true false = refl

and_not : (b : Bool) → (b && not b) ≡ false
and_not true = refl
and_not false = refl

pub turned_none : (old : List ℕ) (from : code.Levels) → IsTurned old old from from 0
turned_none old from =
    record {
      counted = refl;
      marked = refl;
      cells = λ k d e h.
          let same : get_or from.cells.items k e ≡ get_or from.cells.items k d = get_or_default from.cells.items k e d h in
          record {
            shown = ap (λ (c : Cell). c.shown) same;
            is_marked = ap (λ (c : Cell). c.is_marked) same ∙ and_true _;
          };
      shown = λ d. refl;
    }

pub turned_more :
    (old text grown : List ℕ) (from to past : code.Levels) (p s : ℕ) (x y : Cell) → IsTurned old text from to p → p < length from.marked.items
    → s ≡ get_or from.marked.items p s → s < length from.cells.items
    → x ≡ get_or to.cells.items s x → grown ≡ text ++ changed s x.shown
    → past.cells.items ≡ set to.cells.items s (record { shown = (get_or to.cells.items s y).shown; is_marked = false })
    → past.marked.items ≡ to.marked.items → IsTurned old grown from past (p + 1)
turned_more old text grown from to past p s x y turned within at there cell put cells listed =
    let gone : List ℕ = take p from.marked.items in
    let all : List ℕ = take (p + 1) from.marked.items in
    let one : all ≡ gone ++ s ∷ [] = take_more from.marked.items p s within ∙ ap (λ (k : ℕ). gone ++ k ∷ []) (sym at) in
    let next : drop p from.marked.items ≡ s ∷ drop (p + 1) from.marked.items =
    drop_more from.marked.items p s within ∙ ap (λ (k : ℕ). k ∷ drop (p + 1) from.marked.items) (sym at)
    in
    let Was : ℕ → Cell → Type 0 = λ k c. (d : Cell) → k < length from.cells.items → IsLater gone k (get_or from.cells.items k d) c in
    let Is : ℕ → Cell → Type 0 = λ k c. (d : Cell) → k < length from.cells.items → IsLater all k (get_or from.cells.items k d) c in
    let other : (k : ℕ) (c : Cell) → k ≢ s → Was k c → Is k c =
    λ k c differ was d h.
    let it = was d h in
    record {
      shown = it.shown;
      is_marked = it.is_marked ∙ ap (λ (b : Bool). (get_or from.cells.items k d).is_marked && not b)
          (sym (ap (λ (l : List ℕ). is_in l k) one ∙ is_in-more gone s k
          ∙ ap (λ (b : Bool). is_in gone k || (b || false)) (ne_eqb s k (λ e. differ (sym e))) ∙ or_false (is_in gone k)));
    }
    in
    let here : Is s (record { shown = (get_or to.cells.items s y).shown; is_marked = false }) =
    λ d h. record {
      shown = (turned.cells s d y h).shown;
      is_marked = and_false (get_or from.cells.items s d).is_marked ∙ ap (λ (b : Bool). (get_or from.cells.items s d).is_marked && not b)
          (sym (ap (λ (l : List ℕ). is_in l s) one ∙ is_in-more gone s s
          ∙ ap (λ (b : Bool). is_in gone s || (b || false)) (eq-eqb s s refl) ∙ or_true (is_in gone s)));
    }
    in
    let sized : length past.cells.items ≡ length from.cells.items = ap length cells ∙ length-set to.cells.items s _ ∙ turned.counted in
    let set_all = at_set Was Is to.cells.items s _ (λ k e h d g. turned.cells k d e g) other (omega (arith, turned.counted, there)) here in
    record {
      counted = sized;
      marked = listed ∙ turned.marked;
      cells = λ k d e h.
          subst (λ (l : List Cell). k < length l → IsLater all k (get_or from.cells.items k d) (get_or l k e)) (sym cells) (λ g. set_all k e g d h)
          (omega (arith, sized, h));
      shown = λ d.
          ap (λ (l : List ℕ). l ++ shown_by from.cells.items d (drop (p + 1) from.marked.items)) put
          ∙ append_assoc text (changed s x.shown) (shown_by from.cells.items d (drop (p + 1) from.marked.items))
          ∙ ap (λ (l : List ℕ). text ++ (l ++ shown_by from.cells.items d (drop (p + 1) from.marked.items)))
          (ap (λ (c : Cell). changed s c.shown) cell ∙ ap (changed s) ((turned.cells s d x there).shown))
          ∙ ap (λ (l : List ℕ). text ++ shown_by from.cells.items d l) (sym next) ∙ turned.shown d;
    }

shown_same : (F G : ℕ → List ℕ) (P : ℕ → Type 0) (ss : List ℕ) → All P ss → ((s : ℕ) → P s → F s ≡ G s) → flat_map F ss ≡ flat_map G ss
shown_same F G P [] all same = refl
shown_same F G P (s ∷ ss) all same =
    ap (λ (l : List ℕ). l ++ flat_map F ss) (same s (All-head P s ss all)) ∙ ap (λ (l : List ℕ). G s ++ l) (shown_same F G P ss (All-tail P s ss all) same)

pub turned_text :
    (n : ℕ) (f : List ℕ) (t : List (ℕ × Value)) (u : List ℕ) (old text : List ℕ) (from to : code.Levels) (p : ℕ) (d : Cell) → AreLevels n f t u from
    → All (λ s. s < length from.cells.items) from.marked.items → IsTurned old text from to p → length from.marked.items ≤ p → text ≡ old ++ changes f t u
turned_text n f t u old text from to p d are within turned past =
    sym (append-nil text) ∙ ap (λ (l : List ℕ). text ++ shown_by from.cells.items d l) (sym (drop_all p from.marked.items past)) ∙ turned.shown d
    ∙ ap (λ (l : List ℕ). old ++ l)
    (shown_same (λ s. changed s (get_or from.cells.items s d).shown) (λ s. changed s (shown_of s f t)) (λ s. s < length from.cells.items) from.marked.items within
    (λ s h. ap (changed s) ((are.cells s d h).shown))
    ∙ ap (flat_map (λ (s : ℕ). changed s (shown_of s f t))) are.marked)

pub turned_levels :
    (n : ℕ) (f : List ℕ) (t : List (ℕ × Value)) (u : List ℕ) (old text : List ℕ) (from to past : code.Levels) (p : ℕ) → AreLevels n f t u from → IsTurned old text from to p
    → length from.marked.items ≤ p → past.cells.items ≡ to.cells.items → past.marked.items ≡ [] → AreLevels n f t [] past
turned_levels n f t u old text from to past p are turned end cells none =
    record {
      counted = ap length cells ∙ turned.counted ∙ are.counted;
      cells = subst (λ (l : List Cell). (s : ℕ) (d : Cell) → s < length l → IsCell f t [] s (get_or l s d)) (sym cells)
          (λ s d h.
          let long : s < length from.cells.items = omega (arith, h, turned.counted) in
          let was = are.cells s d long in
          let is = turned.cells s d d long in
          record {
            shown = is.shown ∙ was.shown;
            is_marked = is.is_marked
                ∙ ap (λ (b : Bool). b && not (is_in (take p from.marked.items) s)) was.is_marked
                ∙ ap (λ (l : List ℕ). is_in (marked [] u) s && not (is_in l s)) (take_all p from.marked.items end ∙ are.marked)
                ∙ and_not (is_in (marked [] u) s);
          });
      marked = none;
    }
