-- Marked texts from which the early lines are taken, tick after tick and list by list.
use Rattle.fb_sim.proofs.lemmas.Common.{◌≡◌, ℕ, suc, ◌+◌, ◌<◌, ◌≤◌, Bool, true, false, Option, Some, List, [], ◌∷◌, ◌++◌, length, map, take, drop, get_or, refl, sym, ap, ap₂, ◌∙◌, subst, arith, IsPermutation, append-nil, append_assoc, nat_lt, AllZip, cond-false, le-ltb, length-append, length-map, take_more, take_all, map_push, Inputs, system_of, Each, Form, Line, IsLeast, all_early, all_late, early, joint, late, Rises, tick_of, IsMarkedText, IsRest, IsMergedText}
use Rattle.fb_types.proofs.Common.{cond, set, sum_by, ltb-true, length-take-le, drop_more, drop_all, take-append-le, sum_by-cons}
use Rattle.std.proofs.Common.{filter}
use Rattle.std.proofs.lemmas.List.{drop-append-le}
use Rattle.std.proofs.lemmas.List.Sorted.{length_permutation}
use Rattle.fb_trace.specs.Fronts.{BeginsFrom, IsEmpty, before, lesser, tick_at}
use Rattle.fb_trace.specs.Marks.{AreMarked, IsRun, text_of_lines}
use Rattle.fb_trace.specs.declared.marks.Mark.{Mark}
use Rattle.fb_trace.specs.declared.marks.MarkedText.{MarkedText}
use Rattle.fb_trace.proofs.lemmas.order.Sorting.{tie}
use Rattle.fb_trace.proofs.lemmas.order.EarlyLines.{IsTaken, early_more, fewer, further, least_more, none_early, none_left}
use Rattle.fb_sim.specs.JoinedTexts.{ArePut, IsCut, IsPassed, IsPut, past_at}
use Rattle.fb_sim.specs.declared.rounds.join_texts.Rest.{Rest}
use Rattle.fb_sim.proofs.lemmas.text.Texts.{parts_text}
use Rattle.fb_sim.proofs.lemmas.text.MergedText.{all_woven, begin_all}

-- if the first line is past a tick, or there is none
pub all_past : (t : ℕ) (xs : List Line) → past_at t (tick_at xs) ≡ true → (early t xs ≡ []) × (late t xs ≡ xs)
all_past t [] e = (refl, refl)
all_past t (x ∷ xs) e = none_early t (x ∷ xs) (ltb-true t (tick_of x) e)

-- ---- Runs of lines

module _ (t m : ℕ) where
  -- lines of one tick that is not past
  each_early : (xs rest : List Line) → m ≤ t → Each (λ y. tick_of y ≡ m) xs → early t (xs ++ rest) ≡ xs ++ early t rest
  each_early [] rest b h = refl
  each_early (x ∷ xs) rest b h =
      let e = h.0 in
      cond-false (nat_lt t (tick_of x)) [] (x ∷ early t (xs ++ rest)) (le-ltb t (tick_of x) (omega (arith, b, e)))
      ∙ ap (λ z. x ∷ z) (each_early xs rest b h.1)

  each_late : (xs rest : List Line) → m ≤ t → Each (λ y. tick_of y ≡ m) xs → late t (xs ++ rest) ≡ late t rest
  each_late [] rest b h = refl
  each_late (x ∷ xs) rest b h =
      let e = h.0 in
      cond-false (nat_lt t (tick_of x)) (x ∷ xs ++ rest) (late t (xs ++ rest)) (le-ltb t (tick_of x) (omega (arith, b, e))) ∙ each_late xs rest b h.1

  each_of : (xs : List Line) → IsRun m xs → Each (λ y. tick_of y ≡ m) xs
  each_of [] r = absurd r
  each_of (x ∷ xs) r = r

  run_past : (xs rest : List Line) → t < m → IsRun m xs → (early t (xs ++ rest) ≡ []) × (late t (xs ++ rest) ≡ xs ++ rest)
  run_past [] rest b r = absurd r
  run_past (x ∷ xs) rest b r = none_early t (x ∷ xs ++ rest) (let e = r.0 in omega (arith, b, e))

parts : (t : ℕ) (xs : List Line) → early t xs ++ late t xs ≡ xs
parts t [] = refl
parts t (x ∷ xs) = step (nat_lt t (tick_of x)) (parts t xs)
  where
    step : (b : Bool) → early t xs ++ late t xs ≡ xs → cond b [] (x ∷ early t xs) ++ cond b (x ∷ xs) (late t xs) ≡ x ∷ xs
    step true h = refl
    step false h = ap (λ z. x ∷ z) h

module _ (i : Inputs) (form : Form) where
  pub text-append : (xs ys : List Line) → text_of_lines i form (xs ++ ys) ≡ text_of_lines i form xs ++ text_of_lines i form ys
  text-append xs ys = sym (parts_text form (system_of i) xs ys (xs ++ ys) refl)

  -- Some runs of marks are passed, and none of them is past a tick.
  pub record IsPassing (t n : ℕ) (lines : List Line) (stop : ℕ) (marks : List Mark) : Type 0 where
    pub done : List Line
    pub rest : List Line
    pub taken : early t lines ≡ done ++ early t rest
    pub kept : late t lines ≡ late t rest
    pub end : stop ≡ n + length (text_of_lines i form done)
    pub marked : AreMarked i form stop marks rest

  module _ (t n : ℕ) (lines : List Line) where
    pub none_passed : (ms : List Mark) → AreMarked i form n ms lines → IsPassing t n lines n ms
    none_passed ms h = record { done = []; rest = lines; taken = refl; kept = refl; end = omega arith; marked = h }

    module _ (end : ℕ) (left : List Mark) (it : IsPassing t n lines end left) where
      -- one run more
      pub more_passed : (m : Mark) (ms : List Mark) → left ≡ m ∷ ms → m.tick ≤ t → IsPassing t n lines m.end ms
      more_passed m ms e b =
          let h : AreMarked i form end (m ∷ ms) it.rest = subst (λ z. AreMarked i form end z it.rest) e it.marked in
          let run = h.0 in
          let rest = h.1 in
          let each = each_of t m.tick run h.3 in
          let long : length (text_of_lines i form (it.done ++ run)) ≡ length (text_of_lines i form it.done) + length (text_of_lines i form run) =
          ap length (text-append it.done run) ∙ length-append (text_of_lines i form it.done) (text_of_lines i form run) in
          let was = it.end in
          let here = h.4 in
          record {
            done = it.done ++ run;
            rest = rest;
            taken = it.taken ∙ ap (λ z. it.done ++ z) (ap (early t) h.2 ∙ each_early t m.tick run rest b each) ∙ sym (append_assoc it.done run (early t rest));
            kept = it.kept ∙ ap (late t) h.2 ∙ each_late t m.tick run rest b each;
            end = omega (arith, long, was, here);
            marked = h.5;
          }

      ends : (early t it.rest ≡ []) × (late t it.rest ≡ it.rest) → IsPassed i form t n lines end left
      ends h =
          let all : early t lines ≡ it.done = it.taken ∙ ap (λ z. it.done ++ z) h.0 ∙ append-nil it.done in
          record {
            end = it.end ∙ ap (λ z. n + length (text_of_lines i form z)) (sym all);
            left = subst (AreMarked i form end left) (sym (it.kept ∙ h.1)) it.marked;
          }

      -- the next run is past the tick
      pub past_passed : (m : Mark) (ms : List Mark) → left ≡ m ∷ ms → t < m.tick → IsPassed i form t n lines end left
      past_passed m ms e b =
          let h : AreMarked i form end (m ∷ ms) it.rest = subst (λ z. AreMarked i form end z it.rest) e it.marked in
          ends (subst (λ z. (early t z ≡ []) × (late t z ≡ z)) (sym h.2) (run_past t m.tick h.0 h.1 b h.3))

      -- no run is left
      pub all_passed : left ≡ [] → IsPassed i form t n lines end left
      all_passed e =
          let h : it.rest ≡ [] = subst (λ z. AreMarked i form end z it.rest) e it.marked in
          ends (subst (λ z. (early t z ≡ []) × (late t z ≡ z)) (sym h) (refl, refl))

  -- ---- The text of the lines up to a tick

  module _ (t n : ℕ) (lines : List Line) (text : List ℕ) (end taken : ℕ) (is : text ≡ text_of_lines i form lines)
      (ends : end ≡ n + length (text_of_lines i form (early t lines))) where
    in_parts : text ≡ text_of_lines i form (early t lines) ++ text_of_lines i form (late t lines)
    in_parts = is ∙ ap (text_of_lines i form) (sym (parts t lines)) ∙ text-append (early t lines) (late t lines)

    pub early_short : length (text_of_lines i form (early t lines)) ≤ length text
    early_short =
        let long : length text ≡ length (text_of_lines i form (early t lines)) + length (text_of_lines i form (late t lines)) =
        ap length in_parts ∙ length-append (text_of_lines i form (early t lines)) (text_of_lines i form (late t lines)) in
        omega (arith, long)

    module _ (all : taken ≡ length (text_of_lines i form (early t lines))) where
      pub early_text : take taken text ≡ text_of_lines i form (early t lines)
      early_text =
          let a = text_of_lines i form (early t lines) in
          ap (take taken) in_parts ∙ take-append-le taken a (text_of_lines i form (late t lines)) (omega (arith, all)) ∙ take_all taken a (omega (arith, all))

      pub late_text : drop taken text ≡ text_of_lines i form (late t lines)
      late_text =
          let a = text_of_lines i form (early t lines) in
          let b = text_of_lines i form (late t lines) in
          ap (drop taken) in_parts ∙ drop-append-le taken a b (omega (arith, all)) ∙ ap (λ z. z ++ b) (drop_all taken a (omega (arith, all)))

  module _ (t : ℕ) (lines : List Line) (old : List ℕ) where
    -- no line is at the tick or before it
    pub past_put : (r : Rest) → IsRest i form lines r → past_at t r.tick ≡ true → IsPut i form t lines old old r r.tick
    past_put r h e =
        let none = all_past t lines (ap (past_at t) (sym h.tick) ∙ e) in
        record {
          text = sym (append-nil old) ∙ ap (λ z. old ++ text_of_lines i form z) (sym none.0);
          left = subst (λ z. IsRest i form z r) (sym none.1) h;
          first = h.tick ∙ ap tick_at (sym none.1);
        }

    pub cut_put : (bytes new : List ℕ) (r : Rest) → IsCut i form t lines bytes r → new ≡ old ++ bytes → IsPut i form t lines old new r r.tick
    cut_put bytes new r h e = record { text = e ∙ ap (λ z. old ++ z) h.text; left = h.left; first = h.left.tick }

-- ---- Lists side by side

module _ {A B : Type 0} (R : A → B → Type 0) where
  pub zip_at : (fs : List A) (x : A) (bs : List A) (ys : List B) (d : B) → AllZip R (fs ++ x ∷ bs) ys → R x (get_or ys (length fs) d)
  zip_at [] x bs [] d h = absurd h
  zip_at [] x bs (y ∷ ys) d h = h.0
  zip_at (a ∷ fs) x bs [] d h = absurd h
  zip_at (a ∷ fs) x bs (y ∷ ys) d h = zip_at fs x bs ys d h.1

  pub zip_set : (fs : List A) (x z : A) (bs : List A) (ys : List B) (y : B) → AllZip R (fs ++ x ∷ bs) ys → R z y → AllZip R (fs ++ z ∷ bs) (set ys (length fs) y)
  zip_set [] x z bs [] w h r = absurd h
  zip_set [] x z bs (y ∷ ys) w h r = (r, h.1)
  zip_set (a ∷ fs) x z bs [] w h r = absurd h
  zip_set (a ∷ fs) x z bs (y ∷ ys) w h r = (h.0, zip_set fs x z bs ys w h.1 r)

  pub zip_more : (xs : List A) (ys : List B) (x : A) (y : B) → AllZip R xs ys → R x y → AllZip R (xs ++ x ∷ []) (ys ++ y ∷ [])
  zip_more [] [] x y h r = (r, tt)
  zip_more [] (b ∷ ys) x y h r = absurd h
  zip_more (a ∷ xs) [] x y h r = absurd h
  zip_more (a ∷ xs) (b ∷ ys) x y h r = (h.0, zip_more xs ys x y h.1 r)

  pub zip_length : (xs : List A) (ys : List B) → AllZip R xs ys → length xs ≡ length ys
  zip_length [] [] h = refl
  zip_length [] (y ∷ ys) h = absurd h
  zip_length (x ∷ xs) [] h = absurd h
  zip_length (x ∷ xs) (y ∷ ys) h = ap suc (zip_length xs ys h.1)

-- It is a whole marked text, of all that it is the text of.
abbrev pub IsWhole : MarkedText → Rest → Type 0
IsWhole t r = (i : Inputs) (form : Form) (lines : List Line) → IsMarkedText i form lines t → IsRest i form lines r

pub whole_rests : (i : Inputs) (form : Form) (lists : List (List Line)) (texts : List MarkedText) (rests : List Rest) → AllZip (IsMarkedText i form) lists texts → AllZip IsWhole texts rests
    → AllZip (IsRest i form) lists rests
whole_rests i form [] [] [] h g = tt
whole_rests i form [] [] (r ∷ rs) h g = absurd g
whole_rests i form [] (t ∷ ts) rests h g = absurd h
whole_rests i form (xs ∷ lists) [] rests h g = absurd h
whole_rests i form (xs ∷ lists) (t ∷ ts) [] h g = absurd g
whole_rests i form (xs ∷ lists) (t ∷ ts) (r ∷ rs) h g = (g.0 i form xs h.0, whole_rests i form lists ts rs h.1 g.1)

-- ---- List by list

module _ (i : Inputs) (form : Form) (t : ℕ) (lists : List (List Line)) (old : List ℕ) where
  -- The text of the lines up to a tick of the first lists is put.
  pub record ArePutTo (k : ℕ) (new : List ℕ) (rests : List Rest) (next : Option ℕ) : Type 0 where
    pub text : new ≡ old ++ text_of_lines i form (all_early t (take k lists))
    pub left : AllZip (IsRest i form) (map (late t) (take k lists) ++ drop k lists) rests
    pub least : IsLeast (map (late t) (take k lists)) next

  module _ (k : ℕ) (new : List ℕ) (rests : List Rest) (next : Option ℕ) (it : ArePutTo k new rests next) (within : k < length lists) where
    at : length (map (late t) (take k lists)) ≡ k
    at = length-map (take k lists) (late t) ∙ length-take-le k lists (omega (arith, within))

    zipped : AllZip (IsRest i form) (map (late t) (take k lists) ++ get_or lists k [] ∷ drop (k + 1) lists) rests
    zipped = subst (λ z. AllZip (IsRest i form) (map (late t) (take k lists) ++ z) rests) (drop_more lists k [] within) it.left

    pub is_rest : (r : Rest) → r ≡ get_or rests k r → IsRest i form (get_or lists k []) r
    is_rest r e =
        subst (IsRest i form (get_or lists k [])) (sym e)
        (subst (λ n. IsRest i form (get_or lists k []) (get_or rests n r)) at (zip_at (IsRest i form) (map (late t) (take k lists)) (get_or lists k []) (drop (k + 1) lists) rests r zipped))

    pub more_put : (new' : List ℕ) (r : Rest) (first : Option ℕ) → IsPut i form t (get_or lists k []) new new' r first
        → ArePutTo (k + 1) new' (set rests k r) (lesser next first)
    more_put new' r first p =
        let x = get_or lists k [] in
        let fs = map (late t) (take k lists) in
        let bs = drop (k + 1) lists in
        let more : take (k + 1) lists ≡ take k lists ++ x ∷ [] = take_more lists k [] within in
        let lates : map (late t) (take (k + 1) lists) ≡ fs ++ late t x ∷ [] = ap (map (late t)) more ∙ map_push (late t) (take k lists) x in
        let text = text_of_lines i form in
        record {
          text = p.text ∙ ap (λ z. z ++ text (early t x)) it.text ∙ append_assoc old (text (all_early t (take k lists))) (text (early t x))
              ∙ ap (λ z. old ++ z) (sym (text-append i form (all_early t (take k lists)) (early t x)) ∙ ap text (sym (early_more t (take k lists) x) ∙ ap (all_early t) (sym more)));
          left = subst (λ z. AllZip (IsRest i form) z (set rests k r)) (sym (append_assoc fs (late t x ∷ []) bs) ∙ ap (λ z. z ++ bs) (sym lates))
              (subst (λ n. AllZip (IsRest i form) (fs ++ late t x ∷ bs) (set rests n r)) at (zip_set (IsRest i form) fs x (late t x) bs rests r zipped p.left));
          least = subst (λ z. IsLeast z (lesser next first)) (sym lates)
              (subst (λ z. IsLeast (fs ++ late t x ∷ []) (lesser next z)) (sym p.first) (least_more fs (late t x) next it.least));
        }

  pub all_are_put : (k : ℕ) (new : List ℕ) (rests : List Rest) (next : Option ℕ) → ArePutTo k new rests next → length lists ≤ k → ArePut i form t lists old new rests next
  all_are_put k new rests next it all =
      let whole : take k lists ≡ lists = take_all k lists all in
      record {
        text = it.text ∙ ap (λ z. old ++ text_of_lines i form (all_early t z)) whole;
        left = subst (λ z. AllZip (IsRest i form) z rests) (ap₂ (λ y z. map (late t) y ++ z) whole (drop_all k lists all) ∙ append-nil (map (late t) lists)) it.left;
        least = subst (λ z. IsLeast (map (late t) z) next) whole it.least;
      }

-- ---- Tick by tick

joint_before : (xs : List Line) (rest : List (List Line)) → joint (before xs rest) ≡ xs ++ joint rest
joint_before [] rest = refl
joint_before (x ∷ xs) rest = refl

-- Lists with no line left are kept.
joint_kept : (t : ℕ) (xss : List (List Line)) → joint (map (late t) xss) ≡ joint (all_late t xss)
joint_kept t [] = refl
joint_kept t (xs ∷ rest) = ap (λ z. late t xs ++ z) (joint_kept t rest) ∙ sym (joint_before (late t xs) (all_late t rest))

module _ (P : List Line → Type 0) (none : P []) where
  each_parts : (xs : List Line) (rest : List (List Line)) → Each P (before xs rest) → P xs × Each P rest
  each_parts [] rest h = (none, h)
  each_parts (x ∷ xs) rest h = (h.0, h.1)

  each_kept : (t : ℕ) (xss : List (List Line)) → Each P (all_late t xss) → Each P (map (late t) xss)
  each_kept t [] h = tt
  each_kept t (xs ∷ rest) h = let p = each_parts (late t xs) (all_late t rest) h in (p.0, each_kept t rest p.1)

taken_kept : (t : ℕ) (lists : List (List Line)) (all : List Line) (left : List (List Line)) → IsTaken lists all (all_late t left) → IsTaken lists all (map (late t) left)
taken_kept t lists all left it =
    let same : joint (all_late t left) ≡ joint (map (late t) left) = sym (joint_kept t left) in
    record {
      whole = subst (λ z. IsPermutation (joint lists) (all ++ z)) same it.whole;
      order = λ up.
          let s = it.order up in
          record {
            up = each_kept (Rises tick_of) tt t left s.up;
            risen = s.risen;
            following = subst (λ z. Each (λ x. Each (λ y. tick_of x ≤ tick_of y) z) all) same s.following;
            stable = λ x. subst (λ z. filter (tie tick_of x) (all ++ z) ≡ filter (tie tick_of x) (joint lists)) same (s.stable x);
          };
    }

-- no line is left
none_of : (xss : List (List Line)) → length (joint xss) ≤ 0 → Each IsEmpty xss
none_of [] h = tt
none_of ([] ∷ rest) h = (tt, none_of rest h)
none_of ((x ∷ xs) ∷ rest) h = let no : ⊥ = omega arith in absurd no

from_first : (xss : List (List Line)) → Each (BeginsFrom 0) xss
from_first [] = tt
from_first ([] ∷ rest) = (tt, from_first rest)
from_first ((x ∷ xs) ∷ rest) = (omega arith, from_first rest)

-- how many lines marked texts are of
pub lines_counted : (i : Inputs) (form : Form) (lists : List (List Line)) (texts : List MarkedText) → AllZip (IsMarkedText i form) lists texts
    → length (joint lists) ≡ sum_by (λ t. t.lines) texts
lines_counted i form [] [] h = refl
lines_counted i form [] (t ∷ ts) h = absurd h
lines_counted i form (xs ∷ lists) [] h = absurd h
lines_counted i form (xs ∷ lists) (t ∷ ts) h =
    length-append xs (joint lists) ∙ ap₂ ◌+◌ (sym h.0.lines) (lines_counted i form lists ts h.1) ∙ sym (sum_by-cons (λ (u : MarkedText). u.lines) t ts)

module _ (i : Inputs) (form : Form) (lists : List (List Line)) where
  -- The text is of the lines that were taken off the lists. This is left, and there are turns enough to take it.
  pub record IsJoining (text : List ℕ) (rests : List Rest) (next : Option ℕ) (turns : ℕ) : Type 0 where
    pub put : List Line
    pub left : List (List Line)
    pub taken : IsTaken lists put left
    pub is : text ≡ text_of_lines i form put
    pub stay : AllZip (IsRest i form) left rests
    pub least : IsLeast left next
    pub enough : length (joint left) ≤ turns

  pub first_turn : (text : List ℕ) (rests : List Rest) (next : Option ℕ) (turns : ℕ) → ArePut i form 0 lists [] text rests next → length (joint lists) ≡ turns → IsJoining text rests next turns
  first_turn text rests next turns p counted =
      let taken = taken_kept 0 lists (all_early 0 lists) lists (further 0 lists [] lists (begin_all lists) (from_first lists)) in
      let long : length (all_early 0 lists ++ joint (map (late 0) lists)) ≡ length (joint lists) =
      length_permutation (joint lists) (all_early 0 lists ++ joint (map (late 0) lists)) taken.whole in
      let sum = length-append (all_early 0 lists) (joint (map (late 0) lists)) in
      record {
        put = all_early 0 lists;
        left = map (late 0) lists;
        taken = taken;
        is = p.text;
        stay = p.left;
        least = p.least;
        enough = omega (arith, long, sum, counted);
      }

  module _ (text : List ℕ) (rests : List Rest) (turns : ℕ) where
    pub one_turn : (t : ℕ) (it : IsJoining text rests (Some t) turns) (text' : List ℕ) (rests' : List Rest) (next' : Option ℕ) (turns' : ℕ) → ArePut i form t it.left text text' rests' next' → turns ≡ turns' + 1
        → IsJoining text' rests' next' turns'
    one_turn t it text' rests' next' turns' p counted =
        let less : length (joint (map (late t) it.left)) < length (joint it.left) = subst (λ z. length z < length (joint it.left)) (sym (joint_kept t it.left)) (fewer t it.left it.least) in
        let enough = it.enough in
        record {
          put = it.put ++ all_early t it.left;
          left = map (late t) it.left;
          taken = taken_kept t lists (it.put ++ all_early t it.left) it.left (further t lists it.put it.left it.taken it.least.low);
          is = p.text ∙ ap (λ z. z ++ text_of_lines i form (all_early t it.left)) it.is ∙ sym (text-append i form it.put (all_early t it.left));
          stay = p.left;
          least = p.least;
          enough = omega (arith, less, enough, counted);
        }

    woven : (next : Option ℕ) (it : IsJoining text rests next turns) → Each IsEmpty it.left → IsMergedText i form lists text
    woven next it none = record { all = it.put; woven = all_woven lists it.put it.left it.taken none; is = it.is }

    pub no_turn_left : (next : Option ℕ) → IsJoining text rests next turns → turns ≡ 0 → IsMergedText i form lists text
    no_turn_left next it e = let enough = it.enough in woven next it (none_of it.left (omega (arith, enough, e)))

    pub no_tick_left : (next : Option ℕ) → IsJoining text rests next turns → ((t : ℕ) → next ≡ Some t → ⊥) → IsMergedText i form lists text
    no_tick_left next it d = woven next it (none_left it.left next it.least d)
