-- The breaks that lines are for, line by line and break by break.
use Rattle.fb_types.proofs.Common.{◌≡◌, ◌⊎◌, ◌∙◌, ℕ, ◌<◌, ◌≤◌, IfSome, option_map, nat_lt, if◌then◌else◌, Bool, true, false, List, [], ◌∷◌, ◌++◌, Option, Some, None, inl, inr, refl, sym, ap, subst, arith, ltb-true, ltb-false, Each, System, line_text, Taken, lines_of, ◌+◌, length, get_or, map, take, take_more, map-append, true≢false, same_Some, none-some}
use Rattle.fb_types.specs.States.{Line}
use Rattle.fb_types.specs.declared.run.Line as run
use Rattle.fb_types.specs.declared.run.Form.TheVariants.{One}
use Rattle.fb_expect.specs.Events.{Event, IsLine}
use Rattle.fb_expect.specs.Patterns as patterns
use Rattle.fb_session.specs.Hitting.{AnyOf, IsFor, IsForAny, IsHitBy, IsLeastOf, PassBreaks, lesser}
use Rattle.fb_session.specs.declared.breaks.Break.{Break}

-- ---- Some and each

any_on : {X : Type 0} (P Q : X → Type 0) → ((x : X) → P x → Q x) → (xs : List X) → AnyOf P xs → AnyOf Q xs
any_on P Q on [] any = any
any_on P Q on (x ∷ xs) (inl p) = inl (on x p)
any_on P Q on (x ∷ xs) (inr any) = inr (any_on P Q on xs any)

any_left : {X : Type 0} (P : X → Type 0) (xs ys : List X) → AnyOf P xs → AnyOf P (xs ++ ys)
any_left P [] ys any = absurd any
any_left P (x ∷ xs) ys (inl p) = inl p
any_left P (x ∷ xs) ys (inr any) = inr (any_left P xs ys any)

any_right : {X : Type 0} (P : X → Type 0) (xs ys : List X) → AnyOf P ys → AnyOf P (xs ++ ys)
any_right P [] ys any = any
any_right P (x ∷ xs) ys any = inr (any_right P xs ys any)

any_either : {X : Type 0} (P : X → Type 0) (xs ys : List X) → AnyOf P (xs ++ ys) → AnyOf P xs ⊎ AnyOf P ys
any_either P [] ys any = inr any
any_either P (x ∷ xs) ys (inl p) = inl (inl p)
any_either P (x ∷ xs) ys (inr any) = elim (any_either P xs ys any) [
  | inl first ↦ inl (inr first)
  | inr second ↦ inr second
]

each_on : {X : Type 0} (P Q : X → Type 0) → ((x : X) → P x → Q x) → (xs : List X) → Each P xs → Each Q xs
each_on P Q on [] each = tt
each_on P Q on (x ∷ xs) each = (on x each.0, each_on P Q on xs each.1)

each_both : {X : Type 0} (P Q R : X → Type 0) → ((x : X) → P x → Q x → R x) → (xs : List X) → Each P xs → Each Q xs → Each R xs
each_both P Q R on [] first second = tt
each_both P Q R on (x ∷ xs) first second = (on x first.0 second.0, each_both P Q R on xs first.1 second.1)

each_push : {X : Type 0} (P : X → Type 0) (xs : List X) (x : X) → Each P xs → P x → Each P (xs ++ x ∷ [])
each_push P [] x each p = (p, tt)
each_push P (y ∷ ys) x each p = (each.0, each_push P ys x each.1 p)

-- ---- The least number

pub least_on : (P Q : Break → Type 0) → ((b : Break) → P b → Q b) → ((b : Break) → Q b → P b) → (bs : List Break) (o : Option ℕ) → IsLeastOf P bs o → IsLeastOf Q bs o
least_on P Q there back bs None least = each_on (λ b. P b → ⊥) (λ b. Q b → ⊥) (λ b never q. never (back b q)) bs least
least_on P Q there back bs (Some n) least = (
  any_on (λ b. P b × (b.number ≡ n)) (λ b. Q b × (b.number ≡ n)) (λ b p. (there b p.0, p.1)) bs least.0,
  each_on (λ b. P b → n ≤ b.number) (λ b. Q b → n ≤ b.number) (λ b le q. le (back b q)) bs least.1,
)

-- of either of two
module _ (P Q : Break → Type 0) (bs : List Break) where
  abbrev Either : Break → Type 0
  Either b = P b ⊎ Q b

  first_only : (n m : ℕ) → n ≤ m → IsLeastOf P bs (Some n) → IsLeastOf Q bs (Some m) → IsLeastOf Either bs (Some n)
  first_only n m le first second = (
    any_on (λ b. P b × (b.number ≡ n)) (λ b. Either b × (b.number ≡ n)) (λ b p. (inl p.0, p.1)) bs first.0,
    each_both (λ b. P b → n ≤ b.number) (λ b. Q b → m ≤ b.number) (λ b. Either b → n ≤ b.number)
        (λ b here there e. elim e [
          | inl p ↦ here p
          | inr q ↦ let more = there q in omega (arith, le, more)
        ])
        bs first.1 second.1,
  )

  second_only : (n m : ℕ) → m ≤ n → IsLeastOf P bs (Some n) → IsLeastOf Q bs (Some m) → IsLeastOf Either bs (Some m)
  second_only n m le first second = (
    any_on (λ b. Q b × (b.number ≡ m)) (λ b. Either b × (b.number ≡ m)) (λ b q. (inr q.0, q.1)) bs second.0,
    each_both (λ b. P b → n ≤ b.number) (λ b. Q b → m ≤ b.number) (λ b. Either b → m ≤ b.number)
        (λ b here there e. elim e [
          | inl p ↦ let more = here p in omega (arith, le, more)
          | inr q ↦ there q
        ])
        bs first.1 second.1,
  )

  pub least_either : (a b : Option ℕ) → IsLeastOf P bs a → IsLeastOf Q bs b → IsLeastOf Either bs (lesser a b)
  least_either None None first second =
      each_both (λ b. P b → ⊥) (λ b. Q b → ⊥) (λ b. Either b → ⊥) (λ b never none e. elim e [
        | inl p ↦ never p
        | inr q ↦ none q
      ])
      bs first second
  least_either None (Some m) first second = (
    any_on (λ b. Q b × (b.number ≡ m)) (λ b. Either b × (b.number ≡ m)) (λ b q. (inr q.0, q.1)) bs second.0,
    each_both (λ b. P b → ⊥) (λ b. Q b → m ≤ b.number) (λ b. Either b → m ≤ b.number) (λ b never there e. elim e [
      | inl p ↦ absurd (never p)
      | inr q ↦ there q
    ])
        bs first second.1,
  )
  least_either (Some n) None first second = (
    any_on (λ b. P b × (b.number ≡ n)) (λ b. Either b × (b.number ≡ n)) (λ b p. (inl p.0, p.1)) bs first.0,
    each_both (λ b. P b → n ≤ b.number) (λ b. Q b → ⊥) (λ b. Either b → n ≤ b.number) (λ b here never e. elim e [
      | inl p ↦ here p
      | inr q ↦ absurd (never q)
    ])
        bs first.1 second,
  )
  least_either (Some n) (Some m) first second = go (nat_lt m n) refl
    where
      go : (t : Bool) → nat_lt m n ≡ t → IsLeastOf Either bs (if t then Some m else Some n)
      go true is = second_only n m (let less = ltb-true m n is in omega (arith, less)) first second
      go false is = first_only n m (let less = ltb-false m n is in omega (arith, less)) first second

-- of one break more
module _ (P : Break → Type 0) (bs : List Break) (b : Break) where
  pub least_past : (o : Option ℕ) → (P b → ⊥) → IsLeastOf P bs o → IsLeastOf P (bs ++ b ∷ []) o
  least_past None never least = each_push (λ x. P x → ⊥) bs b least never
  least_past (Some n) never least = (
    any_left (λ x. P x × (x.number ≡ n)) bs (b ∷ []) least.0,
    each_push (λ x. P x → n ≤ x.number) bs b least.1 (λ p. absurd (never p)),
  )

  pub least_with : (o : Option ℕ) → P b → IsLeastOf P bs o → IsLeastOf P (bs ++ b ∷ []) (lesser o (Some b.number))
  least_with None p least = (
    any_right (λ x. P x × (x.number ≡ b.number)) bs (b ∷ []) (inl (p, refl)),
    each_push (λ x. P x → b.number ≤ x.number) bs b (each_on (λ x. P x → ⊥) (λ x. P x → b.number ≤ x.number) (λ x never q. absurd (never q)) bs least) (λ q. omega arith),
  )
  least_with (Some n) p least = go (nat_lt b.number n) refl
    where
      go : (t : Bool) → nat_lt b.number n ≡ t → IsLeastOf P (bs ++ b ∷ []) (if t then Some b.number else Some n)
      go true is =
          let less = ltb-true b.number n is in (
            any_right (λ x. P x × (x.number ≡ b.number)) bs (b ∷ []) (inl (p, refl)),
            each_push (λ x. P x → b.number ≤ x.number) bs b
                (each_on (λ x. P x → n ≤ x.number) (λ x. P x → b.number ≤ x.number) (λ x le q. let more = le q in omega (arith, less, more)) bs least.1) (λ q. omega arith),
          )
      go false is =
          let more = ltb-false b.number n is in (
            any_left (λ x. P x × (x.number ≡ n)) bs (b ∷ []) least.0,
            each_push (λ x. P x → n ≤ x.number) bs b least.1 (λ q. omega (arith, more)),
          )

-- ---- Lines

-- a line that is read as an event
pub hit_read : (sys : System) (bs : List Break) (l : Line) (e : Event) (o : Option ℕ) → IsLine One (line_text One sys l) e → ((v : Event) → IsLine One (line_text One sys l) v → e ≡ v)
    → IsLeastOf (λ b. patterns.meets b.pattern e ≡ true) bs o → IsLeastOf (IsFor sys l) bs o
hit_read sys bs l e o is only least =
    least_on (λ b. patterns.meets b.pattern e ≡ true) (IsFor sys l)
    (λ b meets. record { event = e; is_line = is; meets = meets })
    (λ b for. subst (λ (v : Event). patterns.meets b.pattern v ≡ true) (sym (only for.event for.is_line)) for.meets)
    bs o least

-- a line that is read as none
pub hit_unread : (sys : System) (bs : List Break) (l : Line) → ((v : Event) → IsLine One (line_text One sys l) v → ⊥) → IsLeastOf (IsFor sys l) bs None
hit_unread sys [] l never = tt
hit_unread sys (b ∷ bs) l never = (λ for. never for.event for.is_line, hit_unread sys bs l never)

some_is : {X : Type 0} (x y : X) → Some x ≡ Some y → x ≡ y
some_is x y is = same_Some x y is

none_some : {X : Type 0} (x : X) → None ≡ Some x → ⊥
none_some x is = none-some x is

-- the text of a line, as a reader reads it
module _ {X : Type 0} (event : X → Event) (sys : System) (bs : List Break) (l : Line) (text : List ℕ) (same : text ≡ line_text One sys l) where
  at_text : (v : Event) → IsLine One (line_text One sys l) v → IsLine One text v
  at_text v at = subst (λ (t : List ℕ). IsLine One t v) (sym same) at

  pub hit_some : (o : Option X) (x : X) (n : Option ℕ) → o ≡ Some x → IfSome o (λ e. IsLine One text (event e)) → ((v : Event) → IsLine One text v → option_map event o ≡ Some v)
      → IsLeastOf (λ b. patterns.meets b.pattern (event x) ≡ true) bs n → IsLeastOf (IsFor sys l) bs n
  hit_some None x n is line only least = absurd (none_some x is)
  hit_some (Some y) x n is line only least =
      hit_read sys bs l (event x) n
      (subst (λ (t : List ℕ). IsLine One t (event x)) same (subst (λ (e : X). IsLine One text (event e)) (some_is y x is) line))
      (λ v at. subst (λ (e : X). event e ≡ v) (some_is y x is) (some_is (event y) v (only v (at_text v at))))
      least

  pub hit_lost : (o : Option X) → o ≡ None → ((v : Event) → IsLine One text v → option_map event o ≡ Some v) → IsLeastOf (IsFor sys l) bs None
  hit_lost o is only = hit_unread sys bs l (λ v at. none_some v (subst (λ (p : Option X). option_map event p ≡ Some v) is (only v (at_text v at))))

-- no line
pub hit_none : (sys : System) (bs : List Break) → IsHitBy sys bs [] None
hit_none sys [] = tt
hit_none sys (b ∷ bs) = (λ any. any, hit_none sys bs)

-- no break
pub hit_unset : (sys : System) (ls : List Line) → IsHitBy sys [] ls None
hit_unset sys ls = tt

-- one line more
pub hit_more : (sys : System) (bs : List Break) (ls : List Line) (l : Line) (a b : Option ℕ) → IsHitBy sys bs ls a → IsLeastOf (IsFor sys l) bs b → IsHitBy sys bs (ls ++ l ∷ []) (lesser a b)
hit_more sys bs ls l a b first second =
    least_on (λ x. IsForAny sys ls x ⊎ IsFor sys l x) (IsForAny sys (ls ++ l ∷ []))
    (λ x e. elim e [
      | inl any ↦ any_left (λ k. IsFor sys k x) ls (l ∷ []) any
      | inr for ↦ any_right (λ k. IsFor sys k x) ls (l ∷ []) (inl for)
    ])
    (λ x any. elim (any_either (λ k. IsFor sys k x) ls (l ∷ []) any) [
      | inl before ↦ inl before
      | inr last ↦ elim last [
        | inl for ↦ inr for
        | inr never ↦ absurd never
      ]
    ])
    bs (lesser a b) (least_either (IsForAny sys ls) (IsFor sys l) bs a b first second)

-- one line more of a list
pub hit_next :
    (sys : System) (bs set : List Break) (f : run.Line → Line) (lines : List run.Line) (k : ℕ) (l : run.Line) (o number next : Option ℕ) → k < length lines → l ≡ get_or lines k l → set ≡ bs
    → IsHitBy sys bs (map f (take k lines)) o → IsLeastOf (IsFor sys (f l)) set number → next ≡ lesser o number → IsHitBy sys bs (map f (take (k + 1) lines)) next
hit_next sys bs set f lines k l o number next within here same before now is =
    let lines_are : map f (take (k + 1) lines) ≡ map f (take k lines) ++ f l ∷ [] =
    ap (map f) (take_more lines k l within) ∙ map-append f (take k lines) (get_or lines k l ∷ []) ∙ ap (λ (x : run.Line). map f (take k lines) ++ f x ∷ []) (sym here) in
    subst (λ (p : Option ℕ). IsHitBy sys bs (map f (take (k + 1) lines)) p) (sym is)
    (subst (λ (ls : List Line). IsHitBy sys bs ls (lesser o number)) (sym lines_are)
    (hit_more sys bs (map f (take k lines)) (f l) o number before (subst (λ (xs : List Break). IsLeastOf (IsFor sys (f l)) xs number) same now)))

-- one break more of a list
pub number_next :
    (P : Break → Type 0) (bs : List Break) (k : ℕ) (b : Break) (o : Option ℕ) → k < length bs → b ≡ get_or bs k b → P b → IsLeastOf P (take k bs) o → IsLeastOf P (take (k + 1) bs) (lesser o (Some b.number))
number_next P bs k b o within here meets before =
    subst (λ (xs : List Break). IsLeastOf P xs (lesser o (Some b.number))) (sym (take_more bs k b within ∙ ap (λ (x : Break). take k bs ++ x ∷ []) (sym here))) (least_with P (take k bs) b o meets before)

pub number_past :
    (P : Break → Type 0) (bs : List Break) (k : ℕ) (b : Break) (o : Option ℕ) → k < length bs → b ≡ get_or bs k b → (P b → ⊥) → IsLeastOf P (take k bs) o → IsLeastOf P (take (k + 1) bs) o
number_past P bs k b o within here past before =
    subst (λ (xs : List Break). IsLeastOf P xs o) (sym (take_more bs k b within ∙ ap (λ (x : Break). take k bs ++ x ∷ []) (sym here))) (least_past P (take k bs) b o past before)

pub not_both : (b : Bool) → b ≡ false → b ≡ true → ⊥
not_both b off on = absurd (true≢false (sym on ∙ off))

-- ---- Events

no_first : {X : Type 0} (xs ys : List X) → xs ++ ys ≡ [] → (xs ≡ []) × (ys ≡ [])
no_first [] ys is = (refl, is)
no_first (x ∷ xs) ys is = absurd cc

-- events without lines
pub quiet_pass : (sys : System) (bs : List Break) (ts : List Taken) → lines_of ts ≡ [] → PassBreaks sys bs ts
quiet_pass sys bs [] quiet = tt
quiet_pass sys bs (t ∷ ts) quiet =
    let both = no_first t.effect.lines (lines_of ts) quiet in
    (subst (λ (ls : List Line). IsHitBy sys bs ls None) (sym both.0) (hit_none sys bs), quiet_pass sys bs ts both.1)

-- where no break is set
pub unset_pass : (sys : System) (bs : List Break) (ts : List Taken) → bs ≡ [] → PassBreaks sys bs ts
unset_pass sys bs [] none = tt
unset_pass sys bs (t ∷ ts) none = (subst (λ (xs : List Break). IsHitBy sys xs t.effect.lines None) (sym none) (hit_unset sys t.effect.lines), unset_pass sys bs ts none)
