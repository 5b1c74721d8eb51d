-- The changes of lines whose ticks do not fall are those of each tick, one tick after another.
use Rattle.fb_types.proofs.Common.{◌≡◌, ℕ, ◌<◌, ◌≤◌, Bool, decimal, true, false, cond, List, [], ◌∷◌, ◌++◌, map, refl, sym, ap, subst, ◌∙◌, inl, inr, arith, append_assoc, append-nil, ◌==◌, nat_lt, cases_lt, eq-eqb, eqb-false, eqb-true, false_from_ne_true, lt-ltb, ltb-true, ne_eqb, or_from, or_left, or_right, list_any-append, System}
use Rattle.fb_types.specs.declared.run.Line.{Line}
use Rattle.std.specs.Prelude.{filter}
use Rattle.std.specs.List.{flat_map}
use Rattle.fb_wave.specs.ByTick.{AreTickByTick, before_tick, of_tick, tick_text}
use Rattle.fb_wave.specs.Changes.{line, time_text}
use Rattle.fb_wave.specs.Dumps.{tick_changes, ticks_text}
use Rattle.fb_wave.specs.Levels.{is_in, marked}
use Rattle.fb_wave.specs.Waves.{RiseFrom}

-- ---- Lines below a tick, and of a tick

abbrev AreBelow : ℕ → List Line → Type 0
AreBelow t [] = Unit {0}
AreBelow t (l ∷ ls) = (l.key.tick < t) × AreBelow t ls

abbrev AreAt : ℕ → List Line → Type 0
AreAt t [] = Unit {0}
AreAt t (l ∷ ls) = (l.key.tick ≡ t) × AreAt t ls

below_both : (t : ℕ) (ls ms : List Line) → AreBelow t ls → AreBelow t ms → AreBelow t (ls ++ ms)
below_both t [] ms one two = two
below_both t (l ∷ ls) ms one two = (one.0, below_both t ls ms one.1 two)

below_later : (t u : ℕ) (ls : List Line) → t < u → AreBelow t ls → AreBelow u ls
below_later t u [] later below = tt
below_later t u (l ∷ ls) later below = let low = below.0 in (omega (arith, low, later), below_later t u ls later below.1)

at_later : (t u : ℕ) (ls : List Line) → t < u → AreAt t ls → AreBelow u ls
at_later t u [] later at = tt
at_later t u (l ∷ ls) later at = let same = at.0 in (omega (arith, same, later), at_later t u ls later at.1)

at_more : (t : ℕ) (ls : List Line) (l : Line) → AreAt t ls → l.key.tick ≡ t → AreAt t (ls ++ l ∷ [])
at_more t [] l at same = (same, tt)
at_more t (m ∷ ls) l at same = (at.0, at_more t ls l at.1 same)

-- ---- What filters leave of them

kept : (p : Line → Bool) (l : Line) (ls : List Line) → p l ≡ true → filter p (l ∷ ls) ≡ l ∷ filter p ls
kept p l ls e = ap (λ (b : Bool). cond b (l ∷ filter p ls) (filter p ls)) e

left_out : (p : Line → Bool) (l : Line) (ls : List Line) → p l ≡ false → filter p (l ∷ ls) ≡ filter p ls
left_out p l ls e = ap (λ (b : Bool). cond b (l ∷ filter p ls) (filter p ls)) e

filter_step :
    (p : Line → Bool) (l : Line) (ls ms : List Line) → filter p (ls ++ ms) ≡ filter p ls ++ filter p ms → (b : Bool) → p l ≡ b
    → filter p (l ∷ (ls ++ ms)) ≡ filter p (l ∷ ls) ++ filter p ms
filter_step p l ls ms more true e =
    kept p l (ls ++ ms) e ∙ ap (λ (xs : List Line). l ∷ xs) more ∙ ap (λ (xs : List Line). xs ++ filter p ms) (sym (kept p l ls e))
filter_step p l ls ms more false e = left_out p l (ls ++ ms) e ∙ more ∙ ap (λ (xs : List Line). xs ++ filter p ms) (sym (left_out p l ls e))

filter_both : (p : Line → Bool) (ls ms : List Line) → filter p (ls ++ ms) ≡ filter p ls ++ filter p ms
filter_both p [] ms = refl
filter_both p (l ∷ ls) ms = filter_step p l ls ms (filter_both p ls ms) (p l) refl

below_all : (t : ℕ) (ls : List Line) → AreBelow t ls → before_tick t ls ≡ ls
below_all t [] below = refl
below_all t (l ∷ ls) below = kept (λ l. nat_lt l.key.tick t) l ls (lt-ltb l.key.tick t below.0) ∙ ap (λ (xs : List Line). l ∷ xs) (below_all t ls below.1)

below_none : (t : ℕ) (ls : List Line) → AreBelow t ls → of_tick t ls ≡ []
below_none t [] below = refl
below_none t (l ∷ ls) below =
    let low = below.0 in left_out (λ l. l.key.tick == t) l ls (ne_eqb l.key.tick t (λ e. omega (arith, e, low))) ∙ below_none t ls below.1

at_all : (t : ℕ) (ls : List Line) → AreAt t ls → of_tick t ls ≡ ls
at_all t [] at = refl
at_all t (l ∷ ls) at = kept (λ l. l.key.tick == t) l ls (eq-eqb l.key.tick t at.0) ∙ ap (λ (xs : List Line). l ∷ xs) (at_all t ls at.1)

-- none of the lines from a later tick on
rise_none : (t u : ℕ) (ls : List Line) → t < u → RiseFrom u ls → of_tick t ls ≡ []
rise_none t u [] later rise = refl
rise_none t u (l ∷ ls) later rise =
    let up = rise.0 in
    left_out (λ l. l.key.tick == t) l ls (ne_eqb l.key.tick t (λ e. omega (arith, e, up, later))) ∙ rise_none t l.key.tick ls (omega (arith, up, later)) rise.1

rise_not_before : (t u : ℕ) (ls : List Line) → t ≤ u → RiseFrom u ls → before_tick t ls ≡ []
rise_not_before t u [] later rise = refl
rise_not_before t u (l ∷ ls) later rise =
    let up = rise.0 in
    left_out (λ l. nat_lt l.key.tick t) l ls (false_from_ne_true (nat_lt l.key.tick t) (λ h. let low = ltb-true l.key.tick t h in omega (arith, low, up, later)))
    ∙ rise_not_before t l.key.tick ls (omega (arith, up, later)) rise.1

-- ---- The ticks of lines after a tick

abbrev later_ticks : ℕ → List Line → List ℕ
later_ticks t [] = []
later_ticks t (l ∷ ls) = cond (l.key.tick == t) (later_ticks t ls) (l.key.tick ∷ later_ticks l.key.tick ls)

not_among : (seen : List ℕ) (t u : ℕ) → is_in seen u ≡ false → t < u → is_in (seen ++ t ∷ []) u ≡ false
not_among seen t u none later =
    list_any-append (λ (k : ℕ). k == u) seen (t ∷ []) ∙ or_from (is_in seen u) (is_in (t ∷ []) u) none (or_from (t == u) false (ne_eqb t u (λ e. omega (arith, e, later))) refl)

-- No tick above these is among them.
abbrev IsGreatest : List ℕ → ℕ → Type 0
IsGreatest seen t = (u : ℕ) → t < u → is_in seen u ≡ false

last_seen : (seen : List ℕ) (t : ℕ) → is_in (seen ++ t ∷ []) t ≡ true
last_seen [] t = or_left (t == t) false (eq-eqb t t refl)
last_seen (s ∷ seen) t = or_right (s == t) (is_in (seen ++ t ∷ []) t) (last_seen seen t)

above : (t u : ℕ) → t ≤ u → (u ≡ t → ⊥) → t < u
above t u up differ = elim (cases_lt t u) [ inl less ↦ less | inr past ↦ (let same : u ≡ t = omega (arith, up, past) in absurd (differ same)) ]

abbrev Notes : (seen : List ℕ) → (t : ℕ) → (ls : List Line) → Type 0
Notes seen t ls = marked (seen ++ t ∷ []) (map (λ l. l.key.tick) ls) ≡ (seen ++ t ∷ []) ++ later_ticks t ls

marked_step :
    (seen : List ℕ) (t : ℕ) (l : Line) (ls : List Line) → IsGreatest seen t → t ≤ l.key.tick → (l.key.tick ≡ t → Notes seen t ls)
    → (t < l.key.tick → Notes (seen ++ t ∷ []) l.key.tick ls) → (b : Bool) → (l.key.tick == t) ≡ b → Notes seen t (l ∷ ls)
marked_step seen t l ls greatest up same_tick next_tick true e =
    let all = seen ++ t ∷ [] in
    let u = l.key.tick in
    let same = eqb-true u t e in
    ap (λ (b : Bool). marked (cond b all (all ++ u ∷ [])) (map (λ (l : Line). l.key.tick) ls)) (ap (is_in all) same ∙ last_seen seen t)
    ∙ same_tick same ∙ ap (λ (b : Bool). all ++ cond b (later_ticks t ls) (u ∷ later_ticks u ls)) (sym e)
marked_step seen t l ls greatest up same_tick next_tick false e =
    let all = seen ++ t ∷ [] in
    let u = l.key.tick in
    let later : t < u = above t u up (eqb-false u t e) in
    ap (λ (b : Bool). marked (cond b all (all ++ u ∷ [])) (map (λ (l : Line). l.key.tick) ls)) (not_among seen t u (greatest u later) later)
    ∙ next_tick later ∙ append_assoc all (u ∷ []) (later_ticks u ls)
    ∙ ap (λ (b : Bool). all ++ cond b (later_ticks t ls) (u ∷ later_ticks u ls)) (sym e)

marked_later : (seen : List ℕ) (t : ℕ) (ls : List Line) → IsGreatest seen t → RiseFrom t ls → Notes seen t ls
marked_later seen t [] greatest rise = sym (append-nil (seen ++ t ∷ []))
marked_later seen t (l ∷ ls) greatest rise =
    marked_step seen t l ls greatest rise.0 (λ e. marked_later seen t ls greatest (subst (λ (k : ℕ). RiseFrom k ls) e rise.1))
    (λ later. marked_later (seen ++ t ∷ []) l.key.tick ls
    (λ v high. not_among seen t v (greatest v (omega (arith, high, later))) (omega (arith, high, later))) rise.1)
    (l.key.tick == t) refl

-- ---- The text of the ticks from one on

time_same : (t u : ℕ) → t < u → time_text t u ≡ time_text 0 u
time_same t u later =
    ap (λ (b : Bool). cond b [] (line (35 ∷ decimal u))) (ne_eqb u t (λ e. omega (arith, e, later)))
    ∙ ap (λ (b : Bool). cond b [] (line (35 ∷ decimal u))) (sym (ne_eqb u 0 (λ e. omega (arith, e, later))))

-- What is shown from a tick on: what its lines change, those that came and those that come, and then each later tick.
abbrev ShownFrom : System → (tick : ℕ) → (before now rest : List Line) → List ℕ
ShownFrom sys t before now rest =
    tick_changes sys before (of_tick t (now ++ rest)) ++ flat_map (tick_text sys ((before ++ now) ++ rest)) (later_ticks t rest)

one_more : (before now : List Line) (l : Line) (ls : List Line) → (before ++ (now ++ l ∷ [])) ++ ls ≡ (before ++ now) ++ l ∷ ls
one_more before now l ls = simp append_assoc

parts : (a t c f : List ℕ) → (a ++ t) ++ (c ++ f) ≡ a ++ ((t ++ c) ++ f)
parts a t c f = simp append_assoc

module _ (sys : System) (t : ℕ) (before now : List Line) (l : Line) (ls : List Line) (below : AreBelow t before) (at : AreAt t now)
    (up : t ≤ l.key.tick) (rise : RiseFrom l.key.tick ls) where
  abbrev u : ℕ
  u = l.key.tick

  abbrev all : List Line
  all = (before ++ now) ++ l ∷ ls

  step_same :
      (u == t) ≡ true → ticks_text sys t before (now ++ l ∷ []) ls ≡ ShownFrom sys t before (now ++ l ∷ []) ls
      → ticks_text sys t before now (l ∷ ls) ≡ ShownFrom sys t before now (l ∷ ls)
  step_same e more =
      ap (λ (b : Bool). cond b (ticks_text sys t before (now ++ l ∷ []) ls)
      ((tick_changes sys before now ++ time_text t u) ++ ticks_text sys u (before ++ now) (l ∷ []) ls)) e
      ∙ more
      ∙ ap (λ (xs : List Line). tick_changes sys before (of_tick t xs) ++ flat_map (tick_text sys ((before ++ (now ++ l ∷ [])) ++ ls)) (later_ticks t ls))
      (append_assoc now (l ∷ []) ls)
      ∙ ap (λ (xs : List Line). tick_changes sys before (of_tick t (now ++ l ∷ ls)) ++ flat_map (tick_text sys xs) (later_ticks t ls)) (one_more before now l ls)
      ∙ ap (λ (b : Bool). tick_changes sys before (of_tick t (now ++ l ∷ ls)) ++ flat_map (tick_text sys all) (cond b (later_ticks t ls) (u ∷ later_ticks u ls))) (sym e)

  step_next :
      (u == t) ≡ false → t < u → ticks_text sys u (before ++ now) (l ∷ []) ls ≡ ShownFrom sys u (before ++ now) (l ∷ []) ls
      → ticks_text sys t before now (l ∷ ls) ≡ ShownFrom sys t before now (l ∷ ls)
  step_next e later more =
      let A = tick_changes sys before now in
      let F = flat_map (tick_text sys all) (later_ticks u ls) in
      let here : of_tick t (now ++ l ∷ ls) ≡ now =
      filter_both (λ l. l.key.tick == t) now (l ∷ ls) ∙ ap (λ (xs : List Line). xs ++ of_tick t (l ∷ ls)) (at_all t now at)
      ∙ ap (λ (xs : List Line). now ++ xs) (rise_none t u (l ∷ ls) later (omega arith, rise)) ∙ append-nil now
      in
      let past : AreBelow u (before ++ now) = below_both u before now (below_later t u before later below) (at_later t u now later at) in
      let old : before_tick u all ≡ before ++ now =
      filter_both (λ l. nat_lt l.key.tick u) (before ++ now) (l ∷ ls) ∙ ap (λ (xs : List Line). xs ++ before_tick u (l ∷ ls)) (below_all u (before ++ now) past)
      ∙ ap (λ (xs : List Line). (before ++ now) ++ xs) (rise_not_before u u (l ∷ ls) (omega arith) (omega arith, rise)) ∙ append-nil (before ++ now)
      in
      let new : of_tick u all ≡ of_tick u (l ∷ ls) =
      filter_both (λ l. l.key.tick == u) (before ++ now) (l ∷ ls) ∙ ap (λ (xs : List Line). xs ++ of_tick u (l ∷ ls)) (below_none u (before ++ now) past)
      in
      ap (λ (b : Bool). cond b (ticks_text sys t before (now ++ l ∷ []) ls) ((A ++ time_text t u) ++ ticks_text sys u (before ++ now) (l ∷ []) ls)) e
      ∙ ap (λ (xs : List ℕ). (A ++ time_text t u) ++ xs)
      (more ∙ ap (λ (xs : List Line). tick_changes sys (before ++ now) (of_tick u (l ∷ ls)) ++ flat_map (tick_text sys xs) (later_ticks u ls)) (append_assoc (before ++ now) (l ∷ []) ls))
      ∙ ap (λ (xs : List ℕ). (A ++ xs) ++ (tick_changes sys (before ++ now) (of_tick u (l ∷ ls)) ++ F)) (time_same t u later)
      ∙ parts A (time_text 0 u) (tick_changes sys (before ++ now) (of_tick u (l ∷ ls))) F
      ∙ ap (λ (xs : List Line). A ++ ((time_text 0 u ++ tick_changes sys xs (of_tick u (l ∷ ls))) ++ F)) (sym old)
      ∙ ap (λ (xs : List Line). A ++ ((time_text 0 u ++ tick_changes sys (before_tick u all) xs) ++ F)) (sym new)
      ∙ ap (λ (xs : List Line). tick_changes sys before xs ++ (tick_text sys all u ++ F)) (sym here)
      ∙ ap (λ (b : Bool). tick_changes sys before (of_tick t (now ++ l ∷ ls)) ++ flat_map (tick_text sys all) (cond b (later_ticks t ls) (u ∷ later_ticks u ls))) (sym e)

  step :
      ((u ≡ t) → ticks_text sys t before (now ++ l ∷ []) ls ≡ ShownFrom sys t before (now ++ l ∷ []) ls)
      → (t < u → ticks_text sys u (before ++ now) (l ∷ []) ls ≡ ShownFrom sys u (before ++ now) (l ∷ []) ls) → (b : Bool) → (u == t) ≡ b
      → ticks_text sys t before now (l ∷ ls) ≡ ShownFrom sys t before now (l ∷ ls)
  step same next true e = step_same e (same (eqb-true u t e))
  step same next false e = let later = above t u up (eqb-false u t e) in step_next e later (next later)

shown_from :
    (sys : System) (t : ℕ) (before now rest : List Line) → AreBelow t before → AreAt t now → RiseFrom t rest → ticks_text sys t before now rest ≡ ShownFrom sys t before now rest
shown_from sys t before now [] below at rise =
    ap (tick_changes sys before) (sym (ap (of_tick t) (append-nil now) ∙ at_all t now at)) ∙ sym (append-nil (tick_changes sys before (of_tick t (now ++ []))))
shown_from sys t before now (l ∷ ls) below at rise =
    step sys t before now l ls below at rise.0 rise.1
    (λ e. shown_from sys t before (now ++ l ∷ []) ls below (at_more t now l at e) (subst (λ (k : ℕ). RiseFrom k ls) e rise.1))
    (λ later. shown_from sys l.key.tick (before ++ now) (l ∷ []) ls
    (below_both l.key.tick before now (below_later t l.key.tick before later below) (at_later t l.key.tick now later at)) (refl, tt) rise.1)
    (l.key.tick == t) refl

-- The law.
pub ticks_are : AreTickByTick
ticks_are sys ls rise =
    shown_from sys 0 [] [] ls tt tt rise
    ∙ ap (λ (xs : List Line). tick_changes sys xs (of_tick 0 ls) ++ flat_map (tick_text sys ls) (later_ticks 0 ls)) (sym (rise_not_before 0 0 ls (omega arith) rise))
    ∙ ap (flat_map (tick_text sys ls)) (sym (marked_later [] 0 ls (λ v high. refl) rise))
