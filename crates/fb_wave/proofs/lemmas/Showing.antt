-- What one more line sets, and how the text grows.
use Rattle.fb_wave.proofs.lemmas.Common.{◌≡◌, ℕ, Bool, cond, List, [], ◌∷◌, ◌++◌, refl, sym, ap, subst, ◌∙◌, append_assoc, append-nil, System, Line, Value, eq-eqb, ne_eqb, Ending, AreLevels, sizes_of, last_tick, fires_of, has_signal, touches_of}
use Rattle.fb_types.proofs.Common.{flat_map-append, map-append}
use Rattle.fb_wave.specs.declared.levels.Levels.{Levels}
use Rattle.fb_wave.specs.Changes.{changes, time_text}
use Rattle.fb_wave.specs.Scopes.{head_text}
use Rattle.fb_wave.specs.Dumps.{dump_text, end_text, tick_changes, ticks_text}
use Rattle.fb_wave.specs.LineSignals.{fired, set_by, touched}
use Rattle.fb_wave.specs.Writing.{Shows, Turns}

pub fires-one : (sys : System) (ls : List Line) (l : Line) → fires_of sys (ls ++ l ∷ []) ≡ fires_of sys ls ++ fired sys l ∷ []
fires-one sys ls l = map-append (fired sys) ls (l ∷ [])

pub sets-one : (sys : System) (ls : List Line) (l : Line) → has_signal sys (ls ++ l ∷ []) ≡ has_signal sys ls ++ set_by sys l
sets-one sys ls l = flat_map-append (set_by sys) ls (l ∷ []) ∙ ap (λ (ts : List (ℕ × Value)). has_signal sys ls ++ ts) (append-nil (set_by sys l))

pub touches-one : (sys : System) (ls : List Line) (l : Line) → touches_of sys (ls ++ l ∷ []) ≡ touches_of sys ls ++ touched sys l
touches-one sys ls l = flat_map-append (touched sys) ls (l ∷ []) ∙ ap (λ (ts : List ℕ). touches_of sys ls ++ ts) (append-nil (touched sys l))

last_tick-one : (t : ℕ) (ls : List Line) (l : Line) → last_tick t (ls ++ l ∷ []) ≡ l.key.tick
last_tick-one t [] l = refl
last_tick-one t (m ∷ ls) l = last_tick-one m.key.tick ls l

-- ---- Ticks

-- the text after a tick, where the next line is one of it, and where it is not
abbrev rest_text : System → (last : ℕ) → (before now : List Line) → (l : Line) → (rest : List Line) → (b : Bool) → List ℕ
rest_text sys last before now l rest b =
    cond b (ticks_text sys last before (now ++ l ∷ []) rest)
    (tick_changes sys before now ++ time_text last l.key.tick ++ ticks_text sys l.key.tick (before ++ now) (l ∷ []) rest)

-- no line was shown
pub sets_none :
    (sys : System) (new : List ℕ) (x : Levels) → new ≡ head_text sys → AreLevels (sizes_of sys sys.paths) [] [] [] x → Shows sys [] new 0 x
sets_none sys new x is are =
    record {
      before = [];
      now = [];
      parts = refl;
      tick = refl;
      levels = are;
      text = λ rest. ap (λ (l : List ℕ). l ++ ticks_text sys 0 [] [] rest) is;
    }

-- a line of the same tick comes
pub turn_same :
    (sys : System) (ls : List Line) (text : List ℕ) (last tick : ℕ) (x : Levels) → tick ≡ last → Shows sys ls text last x → Turns sys ls text tick x
turn_same sys ls text last tick x same t =
    record {
      before = t.before;
      now = t.now;
      parts = t.parts;
      levels = t.levels;
      text = λ l rest here.
          ap (λ (k : ℕ). text ++ ticks_text sys k t.before (t.now ++ l ∷ []) rest) same
          ∙ ap (λ (b : Bool). text ++ rest_text sys last t.before t.now l rest b) (sym (eq-eqb l.key.tick last (here ∙ same)))
          ∙ t.text (l ∷ rest);
    }

regroup : (s o c k r : List ℕ) → (s ++ ((o ++ c) ++ k)) ++ r ≡ (s ++ o) ++ ((c ++ k) ++ r)
regroup s o c k r = simp append_assoc

-- a line of another tick comes
pub turn_next :
    (sys : System) (ls : List Line) (sent old mid new : List ℕ) (last tick : ℕ) (x y : Levels) → (tick ≡ last → ⊥) → (t : Shows sys ls (sent ++ old) last x)
    → mid ≡ old ++ changes (fires_of sys ls) (has_signal sys ls) (touches_of sys t.now) → new ≡ mid ++ time_text last tick
    → AreLevels (sizes_of sys sys.paths) (fires_of sys ls) (has_signal sys ls) [] y → Turns sys ls (sent ++ new) tick y
turn_next sys ls sent old mid new last tick x y other t put time are =
    record {
      before = ls;
      now = [];
      parts = sym (append-nil ls);
      levels = are;
      text = λ l rest here.
          let C = tick_changes sys t.before t.now in
          let T = time_text last l.key.tick in
          let R = ticks_text sys l.key.tick (t.before ++ t.now) (l ∷ []) rest in
          let is : new ≡ (old ++ C) ++ T =
          time ∙ ap (λ (k : ℕ). mid ++ time_text last k) (sym here)
          ∙ ap (λ (m : List ℕ). m ++ T) (put ∙ ap (λ (zs : List Line). old ++ changes (fires_of sys zs) (has_signal sys zs) (touches_of sys t.now)) t.parts)
          in
          let different : l.key.tick ≡ last → ⊥ = λ e. other (sym here ∙ e) in
          ap (λ (k : ℕ). (sent ++ new) ++ ticks_text sys k ls (l ∷ []) rest) (sym here)
          ∙ ap (λ (zs : List Line). (sent ++ new) ++ ticks_text sys l.key.tick zs (l ∷ []) rest) t.parts
          ∙ ap (λ (m : List ℕ). (sent ++ m) ++ R) is
          ∙ regroup sent old C T R
          ∙ ap (λ (b : Bool). (sent ++ old) ++ rest_text sys last t.before t.now l rest b) (sym (ne_eqb l.key.tick last different))
          ∙ t.text (l ∷ rest);
    }

-- ---- Lines

-- one more line was shown
pub sets_more :
    (sys : System) (ls : List Line) (text : List ℕ) (l : Line) (x y : Levels) (t : Turns sys ls text l.key.tick x)
    → AreLevels (sizes_of sys sys.paths) (fires_of sys ls ++ fired sys l ∷ []) (has_signal sys ls ++ set_by sys l) (touches_of sys t.now ++ touched sys l) y
    → Shows sys (ls ++ l ∷ []) text l.key.tick y
sets_more sys ls text l x y t are =
    let n = sizes_of sys sys.paths in
    let one : AreLevels n (fires_of sys (ls ++ l ∷ [])) (has_signal sys ls ++ set_by sys l) (touches_of sys t.now ++ touched sys l) y =
    subst (λ (fs : List ℕ). AreLevels n fs (has_signal sys ls ++ set_by sys l) (touches_of sys t.now ++ touched sys l) y) (sym (fires-one sys ls l)) are
    in
    let two : AreLevels n (fires_of sys (ls ++ l ∷ [])) (has_signal sys (ls ++ l ∷ [])) (touches_of sys t.now ++ touched sys l) y =
    subst (λ (ts : List (ℕ × Value)). AreLevels n (fires_of sys (ls ++ l ∷ [])) ts (touches_of sys t.now ++ touched sys l) y) (sym (sets-one sys ls l)) one
    in
    record {
      before = t.before;
      now = t.now ++ l ∷ [];
      parts = ap (λ (zs : List Line). zs ++ l ∷ []) t.parts ∙ append_assoc t.before t.now (l ∷ []);
      tick = sym (last_tick-one 0 ls l);
      levels = subst (λ (us : List ℕ). AreLevels n (fires_of sys (ls ++ l ∷ [])) (has_signal sys (ls ++ l ∷ [])) us y) (sym (touches-one sys t.now l)) two;
      text = λ rest. t.text l rest refl ∙ ap (λ (zs : List Line). head_text sys ++ ticks_text sys 0 [] [] zs) (sym (append_assoc ls (l ∷ []) rest));
    }

-- ---- The end

-- the last tick and the rest make the text whole
pub sets_cut :
    (sys : System) (ls : List Line) (sent old mid new rest : List ℕ) (last : ℕ) (x : Levels) (t : Shows sys ls (sent ++ old) last x)
    → mid ≡ old ++ changes (fires_of sys ls) (has_signal sys ls) (touches_of sys t.now) → new ≡ mid ++ rest
    → sent ++ new ≡ (head_text sys ++ ticks_text sys 0 [] [] ls) ++ rest
sets_cut sys ls sent old mid new rest last x t put ended =
    let C = tick_changes sys t.before t.now in
    let is : new ≡ (old ++ C) ++ rest =
    ended ∙ ap (λ (m : List ℕ). m ++ rest) (put ∙ ap (λ (zs : List Line). old ++ changes (fires_of sys zs) (has_signal sys zs) (touches_of sys t.now)) t.parts)
    in
    ap (λ (m : List ℕ). sent ++ m) is ∙ regroup_end sent old C rest
    ∙ ap (λ (m : List ℕ). m ++ rest) (t.text [] ∙ ap (λ (zs : List Line). head_text sys ++ ticks_text sys 0 [] [] zs) (append-nil ls))
  where
    regroup_end : (s o c e : List ℕ) → s ++ ((o ++ c) ++ e) ≡ ((s ++ o) ++ c) ++ e
    regroup_end s o c e = simp append_assoc

-- the last tick and the end make the text whole
pub sets_all :
    (sys : System) (ls : List Line) (sent old mid new : List ℕ) (last : ℕ) (end : Ending) (x : Levels) (t : Shows sys ls (sent ++ old) last x)
    → mid ≡ old ++ changes (fires_of sys ls) (has_signal sys ls) (touches_of sys t.now) → new ≡ mid ++ end_text sys last end
    → sent ++ new ≡ dump_text sys ls end
sets_all sys ls sent old mid new last end x t put ended =
    sets_cut sys ls sent old mid new (end_text sys last end) last x t put ended
    ∙ ap (λ (k : ℕ). (head_text sys ++ ticks_text sys 0 [] [] ls) ++ end_text sys k end) t.tick
