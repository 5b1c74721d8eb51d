-- What one more taking shows, and how the text grows.
use Rattle.fb_inspect.proofs.lemmas.Common.{All, OnOk, ◌≡◌, ℕ, suc, Bool, true, cond, List, [], ◌∷◌, ◌++◌, Result, Ok, Err, refl, sym, ap, subst, ◌∙◌, append_assoc, append-nil, arith, eq-eqb, ne_eqb, map-append, Ending, System, Line, Value, last_tick, fires_of, has_signal, touches_of, sizes_of, last_look, Look, opening_look, IsLineAt, Shows, ShowsLines, Taken, lines_of, takings_of}
use Rattle.fb_wave.specs.Changes.{changes, time_text}
use Rattle.fb_wave.specs.CutOff.{cut_comment}
use Rattle.fb_wave.specs.Dumps.{end_text, tick_changes, ticks_text}
use Rattle.fb_wave.specs.Levels.{AreLevels}
use Rattle.fb_wave.specs.LineSignals.{fired, set_by, touched}
use Rattle.fb_wave.proofs.lemmas.Showing.{fires-one, sets-one, touches-one}
use Rattle.fb_inspect.specs.dump.Dumping.{ShowsUntaken, ShowsUpTo}
use Rattle.fb_inspect.specs.dump.Heads.{state_head}
use Rattle.fb_inspect.specs.dump.Inner.{taking_changes}
use Rattle.fb_inspect.specs.dump.StateDumps.{cut_dump, state_dump, takings_text, tick_of}
use Rattle.fb_inspect.specs.declared.dump.port_dump.PortDump.{PortDump}

-- ---- One more taking

pub lines-one : (xs : List Taken) (y : Taken) → lines_of (xs ++ y ∷ []) ≡ lines_of xs ++ y.lines
lines-one [] y = append-nil y.lines
lines-one (x ∷ xs) y = ap (λ (ls : List Line). x.lines ++ ls) (lines-one xs y) ∙ sym (append_assoc x.lines (lines_of xs) y.lines)

pub takings-one : (xs : List Taken) (y : Taken) → takings_of (xs ++ y ∷ []) ≡ takings_of xs ++ y.taking ∷ []
takings-one xs y = map-append (λ (x : Taken). x.taking) xs (y ∷ [])

pub look-one : (look : Look) (xs : List Taken) (y : Taken) → last_look look (takings_of (xs ++ y ∷ [])) ≡ y.taking.after
look-one look [] y = refl
look-one look (x ∷ xs) y = look-one x.taking.after xs y

abbrev pub here : System → List Taken → Look
here sys xs = last_look (opening_look sys) (takings_of xs)

abbrev pub all_text : System → List Line → List Taken → List ℕ
all_text sys us xs = state_head true sys ++ takings_text true sys us 0 [] [] (opening_look sys) xs

abbrev changes_by : System → (before now : List Line) → List ℕ
changes_by sys before now = tick_changes sys before now

-- the text after a taking, where it is one of the same tick and where it is not
abbrev rest_text : System → (us : List Line) → (last : ℕ) → (before now : List Line) → Look → Taken → (rest : List Taken) → Bool → List ℕ
rest_text sys us last before now look y rest b =
    cond b (taking_changes sys look y.taking ++ takings_text true sys us last before (now ++ y.lines) y.taking.after rest)
    (((tick_changes sys before now ++ time_text last (tick_of y)) ++ taking_changes sys look y.taking) ++ takings_text true sys us (tick_of y) (before ++ now) y.lines y.taking.after rest)

-- the text after a line without its taking, where it is one of the same tick and where it is not
abbrev line_text_by : System → (last : ℕ) → (before now : List Line) → Line → (us : List Line) → Bool → List ℕ
line_text_by sys last before now l us b =
    cond b (ticks_text sys last before (now ++ l ∷ []) us)
    ((tick_changes sys before now ++ time_text last l.key.tick) ++ ticks_text sys l.key.tick (before ++ now) (l ∷ []) us)

-- ---- Ticks

-- no taking was shown
pub shows_none :
    (sys : System) (new : List ℕ) (x : PortDump) → new ≡ state_head true sys → x.tick ≡ 0 → AreLevels (sizes_of sys sys.paths) [] [] [] x.signals.levels → Shows sys [] new x
shows_none sys new x is tick are = record {
  before = [];
  now = [];
  parts = refl;
  tick = tick;
  levels = are;
  text = λ us rest.
      ap (λ (k : ℕ). new ++ takings_text true sys us k [] [] (opening_look sys) rest) tick
      ∙ ap (λ (l : List ℕ). l ++ takings_text true sys us 0 [] [] (opening_look sys) rest) is;
}

-- a taking of the same tick comes
pub up_to_same : (sys : System) (xs : List Taken) (text : List ℕ) (tick : ℕ) (x : PortDump) → tick ≡ x.tick → Shows sys xs text x → ShowsUpTo sys xs text tick x
up_to_same sys xs text tick x same t = record {
  before = t.before;
  now = t.now;
  parts = t.parts;
  tick = sym same;
  levels = t.levels;
  text = λ us y rest at.
      ap (λ (k : ℕ). text ++ (taking_changes sys (here sys xs) y.taking ++ takings_text true sys us k t.before (t.now ++ y.lines) y.taking.after rest)) same
      ∙ ap (λ (b : Bool). text ++ rest_text sys us x.tick t.before t.now (here sys xs) y rest b) (sym (eq-eqb (tick_of y) x.tick (at ∙ same)))
      ∙ t.text us (y ∷ rest);
  untaken = λ l us at.
      ap (λ (k : ℕ). text ++ ticks_text sys k t.before (t.now ++ l ∷ []) us) same
      ∙ ap (λ (b : Bool). text ++ line_text_by sys x.tick t.before t.now l us b) (sym (eq-eqb l.key.tick x.tick (at ∙ same)))
      ∙ t.text (l ∷ us) [] ∙ ap (all_text sys (l ∷ us)) (append-nil xs);
}

regroup : (s o c k i r : List ℕ) → (s ++ ((o ++ c) ++ k)) ++ (i ++ r) ≡ (s ++ o) ++ (((c ++ k) ++ i) ++ r)
regroup s o c k i r = simp append_assoc

regroup_line : (s o c k r : List ℕ) → (s ++ ((o ++ c) ++ k)) ++ r ≡ (s ++ o) ++ ((c ++ k) ++ r)
regroup_line s o c k r = simp append_assoc

-- a taking of another tick comes
pub up_to_next :
    (sys : System) (xs : List Taken) (sent old mid new : List ℕ) (tick : ℕ) (x y : PortDump) → (tick ≡ x.tick → ⊥) → (t : Shows sys xs (sent ++ old) x)
    → mid ≡ old ++ changes (fires_of sys (lines_of xs)) (has_signal sys (lines_of xs)) (touches_of sys t.now) → new ≡ mid ++ time_text x.tick tick
    → AreLevels (sizes_of sys sys.paths) (fires_of sys (lines_of xs)) (has_signal sys (lines_of xs)) [] y.signals.levels → y.tick ≡ tick → ShowsUpTo sys xs (sent ++ new) tick y
up_to_next sys xs sent old mid new tick x y other t put time are at_tick =
    let ls : List Line = lines_of xs in
    record {
      before = ls;
      now = [];
      parts = sym (append-nil ls);
      tick = at_tick;
      levels = are;
      text = λ us z rest at.
          let C : List ℕ = changes_by sys t.before t.now in
          let T : List ℕ = time_text x.tick (tick_of z) in
          let I : List ℕ = taking_changes sys (here sys xs) z.taking in
          let R : List ℕ = takings_text true sys us (tick_of z) (t.before ++ t.now) z.lines z.taking.after rest in
          let is : new ≡ (old ++ C) ++ T = changed (tick_of z) at in
          let different : tick_of z ≡ x.tick → ⊥ = λ e. other (sym at ∙ e) in
          ap (λ (k : ℕ). (sent ++ new) ++ (I ++ takings_text true sys us k ls z.lines z.taking.after rest)) (sym at)
          ∙ ap (λ (zs : List Line). (sent ++ new) ++ (I ++ takings_text true sys us (tick_of z) zs z.lines z.taking.after rest)) t.parts
          ∙ ap (λ (m : List ℕ). (sent ++ m) ++ (I ++ R)) is
          ∙ regroup sent old C T I R
          ∙ ap (λ (b : Bool). (sent ++ old) ++ rest_text sys us x.tick t.before t.now (here sys xs) z rest b) (sym (ne_eqb (tick_of z) x.tick different))
          ∙ t.text us (z ∷ rest);
      untaken = λ l us at.
          let C : List ℕ = changes_by sys t.before t.now in
          let T : List ℕ = time_text x.tick l.key.tick in
          let R : List ℕ = ticks_text sys l.key.tick (t.before ++ t.now) (l ∷ []) us in
          let different : l.key.tick ≡ x.tick → ⊥ = λ e. other (sym at ∙ e) in
          ap (λ (k : ℕ). (sent ++ new) ++ ticks_text sys k ls (l ∷ []) us) (sym at)
          ∙ ap (λ (zs : List Line). (sent ++ new) ++ ticks_text sys l.key.tick zs (l ∷ []) us) t.parts
          ∙ ap (λ (m : List ℕ). (sent ++ m) ++ R) (changed l.key.tick at)
          ∙ regroup_line sent old C T R
          ∙ ap (λ (b : Bool). (sent ++ old) ++ line_text_by sys x.tick t.before t.now l us b) (sym (ne_eqb l.key.tick x.tick different))
          ∙ t.text (l ∷ us) [] ∙ ap (all_text sys (l ∷ us)) (append-nil xs);
    }
  where
    changed : (k : ℕ) → k ≡ tick → new ≡ (old ++ changes_by sys t.before t.now) ++ time_text x.tick k
    changed k at =
        time ∙ ap (λ (n : ℕ). mid ++ time_text x.tick n) (sym at)
        ∙ ap (λ (m : List ℕ). m ++ time_text x.tick k) (put ∙ ap (λ (zs : List Line). old ++ changes (fires_of sys zs) (has_signal sys zs) (touches_of sys t.now)) t.parts)

-- ---- Lines

pub lines_then : (sys : System) (ls ks : List Line) (x y z : PortDump) → ShowsLines sys ls x y → ShowsLines sys ks y z → ShowsLines sys (ls ++ ks) x z
lines_then sys ls ks x y z first second = record {
  tick = second.tick ∙ first.tick;
  levels = λ all now are.
      subst (λ (l : List Line). AreLevels (sizes_of sys sys.paths) (fires_of sys l) (has_signal sys l) (touches_of sys (now ++ (ls ++ ks))) z.signals.levels) (append_assoc all ls ks)
      (subst (λ (l : List Line). AreLevels (sizes_of sys sys.paths) (fires_of sys ((all ++ ls) ++ ks)) (has_signal sys ((all ++ ls) ++ ks)) (touches_of sys l) z.signals.levels) (append_assoc now ls ks)
      (second.levels (all ++ ls) (now ++ ls) (first.levels all now are)));
}

-- where a call goes well, something holds of all lines
pub on_lines :
    {A E : Type 0} (r : Result A E) (Q P : List Line → List Line → Type 0) → ((all now : List Line) → Q all now → OnOk r (P all now)) → OnOk r ((all now : List Line) → Q all now → P all now)
on_lines (Ok x) Q P h = h
on_lines (Err e) Q P h = tt

-- one line
pub line_one :
    (sys : System) (l : Line) (x y : PortDump) → y.tick ≡ x.tick
    → ((all now : List Line) → AreLevels (sizes_of sys sys.paths) (fires_of sys all) (has_signal sys all) (touches_of sys now) x.signals.levels
    → AreLevels (sizes_of sys sys.paths) (fires_of sys all ++ fired sys l ∷ []) (has_signal sys all ++ set_by sys l) (touches_of sys now ++ touched sys l) y.signals.levels)
    → ShowsLines sys (l ∷ []) x y
line_one sys l x y same goes = record {
  tick = same;
  levels = λ all now are.
      let n : ℕ = sizes_of sys sys.paths in
      let one : AreLevels n (fires_of sys (all ++ l ∷ [])) (has_signal sys all ++ set_by sys l) (touches_of sys now ++ touched sys l) y.signals.levels =
      subst (λ (fs : List ℕ). AreLevels n fs (has_signal sys all ++ set_by sys l) (touches_of sys now ++ touched sys l) y.signals.levels) (sym (fires-one sys all l)) (goes all now are) in
      let two : AreLevels n (fires_of sys (all ++ l ∷ [])) (has_signal sys (all ++ l ∷ [])) (touches_of sys now ++ touched sys l) y.signals.levels =
      subst (λ (ts : List (ℕ × Value)). AreLevels n (fires_of sys (all ++ l ∷ [])) ts (touches_of sys now ++ touched sys l) y.signals.levels) (sym (sets-one sys all l)) one in
      subst (λ (us : List ℕ). AreLevels n (fires_of sys (all ++ l ∷ [])) (has_signal sys (all ++ l ∷ [])) us y.signals.levels) (sym (touches-one sys now l)) two;
}

-- ---- One more taking was shown

pub shows_more :
    (sys : System) (xs : List Taken) (y : Taken) (sent old new : List ℕ) (next : ℕ) (a b : PortDump) → ShowsUpTo sys xs (sent ++ old) next a → tick_of y ≡ next
    → new ≡ old ++ taking_changes sys (here sys xs) y.taking → ShowsLines sys y.lines a b → last_tick 0 (lines_of xs ++ y.lines) ≡ next → Shows sys (xs ++ y ∷ []) (sent ++ new) b
shows_more sys xs y sent old new next a b takes at put lines last =
    let n : ℕ = sizes_of sys sys.paths in
    let one : lines_of (xs ++ y ∷ []) ≡ lines_of xs ++ y.lines = lines-one xs y in
    let tick : b.tick ≡ next = lines.tick ∙ takes.tick in
    let grown = lines.levels (lines_of xs) takes.now takes.levels in
    let I : List ℕ = taking_changes sys (here sys xs) y.taking in
    record {
      before = takes.before;
      now = takes.now ++ y.lines;
      parts = one ∙ ap (λ (ls : List Line). ls ++ y.lines) takes.parts ∙ append_assoc takes.before takes.now y.lines;
      tick = tick ∙ sym last ∙ ap (last_tick 0) (sym one);
      levels = subst (λ (ls : List Line). AreLevels n (fires_of sys ls) (has_signal sys ls) (touches_of sys (takes.now ++ y.lines)) b.signals.levels) (sym one) grown;
      text = λ us rest.
          let R : List ℕ = takings_text true sys us next takes.before (takes.now ++ y.lines) y.taking.after rest in
          ap (λ (k : ℕ). (sent ++ new) ++ takings_text true sys us k takes.before (takes.now ++ y.lines) (here sys (xs ++ y ∷ [])) rest) tick
          ∙ ap (λ (l : Look). (sent ++ new) ++ takings_text true sys us next takes.before (takes.now ++ y.lines) l rest) (look-one (opening_look sys) xs y)
          ∙ ap (λ (m : List ℕ). (sent ++ m) ++ R) put
          ∙ group sent old I R
          ∙ takes.text us y rest at
          ∙ ap (all_text sys us) (sym (append_assoc xs (y ∷ []) rest));
    }
  where
    group : (s o i r : List ℕ) → (s ++ (o ++ i)) ++ r ≡ (s ++ o) ++ (i ++ r)
    group s o i r = simp append_assoc

-- ---- The end

-- the last tick and the end make the text whole
pub shows_all :
    (sys : System) (xs : List Taken) (sent old mid new : List ℕ) (end : Ending) (x : PortDump) (t : Shows sys xs (sent ++ old) x)
    → mid ≡ old ++ changes (fires_of sys (lines_of xs)) (has_signal sys (lines_of xs)) (touches_of sys t.now) → new ≡ mid ++ end_text sys x.tick end
    → sent ++ new ≡ state_dump true sys xs end
shows_all sys xs sent old mid new end x t put ended =
    let C : List ℕ = changes_by sys t.before t.now in
    let E : List ℕ = end_text sys x.tick end in
    let is : new ≡ (old ++ C) ++ E =
    ended ∙ ap (λ (m : List ℕ). m ++ E) (put ∙ ap (λ (zs : List Line). old ++ changes (fires_of sys zs) (has_signal sys zs) (touches_of sys t.now)) t.parts) in
    ap (λ (m : List ℕ). sent ++ m) is ∙ group sent old C E
    ∙ ap (λ (m : List ℕ). m ++ E) (t.text [] [] ∙ ap (all_text sys []) (append-nil xs))
    ∙ ap (λ (k : ℕ). all_text sys [] xs ++ end_text sys k end) t.tick
  where
    group : (s o c e : List ℕ) → s ++ ((o ++ c) ++ e) ≡ ((s ++ o) ++ c) ++ e
    group s o c e = simp append_assoc

-- what is shown is the front of the whole text, whatever end comes
pub shows_front :
    (sys : System) (xs : List Taken) (shown : List ℕ) (end : Ending) (x : PortDump) → Shows sys xs shown x → (rest : List ℕ) × (shown ++ rest ≡ state_dump true sys xs end)
shows_front sys xs shown end x t =
    let C : List ℕ = changes_by sys t.before t.now in
    let E : List ℕ = end_text sys (last_tick 0 (lines_of xs)) end in
    (C ++ E, sym (append_assoc shown C E) ∙ ap (λ (m : List ℕ). m ++ E) (t.text [] [] ∙ ap (all_text sys []) (append-nil xs)))

-- ---- Where a trace is cut off

-- lines of the tick come
ticks_here : (sys : System) (t : ℕ) (before now ls : List Line) → All (IsLineAt sys t) ls → ticks_text sys t before now ls ≡ tick_changes sys before (now ++ ls)
ticks_here sys t before now [] at = ap (tick_changes sys before) (sym (append-nil now))
ticks_here sys t before now (l ∷ ls) at =
    ap (line_text_by sys t before now l ls) (eq-eqb l.key.tick t (at 0 l (omega arith)).tick_is)
    ∙ ticks_here sys t before (now ++ l ∷ []) ls (λ n d h. at (suc n) d (omega arith))
    ∙ ap (tick_changes sys before) (append_assoc now (l ∷ []) ls)

-- the line of an event was shown without its taking, and then lines of its tick
pub shows_untaken :
    (sys : System) (xs : List Taken) (l : Line) (ls : List Line) (text : List ℕ) (a b c : PortDump) → ShowsUpTo sys xs text l.key.tick a → ShowsLines sys (l ∷ []) a b → ShowsLines sys ls b c
    → All (IsLineAt sys l.key.tick) ls → ShowsUntaken sys xs (l ∷ ls) text c
shows_untaken sys xs l ls text a b c takes first more at =
    let all = lines_then sys (l ∷ []) ls a b c first more in
    record {
      before = takes.before;
      now = takes.now ++ l ∷ ls;
      parts = ap (λ (ks : List Line). ks ++ l ∷ ls) takes.parts ∙ append_assoc takes.before takes.now (l ∷ ls);
      levels = all.levels (lines_of xs) takes.now takes.levels;
      text = ap (λ (k : List Line). text ++ tick_changes sys takes.before k) (sym (append_assoc takes.now (l ∷ []) ls))
          ∙ ap (λ (m : List ℕ). text ++ m) (sym (ticks_here sys l.key.tick takes.before (takes.now ++ l ∷ []) ls at))
          ∙ takes.untaken l ls refl;
    }

-- no such line comes
pub shows_untaken_none : (sys : System) (xs : List Taken) (text : List ℕ) (x : PortDump) → Shows sys xs text x → ShowsUntaken sys xs [] text x
shows_untaken_none sys xs text x t =
    let same : lines_of xs ≡ lines_of xs ++ [] = sym (append-nil (lines_of xs)) in
    record {
      before = t.before;
      now = t.now;
      parts = sym same ∙ t.parts;
      levels = subst (λ (ls : List Line). AreLevels (sizes_of sys sys.paths) (fires_of sys ls) (has_signal sys ls) (touches_of sys t.now) x.signals.levels) same t.levels;
      text = t.text [] [] ∙ ap (all_text sys []) (append-nil xs);
    }

-- the last tick and that the trace is cut off make the text whole
pub shows_cut :
    (sys : System) (xs : List Taken) (us : List Line) (sent old mid new : List ℕ) (x : PortDump) (t : ShowsUntaken sys xs us (sent ++ old) x)
    → mid ≡ old ++ changes (fires_of sys (lines_of xs ++ us)) (has_signal sys (lines_of xs ++ us)) (touches_of sys t.now) → new ≡ mid ++ cut_comment → sent ++ new ≡ cut_dump true sys xs us
shows_cut sys xs us sent old mid new x t put ended =
    let C : List ℕ = changes_by sys t.before t.now in
    let is : new ≡ (old ++ C) ++ cut_comment =
    ended ∙ ap (λ (m : List ℕ). m ++ cut_comment) (put ∙ ap (λ (zs : List Line). old ++ changes (fires_of sys zs) (has_signal sys zs) (touches_of sys t.now)) t.parts) in
    ap (λ (m : List ℕ). sent ++ m) is ∙ group sent old C cut_comment ∙ ap (λ (m : List ℕ). m ++ cut_comment) t.text
  where
    group : (s o c e : List ℕ) → s ++ ((o ++ c) ++ e) ≡ ((s ++ o) ++ c) ++ e
    group s o c e = simp append_assoc

-- what is shown is the front of the whole text of a trace that is cut off
pub shows_cut_front :
    (sys : System) (xs : List Taken) (us : List Line) (shown : List ℕ) (x : PortDump) → ShowsUntaken sys xs us shown x → (rest : List ℕ) × (shown ++ rest ≡ cut_dump true sys xs us)
shows_cut_front sys xs us shown x t =
    let C : List ℕ = changes_by sys t.before t.now in
    (C ++ cut_comment, sym (append_assoc shown C cut_comment) ∙ ap (λ (m : List ℕ). m ++ cut_comment) t.text)
