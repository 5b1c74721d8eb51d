-- Rules that count: what is known of them with one more line.
use Rattle.fb_expect.proofs.lemmas.Common.{◌≡◌, ℕ, suc, ◌+◌, ◌<◌, ◌≤◌, Bool, true, false, cond, List, [], ◌∷◌, ◌++◌, length, take, refl, sym, ap, subst, ◌∙◌, arith, inl, inr, ◌⊎◌, ◌&&◌, ◌==◌, Option, Some, None, if◌then◌else◌, cases_lt, eq-eqb, get_or_past, length_push, take_all, tick_at, IsOver, count_in, IsBelow, KnowsCount, Lacks, Hit}
use Rattle.fb_types.proofs.Common.{◌/◌, take-append_seam, ne_eqb, sum_by-cons}
use Rattle.std.proofs.Math.Nat.{div-mul-le_self}
use Rattle.std.proofs.lemmas.List.Sums.{count_by-le-length, sum_by_push}
use Rattle.std.proofs.lemmas.Nat.{le-div}
use Rattle.fb_expect.specs.Hits.{no_hit}
use Rattle.fb_expect.specs.Rules.{IsFewerAtLine, IsMore, window_of}
use Rattle.fb_expect.proofs.lemmas.rules.Growing.{first}
use Rattle.fb_expect.proofs.lemmas.traces.Indexes.{at-new, new-back, test-none, tick-new, tick-old}

-- ---- Windows rise with ticks

divided : (length s t : ℕ) → s ≤ t → (b : Bool) → (length == 0) ≡ b → (if b then 0 else s / length) ≤ (if b then 0 else t / length)
divided length s t le true zero = omega arith
divided length s t le false some =
    let low = div-mul-le_self s length in
    elim (cases_lt 0 length) as (λ _. s / length ≤ t / length) [
      | inl more ↦ le-div (s / length) t length more (omega arith)
      | inr none ↦ (let zero : length ≡ 0 = omega arith in test-none (length == 0) (eq-eqb length 0 zero) some)
    ]

pub window-rises : (e : Option ℕ) (s t : ℕ) → s ≤ t → window_of e s ≤ window_of e t
window-rises None s t le = omega arith
window-rises (Some length) s t le = divided length s t le (length == 0) refl

pub below-grown : (hs : List Hit) (h : Hit) → IsBelow hs h.tick → (i : ℕ) → tick_at (hs ++ h ∷ []) i ≤ h.tick
below-grown hs h below i =
    elim (cases_lt i (length hs)) as (λ _. tick_at (hs ++ h ∷ []) i ≤ h.tick) [
      | inl lt ↦ (let old = tick-old hs h i lt in let le = below i in omega arith)
      | inr le ↦ past (cases_lt (length hs) i) le
    ]
  where
    past : ((length hs < i) ⊎ (i ≤ length hs)) → length hs ≤ i → tick_at (hs ++ h ∷ []) i ≤ h.tick
    past (inl more) le =
        let long = length_push hs h in
        let none : tick_at (hs ++ h ∷ []) i ≡ 0 = ap (λ (x : Hit). x.tick) (get_or_past (hs ++ h ∷ []) i no_hit (omega arith)) in
        omega arith
    past (inr less) le =
        let same : i ≡ length hs = omega arith in
        let new : tick_at (hs ++ h ∷ []) i ≡ h.tick = ap (tick_at (hs ++ h ∷ [])) same ∙ tick-new hs h in
        omega arith

-- ---- Counts

abbrev is_in : Option ℕ → ℕ → Hit → Bool
is_in e w h = h.first && (window_of e h.tick == w)

push : (e : Option ℕ) (w : ℕ) (hs : List Hit) (h : Hit) (b : Bool) → is_in e w h ≡ b → count_in e w (hs ++ h ∷ []) ≡ count_in e w hs + cond b 1 0
push e w hs h b is = sum_by_push (λ x. cond (is_in e w x) 1 0) hs h ∙ ap (λ (c : Bool). count_in e w hs + cond c 1 0) is

in-yes : (e : Option ℕ) (w : ℕ) (h : Hit) → h.first ≡ true → window_of e h.tick ≡ w → is_in e w h ≡ true
in-yes e w h is here = ap (λ (b : Bool). b && (window_of e h.tick == w)) is ∙ eq-eqb (window_of e h.tick) w here

in-no : (e : Option ℕ) (w : ℕ) (h : Hit) → h.first ≡ false → is_in e w h ≡ false
in-no e w h off = ap (λ (b : Bool). b && (window_of e h.tick == w)) off

and-no : (a b : Bool) → b ≡ false → (a && b) ≡ false
and-no true b off = off
and-no false b off = refl

in-other : (e : Option ℕ) (w : ℕ) (h : Hit) → (window_of e h.tick ≡ w → ⊥) → is_in e w h ≡ false
in-other e w h other = and-no h.first (window_of e h.tick == w) (ne_eqb (window_of e h.tick) w other)

pub count-yes : (e : Option ℕ) (w : ℕ) (hs : List Hit) (h : Hit) → h.first ≡ true → window_of e h.tick ≡ w → count_in e w (hs ++ h ∷ []) ≡ count_in e w hs + 1
count-yes e w hs h is here = push e w hs h true (in-yes e w h is here)

pub count-no : (e : Option ℕ) (w : ℕ) (hs : List Hit) (h : Hit) → h.first ≡ false → count_in e w (hs ++ h ∷ []) ≡ count_in e w hs
count-no e w hs h off = let more = push e w hs h false (in-no e w h off) in omega arith

pub count-other : (e : Option ℕ) (w : ℕ) (hs : List Hit) (h : Hit) → (window_of e h.tick ≡ w → ⊥) → count_in e w (hs ++ h ∷ []) ≡ count_in e w hs
count-other e w hs h other = let more = push e w hs h false (in-other e w h other) in omega arith

-- no P is in a window that no line has reached
pub none-yet : (e : Option ℕ) (w : ℕ) (hs : List Hit) → ((i : ℕ) → window_of e (tick_at hs i) < w) → count_in e w hs ≡ 0
none-yet e w [] below = refl
none-yet e w (h ∷ hs) below =
    let here = below 0 in
    let other : is_in e w h ≡ false = in-other e w h (λ same. omega arith) in
    let rest : count_in e w hs ≡ 0 = none-yet e w hs (λ i. below (suc i)) in
    let all : count_in e w (h ∷ hs) ≡ cond {A = ℕ} (is_in e w h) 1 0 + count_in e w hs = sum_by-cons (λ x. cond {A = ℕ} (is_in e w x) 1 0) h hs in
    let one : cond {A = ℕ} (is_in e w h) 1 0 ≡ 0 = ap (λ (c : Bool). cond {A = ℕ} c 1 0) other in
    omega (arith, all, one, rest)

-- ---- Windows that are over

-- each has enough, where none lacks
pub enough-over :
    (e : Option ℕ) (least : ℕ) (hs : List Hit) (window count next v : ℕ) → KnowsCount e least hs window count → (Lacks least window count next → ⊥)
    → v < next → least ≤ count_in e v hs
enough-over e least hs window count next v knows fine less =
    elim (cases_lt v window) as (λ _. least ≤ count_in e v hs) [
      | inl lt ↦ knows.enough v lt
      | inr le ↦ later (cases_lt window v)
    ]
  where
    same : window ≡ v → least ≤ count_in e v hs
    same is =
        let counted = knows.counted in
        let here : count ≡ count_in e v hs = knows.counted ∙ ap (λ (k : ℕ). count_in e k hs) is in
        elim (cases_lt count least) as (λ _. least ≤ count_in e v hs) [
          | inl few ↦ absurd (fine (omega arith, inl few))
          | inr many ↦ omega arith
        ]

    later : (window < v) ⊎ (v ≤ window) → least ≤ count_in e v hs
    later (inl more) =
        elim (cases_lt 0 least) as (λ _. least ≤ count_in e v hs) [
          | inl some ↦ absurd (fine (omega arith, inr (omega arith, some)))
          | inr none ↦ omega arith
        ]
    later (inr less') =
        elim (cases_lt v window) as (λ _. least ≤ count_in e v hs) [
          | inl lt ↦ knows.enough v lt
          | inr le ↦ same (omega arith)
        ]

-- one has too few, where one lacks
pub fewer-over :
    (e : Option ℕ) (least : ℕ) (hs : List Hit) (window count next : ℕ) → KnowsCount e least hs window count → Lacks least window count next
    → (w : ℕ) × (w < next) × (count_in e w hs < least)
fewer-over e least hs window count next knows (more, inl few) =
    let counted = knows.counted in
    (window, more, omega arith)
fewer-over e least hs window count next knows (more, inr (far, some)) =
    let none = none-yet e (window + 1) hs (λ i. let le = knows.most i in omega arith) in
    (window + 1, far, omega arith)

-- ---- The new line

pub all-before : (hs : List Hit) (h : Hit) → take (length hs) (hs ++ h ∷ []) ≡ hs
all-before hs h = take-append_seam hs (h ∷ [])

pub all-with : (hs : List Hit) (h : Hit) → take (length hs + 1) (hs ++ h ∷ []) ≡ hs ++ h ∷ []
all-with hs h = take_all (length hs + 1) (hs ++ h ∷ []) (let long = length_push hs h in omega arith)

window-here : (e : Option ℕ) (hs : List Hit) (h : Hit) → window_of e (tick_at (hs ++ h ∷ []) (length hs)) ≡ window_of e h.tick
window-here e hs h = ap (window_of e) (tick-new hs h)

-- a window is over with it that has too few
pub fewer-new :
    (e : Option ℕ) (least : ℕ) (hs : List Hit) (h : Hit) (window count : ℕ) → KnowsCount e least hs window count
    → Lacks least window count (window_of e h.tick) → IsFewerAtLine e least (hs ++ h ∷ []) (length hs)
fewer-new e least hs h window count knows lacks =
    let w = fewer-over e least hs window count (window_of e h.tick) knows lacks in
    let long = length_push hs h in
    record {
      within = omega arith;
      fewer = record {
        window = w.0;
        is_over = subst (λ (n : ℕ). w.0 < n) (sym (window-here e hs h)) w.1;
        few = subst (λ (zs : List Hit). count_in e w.0 zs < least) (sym (all-before hs h)) w.2;
      };
    }

pub enough-new :
    (e : Option ℕ) (least : ℕ) (hs : List Hit) (h : Hit) (window count : ℕ) → KnowsCount e least hs window count
    → (Lacks least window count (window_of e h.tick) → ⊥) → IsFewerAtLine e least (hs ++ h ∷ []) (length hs) → ⊥
enough-new e least hs h window count knows fine x =
    let f = x.fewer in
    let less = subst (λ (n : ℕ). f.window < n) (window-here e hs h) f.is_over in
    let few = subst (λ (zs : List Hit). count_in e f.window zs < least) (all-before hs h) f.few in
    let enough = enough-over e least hs window count (window_of e h.tick) f.window knows fine less in
    omega arith

many-new : (e most : Option ℕ) (hs : List Hit) (h : Hit) → IsOver most (count_in e (window_of e h.tick) (hs ++ h ∷ []))
    → IsOver most (count_in e (window_of e (tick_at (hs ++ h ∷ []) (length hs))) (take (length hs + 1) (hs ++ h ∷ [])))
many-new e most hs h over =
    subst (λ (w : ℕ). IsOver most (count_in e w (take (length hs + 1) (hs ++ h ∷ [])))) (sym (window-here e hs h))
    (subst (λ (zs : List Hit). IsOver most (count_in e (window_of e h.tick) zs)) (sym (all-with hs h)) over)

many-back : (e most : Option ℕ) (hs : List Hit) (h : Hit)
    → IsOver most (count_in e (window_of e (tick_at (hs ++ h ∷ []) (length hs))) (take (length hs + 1) (hs ++ h ∷ [])))
    → IsOver most (count_in e (window_of e h.tick) (hs ++ h ∷ []))
many-back e most hs h over =
    subst (λ (zs : List Hit). IsOver most (count_in e (window_of e h.tick) zs)) (all-with hs h)
    (subst (λ (w : ℕ). IsOver most (count_in e w (take (length hs + 1) (hs ++ h ∷ [])))) (window-here e hs h) over)

pub more-new : (e most : Option ℕ) (hs : List Hit) (h : Hit) → h.first ≡ true → IsOver most (count_in e (window_of e h.tick) (hs ++ h ∷ [])) → IsMore e most (hs ++ h ∷ []) (length hs)
more-new e most hs h is over = record { first = at-new first hs h is; many = many-new e most hs h over }

pub more-back : (e most : Option ℕ) (hs : List Hit) (h : Hit) → IsMore e most (hs ++ h ∷ []) (length hs) → IsOver most (count_in e (window_of e h.tick) (hs ++ h ∷ []))
more-back e most hs h x = many-back e most hs h x.many

pub no-more : (e most : Option ℕ) (hs : List Hit) (h : Hit) → h.first ≡ false → IsMore e most (hs ++ h ∷ []) (length hs) → ⊥
no-more e most hs h off x = test-none h.first (new-back first hs h x.first) off

-- ---- What is known after it

pub counts-on :
    (e : Option ℕ) (least : ℕ) (hs : List Hit) (h : Hit) (window count after : ℕ) → IsBelow hs h.tick → KnowsCount e least hs window count
    → (Lacks least window count (window_of e h.tick) → ⊥) → after ≡ count_in e (window_of e h.tick) (hs ++ h ∷ [])
    → KnowsCount e least (hs ++ h ∷ []) (window_of e h.tick) after
counts-on e least hs h window count after below knows fine is =
    record {
      counted = is;
      last = inr (length hs, sym (window-here e hs h));
      most = λ i. window-rises e (tick_at (hs ++ h ∷ []) i) h.tick (below-grown hs h below i);
      enough = λ v less.
          (let enough = enough-over e least hs window count (window_of e h.tick) v knows fine less in
          let same = count-other e v hs h (λ here. omega arith) in
          omega arith);
    }

-- how many are in its window before it
pub before-it :
    (e : Option ℕ) (least : ℕ) (hs : List Hit) (h : Hit) (window count : ℕ) → IsBelow hs h.tick → KnowsCount e least hs window count
    → (window < window_of e h.tick → count_in e (window_of e h.tick) hs ≡ 0) × (window_of e h.tick ≤ window → count_in e (window_of e h.tick) hs ≡ count)
before-it e least hs h window count below knows =
    (λ more. none-yet e (window_of e h.tick) hs (λ i. let le = knows.most i in omega arith), λ less. sym (knows.counted ∙ ap (λ (w : ℕ). count_in e w hs) (same less)))
  where
    same : window_of e h.tick ≤ window → window ≡ window_of e h.tick
    same less = by knows.last
      where
        by : (window ≡ 0) ⊎ ((i : ℕ) × (window ≡ window_of e (tick_at hs i))) → window ≡ window_of e h.tick
        by (inl none) = omega arith
        by (inr (i, is)) = let up = window-rises e (tick_at hs i) h.tick (below i) in omega arith

-- no count is over the number of lines
pub count-fits : (e : Option ℕ) (w : ℕ) (hs : List Hit) → count_in e w hs ≤ length hs
count-fits e w hs = count_by-le-length (is_in e w) hs
