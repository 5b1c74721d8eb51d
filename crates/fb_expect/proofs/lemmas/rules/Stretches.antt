-- Rules that forbid: what is known of them with one more line.
use Rattle.fb_expect.proofs.lemmas.Common.{◌≡◌, ℕ, ◌<◌, Bool, true, false, List, [], ◌∷◌, ◌++◌, length, refl, subst, arith, inl, inr, ◌⊎◌, not, ◌&&◌, ◌||◌, cases_lt, length_push, hit_at, Hit}
use Rattle.fb_expect.specs.Rules.{IsForbidden}
use Rattle.fb_expect.specs.Watching.{IsWithin, KnowsStretch}
use Rattle.fb_expect.proofs.lemmas.rules.Growing.{first, second, third}
use Rattle.fb_expect.proofs.lemmas.traces.Indexes.{Found, at-new, back, found, inside, kept, new-back, test-none}

-- a stretch that comes up to a line has it, unless it is an R
pub within-new : (f : Bool) (hs : List Hit) (h : Hit) → h.third ≡ false → IsWithin f hs (length hs) → IsWithin f (hs ++ h ∷ []) (length hs)
within-new f hs h off (inl s) = inl (record { counts = s.counts; none = λ j le is. by j (found third hs h j refl is) })
  where
    by : (j : ℕ) → Found third hs h j → ⊥
    by j (inl old) = s.none j (let lt = old.0 in omega arith) old.1
    by j (inr new) = test-none h.third new.1 off
within-new f hs h off (inr s) =
    inr (record {
      start = s.start;
      before = s.before;
      second = kept second hs h s.start s.before s.second;
      none = λ j more le is. by j more (found third hs h j refl is);
    })
  where
    by : (j : ℕ) → s.start < j → Found third hs h j → ⊥
    by j more (inl old) = s.none j more (let lt = old.0 in omega arith) old.1
    by j more (inr new) = test-none h.third new.1 off

pub within-back : (f : Bool) (hs : List Hit) (h : Hit) → IsWithin f (hs ++ h ∷ []) (length hs) → IsWithin f hs (length hs)
within-back f hs h (inl s) =
    inl (record {
      counts = s.counts;
      none = λ j le is. (let lt = inside third hs j refl is in s.none j le (kept third hs h j lt is));
    })
within-back f hs h (inr s) =
    inr (record {
      start = s.start;
      before = s.before;
      second = back second hs h s.start s.before s.second;
      none = λ j more le is. (let lt = inside third hs j refl is in s.none j more le (kept third hs h j lt is));
    })

pub no-third : (f : Bool) (hs : List Hit) (h : Hit) → h.third ≡ true → IsWithin f (hs ++ h ∷ []) (length hs) → ⊥
no-third f hs h is (inl s) = s.none (length hs) (omega arith) (at-new third hs h is)
no-third f hs h is (inr s) = s.none (length hs) s.before (omega arith) (at-new third hs h is)

-- ---- What is after the new line

-- where a stretch has it, or a new one begins with it
pub after-new : (f : Bool) (hs : List Hit) (h : Hit) → IsWithin f (hs ++ h ∷ []) (length hs) ⊎ (h.second ≡ true) → IsWithin f (hs ++ h ∷ []) (length (hs ++ h ∷ []))
after-new f hs h (inl (inl s)) =
    let long = length_push hs h in
    inl (record { counts = s.counts; none = λ j le is. (let lt = inside third (hs ++ h ∷ []) j refl is in s.none j (omega arith) is) })
after-new f hs h (inl (inr s)) =
    let long = length_push hs h in
    let before = s.before in
    inr (record {
      start = s.start;
      before = omega arith;
      second = s.second;
      none = λ j more le is. (let lt = inside third (hs ++ h ∷ []) j refl is in s.none j more (omega arith) is);
    })
after-new f hs h (inr is) =
    let long = length_push hs h in
    inr (record {
      start = length hs;
      before = omega arith;
      second = at-new second hs h is;
      none = λ j more le q. (let lt = inside third (hs ++ h ∷ []) j refl q in absurd (omega arith));
    })

-- else nothing does
pub nothing-after :
    (f : Bool) (hs : List Hit) (h : Hit) → (IsWithin f (hs ++ h ∷ []) (length hs) → ⊥) → h.second ≡ false
    → IsWithin f (hs ++ h ∷ []) (length (hs ++ h ∷ [])) → ⊥
nothing-after f hs h none off (inl s) =
    let long = length_push hs h in
    none (inl (record { counts = s.counts; none = λ j le is. s.none j (omega arith) is }))
nothing-after f hs h none off (inr s) =
    let long = length_push hs h in
    elim (cases_lt s.start (length hs)) [
      | inl lt ↦ none (inr (record { start = s.start; before = lt; second = s.second; none = λ j more le is. s.none j more (omega arith) is }))
      | inr le ↦
          (let before = s.before in
          let same : s.start ≡ length hs = omega arith in
          test-none h.second (new-back second hs h (subst (λ (k : ℕ). second (hit_at (hs ++ h ∷ []) k) ≡ true) same s.second)) off)
    ]

-- whether a stretch has the new line
abbrev pub KnowsHere : (f : Bool) → List Hit → Hit → Bool → Type 0
KnowsHere f hs h true = IsWithin f (hs ++ h ∷ []) (length hs)
KnowsHere f hs h false = IsWithin f (hs ++ h ∷ []) (length hs) → ⊥

pub stays : (f : Bool) (hs : List Hit) (h : Hit) (on third : Bool) → h.third ≡ third → KnowsStretch f hs on → KnowsHere f hs h (on && not third)
stays f hs h true true is knows = no-third f hs h is
stays f hs h true false off knows = within-new f hs h off knows
stays f hs h false true is knows = no-third f hs h is
stays f hs h false false off knows = λ s. knows (within-back f hs h s)

pub goes-on : (f : Bool) (hs : List Hit) (h : Hit) (here second : Bool) → h.second ≡ second → KnowsHere f hs h here → KnowsStretch f (hs ++ h ∷ []) (here || second)
goes-on f hs h true true is knows = after-new f hs h (inl knows)
goes-on f hs h true false off knows = after-new f hs h (inl knows)
goes-on f hs h false true is knows = after-new f hs h (inr is)
goes-on f hs h false false off knows = nothing-after f hs h knows off

-- ---- A line that is forbidden

pub forbidden : (f : Bool) (hs : List Hit) (h : Hit) (here : Bool) → here ≡ true → h.first ≡ true → KnowsHere f hs h here → IsForbidden f (hs ++ h ∷ []) (length hs)
forbidden f hs h true on is knows = record { first = at-new first hs h is; within = knows }
forbidden f hs h false on is knows = test-none false on refl

pub allowed : (f : Bool) (hs : List Hit) (h : Hit) (here : Bool) → here ≡ false → KnowsHere f hs h here → IsForbidden f (hs ++ h ∷ []) (length hs) → ⊥
allowed f hs h false off knows x = knows x.within
allowed f hs h true off knows x = test-none true refl off

pub no-forbidden : (f : Bool) (hs : List Hit) (h : Hit) → h.first ≡ false → IsForbidden f (hs ++ h ∷ []) (length hs) → ⊥
no-forbidden f hs h off x = test-none h.first (new-back first hs h x.first) off
