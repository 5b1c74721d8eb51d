-- The passes over the resources that the bounds take.
use Rattle.fb_window.proofs.lemmas.Common.{◌≡◌, ℕ, ◌+◌, ◌<◌, ◌≤◌, min, max, true, false, Option, Some, None, List, length, map, set, refl, sym, ◌∙◌, subst, ⊎_elim, arith, slice_get, slice_index, cases_lt, length-set, slice_get_within, Key, Reason, Inputs, system_of, count_of, AreGood, IsNext, waiting, IsCut, Resource}
use Rattle.fb_types.proofs.Common.{IsSome, get_or-set_same, get_or-set_other, length-map, same_Some}
use Rattle.fb_types.specs.declared.run.Event.{Event}
use Rattle.fb_window.proofs.lemmas.bounds.Bounding.{EventsAllow, events_cut}

abbrev pub clock_of : Resource → ℕ
clock_of x = x.clock

abbrev pub stop_of : Resource → Option Reason
stop_of x = x.stopped

-- nothing is on its agenda below a tick
abbrev pub Rests : Resource → (tick : ℕ) → Type 0
Rests x t = (j : Key) → j.tick < t → waiting x.agenda j ≡ None

-- ---- The least event

-- The least tick of the agendas of this many resources, or the horizon.
pub record IsLeastOf (xs : List Resource) (count horizon m : ℕ) : Type 0 where
  pub cap : m ≤ horizon
  pub low : (r : ℕ) (x : Resource) (j : Key) → r < count → slice_get xs r ≡ Some x → j.tick < m → waiting x.agenda j ≡ None
  pub there : m < horizon → (r : ℕ) × (x : Resource) × (slice_get xs r ≡ Some x) × IsNext x.agenda m

-- one resource more
least_more : (xs : List Resource) (count horizon m less : ℕ) (x : Resource) → slice_get xs count ≡ Some x → IsLeastOf xs count horizon m → less ≤ m → Rests x less
    → (less < m → IsNext x.agenda less) → IsLeastOf xs (count + 1) horizon less
least_more xs count horizon m less x s h b rests next = record {
  cap = let c = h.cap in omega arith;
  low = λ r y j d e t.
      ⊎_elim
      (λ l. h.low r y j l e (omega arith))
      (λ l. let f : count ≡ r = omega arith in
      let g : x ≡ y = same_Some x y (sym s ∙ subst (λ (z : ℕ). slice_get xs z ≡ Some y) (sym f) e) in
      subst (λ (z : Resource). waiting z.agenda j ≡ None) g (rests j t))
      (cases_lt r count);
  there = λ d.
      ⊎_elim
      (λ l. (count, x, s, next l))
      (λ l. let e : m ≡ less = omega arith in
      let t = h.there (omega arith) in (t.0, t.1, t.2, subst (λ (z : ℕ). IsNext t.1.agenda z) e t.3))
      (cases_lt less m);
}

-- the tick of an event is below no tick below which nothing waits
pub next_rests : (x : Resource) (tick : ℕ) → IsNext x.agenda tick → Rests x tick
next_rests x tick next j b = go (waiting x.agenda j) refl
  where
    go : (o : Option Event) → waiting x.agenda j ≡ o → o ≡ None
    go None e = refl
    go (Some v) e = absurd (let l : tick ≤ j.tick = next.none_below j (subst (λ (z : Option Event). IsSome z) (sym e) refl) in omega arith)

pub rests_next : (x : Resource) (tick below : ℕ) → IsNext x.agenda tick → Rests x below → below ≤ tick
rests_next x tick below next rests =
    let (j, at, there) = next.waits in
    ⊎_elim
    (λ b. let e : false ≡ true = subst (λ (z : Option Event). IsSome z) (rests j (omega arith)) there in cc)
    (λ b. b)
    (cases_lt tick below)

pub least_some : (xs : List Resource) (count horizon m tick : ℕ) (x : Resource) → slice_get xs count ≡ Some x → IsLeastOf xs count horizon m → IsNext x.agenda tick
    → IsLeastOf xs (count + 1) horizon (min m tick)
least_some xs count horizon m tick x s h next =
    least_more xs count horizon m (min m tick) x s h (omega arith) (λ j b. next_rests x tick next j (omega arith))
    (λ b. let e : tick ≡ min m tick = omega arith in subst (λ (z : ℕ). IsNext x.agenda z) e next)

pub least_idle : (xs : List Resource) (count horizon m : ℕ) (x : Resource) → slice_get xs count ≡ Some x → IsLeastOf xs count horizon m
    → ((j : Key) → waiting x.agenda j ≡ None) → IsLeastOf xs (count + 1) horizon m
least_idle xs count horizon m x s h none = least_more xs count horizon m m x s h (omega arith) (λ j b. none j) (λ b. absurd (omega arith))

pub least_of : (xs : List Resource) (horizon m : ℕ) → m ≤ horizon → ((r : ℕ) (x : Resource) (j : Key) → slice_get xs r ≡ Some x → j.tick < m → waiting x.agenda j ≡ None)
    → (m < horizon → (r : ℕ) × (x : Resource) × (slice_get xs r ≡ Some x) × IsNext x.agenda m) → IsLeastOf xs (length xs) horizon m
least_of xs horizon m cap low there = record { cap = cap; low = λ r x j b s t. low r x j s t; there = there }

-- what the pass over all of them gives is a cut
pub least_cut : (xs : List Resource) (horizon m : ℕ) → IsLeastOf xs (length xs) horizon m → IsCut (EventsAllow clock_of stop_of Rests xs) horizon (length xs) m
least_cut xs horizon m h =
    events_cut clock_of stop_of Rests xs horizon m h.cap
    (λ i x s j b. h.low i x j (slice_get_within xs i x s) s b)
    (λ b. let t = h.there b in (t.0, t.1, t.2, λ u rests. rests_next t.1 m u t.3 rests))

-- ---- The clocks

-- Below a number the bounds are raised to the clocks.
pub record AreRaised (xs : List Resource) (count : ℕ) (before all : List ℕ) : Type 0 where
  pub long : length all ≡ length before
  pub raised : (r : ℕ) (x : Resource) → r < count → slice_get xs r ≡ Some x → slice_index all r ≡ max (slice_index before r) x.clock
  pub kept : (r : ℕ) → count ≤ r → slice_index all r ≡ slice_index before r

pub raised_more : (xs : List Resource) (count : ℕ) (before all : List ℕ) (x : Resource) → slice_get xs count ≡ Some x → count < length all → AreRaised xs count before all
    → AreRaised xs (count + 1) before (set all count (max (slice_index all count) x.clock))
raised_more xs count before all x s b h =
    let v = max (slice_index all count) x.clock in
    record {
      long = length-set all count v ∙ h.long;
      raised = λ r y d e.
          ⊎_elim
          (λ l. get_or-set_other all count r v 0 (λ z. absurd (omega arith)) ∙ h.raised r y l e)
          (λ l. let f : count ≡ r = omega arith in
          let g : x ≡ y = same_Some x y (sym s ∙ subst (λ (z : ℕ). slice_get xs z ≡ Some y) (sym f) e) in
          subst (λ (z : ℕ). slice_index (set all count v) z ≡ max (slice_index before z) y.clock) f
          (get_or-set_same all count v 0 b ∙ (λ i. max (h.kept count (omega arith) i) (g i).clock)))
          (cases_lt r count);
      kept = λ r d. get_or-set_other all count r v 0 (λ z. absurd (omega arith)) ∙ h.kept r (omega arith);
    }

-- ---- Numbers

pub few_resources : (i : Inputs) → AreGood i → count_of (system_of i) ≤ 256
few_resources i good =
    let e : length (map (λ r. r.name) i.plan.resources) ≡ length i.plan.resources = length-map i.plan.resources (λ r. r.name) in
    let b : length i.plan.resources ≤ 256 = good.limits.few_resources in
    omega arith
