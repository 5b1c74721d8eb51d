-- The ticks of the lines of a run do not fall, and the run ends after them.
use Rattle.fb_inspect.proofs.lemmas.Common.{◌≡◌, ◌⊎◌, ◌<◌, ◌≤◌, ◌^◌, ℕ, ◌+◌, List, [], ◌∷◌, ◌++◌, length, map, Option, Some, None, All, refl, ap, inl, inr, arith, All-head, All-tail, found, Each, line_of, AtHorizon, AtStop, Ending, System, Key, Reason, last_tick, IsEndOf, RiseFrom, IsGiven}
use Rattle.fb_types.proofs.Common.{⊎_elim, cases_lt, changed_to, without, Chain, NothingAfter, Taken, TakesLeast, after, ending_by, ending_of, lines_of, Config}
use Rattle.fb_types.specs.States.{Event, Line}
use Rattle.fb_types.specs.declared.run.Line as run
use Rattle.fb_types.proofs.lemmas.lists.EachLaws.{each_map}
use Rattle.fb_types.proofs.lemmas.lists.Lookups.{before_tick, edit_some, none_some, or_else_some, tick_before, without_some}
use Rattle.fb_laws.specs.ResourceLaw.{PutsLater}
use Rattle.fb_wave.specs.Waves.{EndsAfter}
use Rattle.fb_inspect.proofs.lemmas.runs.RunGiven.{IsGivenTaking}

-- ---- Ticks of lines of the model

abbrev pub Rises : ℕ → List Line → Type 0
Rises t [] = Unit {0}
Rises t (l ∷ ls) = (t ≤ l.key.tick) × Rises l.key.tick ls

abbrev pub last_of : ℕ → List Line → ℕ
last_of t [] = t
last_of t (l ∷ ls) = last_of l.key.tick ls

rises_lower : (s t : ℕ) (ls : List Line) → s ≤ t → Rises t ls → Rises s ls
rises_lower s t [] le h = tt
rises_lower s t (l ∷ ls) le h = let first = h.0 in (omega (arith, le, first), h.1)

rises_append : (t : ℕ) (k : Key) (ls rest : List Line) → t ≤ k.tick → Each (λ (l : Line). l.key ≡ k) ls → Rises k.tick rest → Rises t (ls ++ rest)
rises_append t k [] rest le h more = rises_lower t k.tick rest le more
rises_append t k (l ∷ ls) rest le h more =
    let tick : l.key.tick ≡ k.tick = ap (λ (z : Key). z.tick) h.0 in
    (omega (arith, le, tick), rises_append l.key.tick k ls rest (omega (arith, tick)) h.1 more)

-- the last tick of the lines of one taking and of later ones is at most that of the later ones alone
last_below : (s t : ℕ) (ls : List Line) → s ≤ t → last_of s ls ≤ last_of t ls
last_below s t [] le = le
last_below s t (l ∷ ls) le = omega arith

last_append : (t : ℕ) (k : Key) (ls rest : List Line) → t ≤ k.tick → Each (λ (l : Line). l.key ≡ k) ls → last_of t (ls ++ rest) ≤ last_of k.tick rest
last_append t k [] rest le h = last_below t k.tick rest le
last_append t k (l ∷ ls) rest le h =
    let tick : l.key.tick ≡ k.tick = ap (λ (z : Key). z.tick) h.0 in last_append l.key.tick k ls rest (omega (arith, tick)) h.1

ends_lower : (s t : ℕ) (end : Ending) → s ≤ t → EndsAfter t end → EndsAfter s end
ends_lower s t (AtHorizon h) le e = let below : t < h = e in omega (arith, le, below)
ends_lower s t (AtStop k r reason) le e = let below : t ≤ k = e in omega (arith, le, below)

-- ---- .. and of lines by numbers

pub rise_from : (sys : System) (t : ℕ) (rs : List run.Line) → Rises t (map (line_of sys) rs) → RiseFrom t rs
rise_from sys t [] h = tt
rise_from sys t (r ∷ rs) h = (h.0, rise_from sys r.key.tick rs h.1)

pub last_is : (sys : System) (t : ℕ) (rs : List run.Line) → last_of t (map (line_of sys) rs) ≡ last_tick t rs
last_is sys t [] = refl
last_is sys t (r ∷ rs) = last_is sys r.key.tick rs

-- ---- The chain

module _ (sys : System) (limit : ℕ) where
  abbrev IsAbove : ℕ → Config → Type 0
  IsAbove t c = (j : Key) (v : Event) → c.agenda j ≡ Some v → t ≤ j.tick

  module _ (c : Config) (t : Taken) (least : TakesLeast sys limit c t) (later : PutsLater t) where
    kept_above : (j : Key) (v : Event) → c.agenda j ≡ Some v → t.key.tick ≤ j.tick
    kept_above j v h = ⊎_elim (λ (b : j.tick < t.key.tick). absurd (none_some (c.agenda j) v (least.least j (tick_before j t.key b)) h)) (λ b. b) (cases_lt j.tick t.key.tick)

    changed_above : (j : Key) (v : Event) → changed_to (t.effect.changes j) (without t.key c.agenda j) ≡ Some v → t.key.tick ≤ j.tick
    changed_above j v h =
        ⊎_elim
        (λ (put : t.effect.changes j ≡ Some (Some v)). before_tick t.key j (later j v (inl put)))
        (λ (kept : (t.effect.changes j ≡ None) × (without t.key c.agenda j ≡ Some v)). kept_above j v (without_some t.key c.agenda j v kept.1).0)
        (edit_some (t.effect.changes j) (without t.key c.agenda j) v h)

    after_above : IsAbove t.key.tick (after c t)
    after_above j v h =
        ⊎_elim
        (λ (sent : found j t.effect.sent ≡ Some v). before_tick t.key j (later j v (inr sent)))
        (λ (rest : changed_to (t.effect.changes j) (without t.key c.agenda j) ≡ Some v). changed_above j v rest)
        (or_else_some (found j t.effect.sent) (changed_to (t.effect.changes j) (without t.key c.agenda j)) v h)

  of_key : (t : Taken) → IsGivenTaking sys t → Each (λ (l : Line). l.key ≡ t.key) t.effect.lines
  of_key t given = each_map (IsGiven sys t.key) (λ (l : Line). l.key ≡ t.key) t.effect.lines (λ l is. is.key_is) given.lines

  pub chain_rises :
      (ts : List Taken) (c : Config) (t : ℕ) → IsAbove t c → Each PutsLater ts → Each (IsGivenTaking sys) ts → Chain sys limit c ts → Rises t (lines_of ts)
  chain_rises [] c t above later given chain = tt
  chain_rises (u ∷ us) c t above later given chain =
      rises_append t u.key u.effect.lines (lines_of us) (above u.key u.event chain.0.waits) (of_key u given.0)
      (chain_rises us (after c u) u.key.tick (after_above c u chain.0 later.0) later.1 given.1 chain.2)

  pub chain_ends :
      (horizon : ℕ) (ts : List Taken) (c : Config) (t : ℕ) → IsAbove t c → Each PutsLater ts → Each (IsGivenTaking sys) ts → Chain sys limit c ts
      → All (λ (u : Taken). u.key.tick < horizon) ts → t < horizon → EndsAfter (last_of t (lines_of ts)) (ending_of horizon ts)
  chain_ends horizon [] c t above later given chain below early = early
  chain_ends horizon (u ∷ us) c t above later given chain below early =
      by u.effect.stop chain.1
      (chain_ends horizon us (after c u) u.key.tick (after_above c u chain.0 later.0) later.1 given.1 chain.2 (All-tail (λ (u : Taken). u.key.tick < horizon) u us below)
      (All-head (λ (u : Taken). u.key.tick < horizon) u us below))
    where
      last : last_of t (u.effect.lines ++ lines_of us) ≤ last_of u.key.tick (lines_of us)
      last = last_append t u.key u.effect.lines (lines_of us) (above u.key u.event chain.0.waits) (of_key u given.0)

      by : (stop : Option Reason) → NothingAfter stop us → EndsAfter (last_of u.key.tick (lines_of us)) (ending_of horizon us)
          → EndsAfter (last_of t (u.effect.lines ++ lines_of us)) (ending_by stop u.key (ending_of horizon us))
      by None none rest = ends_lower (last_of t (u.effect.lines ++ lines_of us)) (last_of u.key.tick (lines_of us)) (ending_of horizon us) last rest
      by (Some r) none rest =
          let whole : last_of u.key.tick (lines_of us) ≡ u.key.tick = ap (λ (vs : List Taken). last_of u.key.tick (lines_of vs)) none in
          omega (arith, last, whole)

  pub chain_end :
      (horizon : ℕ) (ts : List Taken) → horizon ≤ 10 ^ 12 → All (λ (u : Taken). u.key.tick < horizon) ts → Each (λ (u : Taken). u.key.resource < length sys.resource_names) ts
      → IsEndOf sys (ending_of horizon ts)
  chain_end horizon [] small below homes = omega (arith, small)
  chain_end horizon (u ∷ us) small below homes = by u.effect.stop (chain_end horizon us small (All-tail (λ (u : Taken). u.key.tick < horizon) u us below) homes.1)
    where
      by : (stop : Option Reason) → IsEndOf sys (ending_of horizon us) → IsEndOf sys (ending_by stop u.key (ending_of horizon us))
      by None rest = rest
      by (Some r) rest = let low = All-head (λ (u : Taken). u.key.tick < horizon) u us below in (omega (arith, small, low), homes.0)
