-- Tables of latencies, one entry after another.
use Rattle.fb_types.proofs.Common.{◌≡◌, ◌⊎◌, ℕ, zero, suc, ◌+◌, ◌^◌, ◌<◌, ◌≤◌, nat_le, true, false, cond, List, [], ◌∷◌, ◌++◌, length, map, take, get_or, Option, Some, None, refl, sym, ◌∙◌, ap, inl, inr, arith, filter, le-leb, lt-leb, cases_lt, get_or-map, length-map, take_more, take_all, All-head, All-tail, last_of, latency_at}
use Rattle.fb_types.specs.declared.latency.Entry.{Entry}
use Rattle.std.specs.List.{All, AllPairs}
use Rattle.std.proofs.lemmas.List.Kept.{AllPairs-from_increasing}
use Rattle.fb_types.specs.Latencies.{IsLatencyTable}

-- the latency at a tick of sending by these entries, where one already holds before them
abbrev after : ℕ → List Entry → ℕ → ℕ
after held [] sent = held
after held (e ∷ es) sent = after (cond (nat_le e.from sent) e.latency held) es sent

abbrev latency_or : ℕ → Option Entry → ℕ
latency_or held o = elim o [ None ↦ held | Some e ↦ e.latency ]

last-or : (held : ℕ) (e : Entry) (es : List Entry) → latency_or held (last_of (e ∷ es)) ≡ latency_or e.latency (last_of es)
last-or held e [] = refl
last-or held e (x ∷ xs) = last-or held x xs ∙ sym (last-or e.latency x xs)

after_filter : (held : ℕ) (es : List Entry) (sent : ℕ) → latency_or held (last_of (filter (λ e. nat_le e.from sent) es)) ≡ after held es sent
after_filter held [] sent = refl
after_filter held (e ∷ es) sent =
    let kept : List Entry = filter (λ e. nat_le e.from sent) es in
    elim (nat_le e.from sent) as (λ b. latency_or held (last_of (cond b (e ∷ kept) kept)) ≡ after (cond b e.latency held) es sent) [
      | true ↦ last-or held e kept ∙ after_filter e.latency es sent
      | false ↦ after_filter held es sent
    ]

latency-is : (es : List Entry) (sent : ℕ) → latency_at es sent ≡ after 1 es sent
latency-is es sent = after_filter 1 es sent

-- ---- One more entry

after_push : (held : ℕ) (es : List Entry) (e : Entry) (sent : ℕ) → after held (es ++ e ∷ []) sent ≡ cond (nat_le e.from sent) e.latency (after held es sent)
after_push held [] e sent = refl
after_push held (x ∷ xs) e sent = after_push (cond (nat_le x.from sent) x.latency held) xs e sent

latency_more :
    (es : List Entry) (i : ℕ) (d : Entry) (sent : ℕ) → i < length es
    → latency_at (take (i + 1) es) sent ≡ cond (nat_le (get_or es i d).from sent) (get_or es i d).latency (latency_at (take i es) sent)
latency_more es i d sent h =
    let e : Entry = get_or es i d in
    ap (λ (xs : List Entry). latency_at xs sent) (take_more es i d h) ∙ latency-is (take i es ++ e ∷ []) sent ∙ after_push 1 (take i es) e sent
    ∙ ap (cond (nat_le e.from sent) e.latency) (sym (latency-is (take i es) sent))

pub latency_taken :
    (es : List Entry) (i : ℕ) (d : Entry) (sent ticks : ℕ) → i < length es → (get_or es i d).from ≤ sent → ticks ≡ (get_or es i d).latency
    → ticks ≡ latency_at (take (i + 1) es) sent
latency_taken es i d sent ticks h passed is =
    let e : Entry = get_or es i d in
    is ∙ ap (λ b. cond b e.latency (latency_at (take i es) sent)) (sym (le-leb e.from sent passed)) ∙ sym (latency_more es i d sent h)

pub latency_kept :
    (es : List Entry) (i : ℕ) (d : Entry) (sent ticks : ℕ) → i < length es → sent < (get_or es i d).from → ticks ≡ latency_at (take i es) sent
    → ticks ≡ latency_at (take (i + 1) es) sent
latency_kept es i d sent ticks h ahead is =
    let e : Entry = get_or es i d in
    is ∙ ap (λ b. cond b e.latency (latency_at (take i es) sent)) (sym (lt-leb e.from sent ahead)) ∙ sym (latency_more es i d sent h)

pub latency_all : (table es : List Entry) (i sent ticks : ℕ) → es ≡ table → length es ≤ i → ticks ≡ latency_at (take i es) sent → ticks ≡ latency_at table sent
latency_all table es i sent ticks same h is = is ∙ ap (λ (xs : List Entry). latency_at xs sent) (take_all i es h ∙ same)

-- ---- How long a message takes

abbrev HasLatency : Entry → Type 0
HasLatency e = (1 ≤ e.latency) × (e.latency ≤ 10 ^ 6)

after_within : (held : ℕ) (es : List Entry) (sent : ℕ) → (1 ≤ held) × (held ≤ 10 ^ 6) → All HasLatency es → (1 ≤ after held es sent) × (after held es sent ≤ 10 ^ 6)
after_within held [] sent h all = h
after_within held (e ∷ es) sent h all =
    elim (nat_le e.from sent) as (λ b. (1 ≤ after (cond b e.latency held) es sent) × (after (cond b e.latency held) es sent ≤ 10 ^ 6)) [
      | true ↦ after_within e.latency es sent (All-head HasLatency e es all) (All-tail HasLatency e es all)
      | false ↦ after_within held es sent h (All-tail HasLatency e es all)
    ]

pub latency_within : (table : List Entry) (sent : ℕ) → IsLatencyTable table → (1 ≤ latency_at table sent) × (latency_at table sent ≤ 10 ^ 6)
latency_within table sent is =
    let w = after_within 1 table sent (omega arith, omega arith) is.latencies in
    let e = latency-is table sent in
    (omega arith, omega arith)

-- ---- Entries that hold, and those that do not yet

after_passed : (held : ℕ) (e : Entry) (es : List Entry) (sent : ℕ) → e.from ≤ sent → after held (e ∷ es) sent ≡ after e.latency es sent
after_passed held e es sent h = ap (λ b. after (cond b e.latency held) es sent) (le-leb e.from sent h)

after_ahead : (held : ℕ) (e : Entry) (es : List Entry) (sent : ℕ) → sent < e.from → after held (e ∷ es) sent ≡ after held es sent
after_ahead held e es sent h = ap (λ b. after (cond b e.latency held) es sent) (lt-leb e.from sent h)

after_none : (held : ℕ) (es : List Entry) (sent : ℕ) → All (λ (e : Entry). sent < e.from) es → after held es sent ≡ held
after_none held [] sent all = refl
after_none held (e ∷ es) sent all =
    after_ahead held e es sent (All-head (λ (x : Entry). sent < x.from) e es all) ∙ after_none held es sent (All-tail (λ (x : Entry). sent < x.from) e es all)

abbrev Begins : Entry → Entry → Type 0
Begins d e = d.from < e.from

begins_all : (table : List Entry) → IsLatencyTable table → AllPairs Begins table
begins_all table is = λ i j d h g.
    let starts : List ℕ = map (λ (e : Entry). e.from) table in
    let rises = AllPairs-from_increasing starts is.rising i j 0 h (omega (arith, length-map table (λ (e : Entry). e.from))) in
    omega (arith, rises, get_or-map (λ (e : Entry). e.from) table i d 0 (omega arith), get_or-map (λ (e : Entry). e.from) table j d 0 g)

-- At its tick an entry holds.
after_index :
    (held : ℕ) (es : List Entry) (k : ℕ) (d : Entry) → AllPairs Begins es → k < length es
    → after held es (get_or es k d).from ≡ (get_or es k d).latency
after_index held [] k d rises h = absurd (omega arith)
after_index held (e ∷ es) zero d rises h =
    after_passed held e es e.from (omega arith) ∙ after_none e.latency es e.from (λ k x g. rises 0 (suc k) x (omega arith) (omega arith))
after_index held (e ∷ es) (suc k) d rises h =
    after_index (cond (nat_le e.from (get_or es k d).from) e.latency held) es k d (λ i j x g l. rises (suc i) (suc j) x (omega arith) (omega arith)) (omega arith)

pub latency_index :
    (table : List Entry) (i : ℕ) (d : Entry) → IsLatencyTable table → i < length table
    → latency_at table (get_or table i d).from ≡ (get_or table i d).latency
latency_index table i d is h = latency-is table (get_or table i d).from ∙ after_index 1 table i d (begins_all table is) h

-- ---- The least arrival

abbrev pub NoEarlier : ℕ → ℕ → Entry → Type 0
NoEarlier from tick e = from < e.from → tick ≤ e.from + e.latency

-- What arrives no earlier than what is sent at a tick, and what is sent as each later entry begins, arrives before
-- nothing that is sent at that tick or later. Either one latency holds at both ticks so far, or an entry between them
-- bounds what is sent at the second.
after_least :
    (held now : ℕ) (es : List Entry) (from sent tick : ℕ) → from ≤ sent → All (NoEarlier from tick) es → tick ≤ from + after held es from
    → (held ≡ now) ⊎ (tick ≤ sent + now) → tick ≤ sent + after now es sent
after_least held now [] from sent tick le all first (inl same) = omega arith
after_least held now [] from sent tick le all first (inr low) = low
after_least held now (e ∷ es) from sent tick le all first so_far =
    let rest : All (NoEarlier from tick) es = All-tail (NoEarlier from tick) e es all in
    elim (cases_lt from e.from) [
      | inr passed ↦
          let one = after_passed held e es from passed in
          let two = after_passed now e es sent (omega arith) in
          let step = after_least e.latency e.latency es from sent tick le rest (omega arith) (inl refl) in
          omega arith
      | inl ahead ↦
          let one = after_ahead held e es from ahead in
          elim (cases_lt sent e.from) [
            | inl later ↦
                let two = after_ahead now e es sent later in
                let step = after_least held now es from sent tick le rest (omega arith) so_far in
                omega arith
            | inr passed ↦
                let two = after_passed now e es sent passed in
                let low = All-head (NoEarlier from tick) e es all ahead in
                let step = after_least held e.latency es from sent tick le rest (omega arith) (inr (omega arith)) in
                omega arith
          ]
    ]

pub arrival_least :
    (table : List Entry) (from sent tick : ℕ) → from ≤ sent → All (NoEarlier from tick) table → tick ≤ from + latency_at table from
    → tick ≤ sent + latency_at table sent
arrival_least table from sent tick le all first =
    let one = latency-is table from in
    let two = latency-is table sent in
    let step = after_least 1 1 table from sent tick le all (omega arith) (inl refl) in
    omega arith
