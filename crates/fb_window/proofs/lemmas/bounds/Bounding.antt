-- The greatest legal bounds, from the numbers that the resources give.
use Rattle.fb_types.proofs.Common.{◌≡◌, ℕ, ◌+◌, ◌-◌, ◌<◌, ◌≤◌, ◌⊎◌, min, max, Option, Some, None, List, [], length, set, replicate, refl, sym, ap, ◌∙◌, subst, inl, inr, ⊎_elim, arith, slice_get, slice_index, cases_lt, cases_eq, get_or-set_same, get_or-set_other, length-set, same_Some, slice_get_within, found, message_key, System, Machine, waiting, machine, count_of, Core, IsFloor, IsLegal, floor, floor_of}
use Rattle.fb_types.specs.declared.key.Key.{Key}
use Rattle.fb_types.specs.declared.latency.Entry.{Entry}
use Rattle.fb_types.specs.declared.value.Reason.{Reason}
use Rattle.std.proofs.lemmas.List.{get_or-replicate}
use Rattle.fb_types.specs.Parts.{IsArrival}
use Rattle.fb_types.proofs.lemmas.lists.Lookups.{none_since, none_some, option_cases}
use Rattle.fb_laws.specs.Sound.{IsSound}
use Rattle.fb_link.specs.Arrivals.{arrival_at, IsEarliest}
use Rattle.fb_laws.specs.Cuts.{IsCut, StopAllows, LinkAllows}
use Rattle.fb_window.specs.Bounding.{IsInReach, IsNear, IsGreatest, AreGreatest}
use Rattle.fb_types.proofs.lemmas.lists.ByIndex.{element_at}

-- ---- The greatest tick that is allowed

module _ (Allows : (number tick : ℕ) → Type 0) where
  pub cut_none : (top : ℕ) → IsCut Allows top 0 top
  cut_none top = record { within = omega arith; each = λ i b. absurd (omega arith); greatest = λ other b h. b }

  -- one number more: what is allowed at a tick is allowed at each lesser one
  pub cut_more : (top count tick less : ℕ) → IsCut Allows top count tick → less ≤ tick
      → ((i : ℕ) → Allows i tick → Allows i less) → Allows count less → ((other : ℕ) → other ≤ tick → Allows count other → other ≤ less)
      → IsCut Allows top (count + 1) less
  cut_more top count tick less c below lower here greatest = record {
    within = let w = c.within in omega arith;
    each = λ i b. ⊎_elim (λ h. lower i (c.each i h)) (λ h. let e : count ≡ i = omega arith in subst (λ (z : ℕ). Allows z less) e here) (cases_lt i count);
    greatest = λ other b h. greatest other (c.greatest other b (λ i s. h i (omega arith))) (h count (omega arith));
  }

  -- one number more, which allows the tick too
  pub cut_kept : (top count tick : ℕ) → IsCut Allows top count tick → Allows count tick → IsCut Allows top (count + 1) tick
  cut_kept top count tick c here = cut_more top count tick tick c (omega arith) (λ i h. h) here (λ other b h. b)

-- ---- Links

module _ (sys : System) where
  -- Nothing that is sent on a link at the floor of its sender or later arrives at the resource before the tick.
  abbrev pub NoneBefore : (floor : ℕ → ℕ) → (r tick : ℕ) → Type 0
  NoneBefore floor r t =
      (l : ℕ) → l < sys.links → sys.receiver l ≡ r → (sent : ℕ) → floor (sys.sender l) ≤ sent → t ≤ sys.arrival l sent

  -- The same of the keys under which messages arrive.
  abbrev pub NoKeyBefore : (floor : ℕ → ℕ) → (r tick : ℕ) → Type 0
  NoKeyBefore floor r t =
      (k : Key) (sent : ℕ) → IsArrival sys k sent → k.resource ≡ r → floor (sys.sender k.a) ≤ sent → t ≤ k.tick

  pub link_legal : (floor : ℕ → ℕ) (r t : ℕ) → NoneBefore floor r t → NoKeyBefore floor r t
  link_legal floor r t h k sent a e f =
      let g : k.tick ≡ sys.arrival k.a sent = a.tick in
      let i : t ≤ sys.arrival k.a sent = h k.a a.link (sym a.resource ∙ e) sent f in
      omega arith

  pub legal_link : (floor : ℕ → ℕ) (r t : ℕ) → NoKeyBefore floor r t → NoneBefore floor r t
  legal_link floor r t h l b e sent f =
      h (message_key (sys.arrival l sent) r l 0) sent (record { class = refl; link = b; tick = refl; resource = sym e }) refl f

  -- the least arrival of a link is the greatest tick before which nothing arrives on it
  module _ (table : List Entry) (l from least : ℕ) (same : (sent : ℕ) → sys.arrival l sent ≡ arrival_at table sent) (x : IsEarliest table from least) where
    pub earliest_allows : (t sent : ℕ) → t ≤ least → from ≤ sent → t ≤ sys.arrival l sent
    earliest_allows t sent b f = let g : least ≤ arrival_at table sent = x.least sent f in let h = same sent in omega arith

    pub earliest_greatest : (t : ℕ) → ((sent : ℕ) → from ≤ sent → t ≤ sys.arrival l sent) → t ≤ least
    earliest_greatest t h =
        let (sent, late, at) = x.reached in
        let g : t ≤ sys.arrival l sent = h sent late in
        let e = same sent in
        omega arith

-- ---- Floors

floor_lower : {R : Type 0} (stop : Option R) (clock m n sent : ℕ) → floor_of stop clock m ≤ sent → n ≤ sent → floor_of stop clock n ≤ sent
floor_lower None clock m n sent h b = omega arith
floor_lower (Some reason) clock m n sent h b = h

-- who has not stopped sends from the least tick of all events on
floor_live : {R : Type 0} (stop : Option R) (clock m sent : ℕ) → stop ≡ None → floor_of stop clock m ≤ sent → m ≤ sent
floor_live None clock m sent e h = omega arith
floor_live (Some reason) clock m sent e h = absurd (none_some _ _ e refl)

floor_stopped : {R : Type 0} (stop : Option R) (reason : R) (clock m n sent : ℕ) → stop ≡ Some reason → floor_of stop clock m ≤ sent → floor_of stop clock n ≤ sent
floor_stopped None reason clock m n sent e h = absurd (none_some _ _ refl e)
floor_stopped (Some q) reason clock m n sent e h = h

floor_clock : {R : Type 0} (stop : Option R) (clock m sent : ℕ) → floor_of stop clock m ≤ sent → clock ≤ sent
floor_clock None clock m sent h = omega arith
floor_clock (Some reason) clock m sent h = h

-- ---- What is computed

-- Of each resource its clock, its stop if there is one, and whether nothing waits for it below a tick.
module _ {X : Type 0} (clock : X → ℕ) (stop : X → Option Reason) (Rests : X → (tick : ℕ) → Type 0) where
  -- the events of a resource allow a tick
  abbrev pub EventsAllow : List X → (number tick : ℕ) → Type 0
  EventsAllow xs i t = (x : X) → slice_get xs i ≡ Some x → Rests x t

  -- The greatest tick that the links to a resource allow, or its clock.
  pub record IsBoundOf (sys : System) (xs : List X) (top m r at_clock bound : ℕ) : Type 0 where
    pub tick : ℕ
    pub links : IsCut (LinkAllows clock stop sys xs m r) top sys.links tick
    pub is : bound ≡ max tick at_clock

  -- The bounds by the clocks and stops, and by the least event m of all, which is cut to the horizon.
  pub record AreComputed (sys : System) (horizon cap : ℕ) (xs : List X) (all : List ℕ) : Type 0 where
    pub last : ℕ
    pub m : ℕ
    pub stops : IsCut (StopAllows clock stop xs) horizon (length xs) last
    pub events : IsCut (EventsAllow xs) horizon (length xs) m
    pub each : (r : ℕ) (x : X) → slice_get xs r ≡ Some x → IsBoundOf sys xs (min last (m + cap)) m r (clock x) (slice_index all r)

  -- These are the resources of the core, and nothing is on its way.
  pub record IsCoreOf (sys : System) (limit : ℕ) (c : Core (machine sys limit)) (xs : List X) : Type 0 where
    pub counted : length xs ≡ count_of sys
    pub clocks : (r : ℕ) (x : X) → slice_get xs r ≡ Some x → (c r).clock ≡ clock x
    pub stops : (r : ℕ) (x : X) → slice_get xs r ≡ Some x → (c r).state.stop ≡ stop x
    pub rests : (r : ℕ) (x : X) → slice_get xs r ≡ Some x → (t : ℕ) → Rests x t
        → (k : Key) → k.resource ≡ r → k.tick < t → waiting (machine sys limit) (c r).state k ≡ None
    pub idle : (r : ℕ) (x : X) → slice_get xs r ≡ Some x → (t : ℕ)
        → ((k : Key) → k.resource ≡ r → k.tick < t → waiting (machine sys limit) (c r).state k ≡ None) → Rests x t
    pub posted : (r : ℕ) → (c r).outbox ≡ []
    -- past the last resource nothing happens
    pub live : (r : ℕ) → count_of sys ≤ r → (c r).state.stop ≡ None
    pub quiet : (r : ℕ) → count_of sys ≤ r → (k : Key) → k.resource ≡ r → waiting (machine sys limit) (c r).state k ≡ None

  inside : (xs : List X) (s : ℕ) (x : X) → slice_get xs s ≡ Some x → s < length xs
  inside xs s x e = slice_get_within xs s x e

  -- ---- The least event

  module _ (sys : System) (limit : ℕ) (c : Core (machine sys limit)) (xs : List X) (of : IsCoreOf sys limit c xs) where
    -- a number of a resource, with its resource, or past the last
    pub seat_or_past : (s : ℕ) → ((x : X) × (slice_get xs s ≡ Some x)) ⊎ (count_of sys ≤ s)
    seat_or_past s = let e = of.counted in ⊎_elim (λ h. inl (element_at xs s h)) (λ h. inr (omega arith)) (cases_lt s (length xs))

    pub no_message : (s : ℕ) (k : Key) → found k (c s).outbox ≡ None
    no_message s k = ap (λ z. found k z) (of.posted s)

    -- The least tick of all events up to the horizon: no event comes before it,
    pub least_floor : (horizon m : ℕ) → IsCut (EventsAllow xs) horizon (length xs) m → IsFloor (machine sys limit) c m
    least_floor horizon m events s k b =
        (λ e. ⊎_elim (λ h. of.rests s h.0 h.1 m (events.each s (inside xs s h.0 h.1) h.0 h.1) k e b) (λ h. of.quiet s h k e) (seat_or_past s), no_message s k)

    -- and every tick up to the horizon that no event precedes is at most that.
    pub least_most : (horizon m : ℕ) → IsCut (EventsAllow xs) horizon (length xs) m → (n t : ℕ) → IsFloor (machine sys limit) c n → t ≤ n → t ≤ horizon → t ≤ m
    least_most horizon m events n t fl b h =
        events.greatest t h (λ i s x e. of.idle i x e t (λ k f g. (fl i k (omega arith)).0 f))

  -- ---- The bounds

  module _ (sys : System) (sound : IsSound sys) (limit horizon cap : ℕ) (few : 1 ≤ cap) (c : Core (machine sys limit)) (xs : List X) (all : List ℕ)
      (of : IsCoreOf sys limit c xs) (y : AreComputed sys horizon cap xs all) where
    abbrev M : Machine
    M = machine sys limit

    sender : (l : ℕ) → l < sys.links → (x : X) × (slice_get xs (sys.sender l) ≡ Some x)
    sender l b = let e = of.counted in let s : sys.sender l < count_of sys = sound.senders l b in element_at xs (sys.sender l) (omega arith)

    is_floor : IsFloor M c y.m
    is_floor = least_floor sys limit c xs of horizon y.m y.events

    least_tick : (n t : ℕ) → IsFloor M c n → t ≤ n → t ≤ horizon → t ≤ y.m
    least_tick n t = least_most sys limit c xs of horizon y.m y.events n t

    reach_last : (t : ℕ) → IsInReach M horizon c t → t ≤ y.last
    reach_last t h =
        let b : t ≤ horizon = h.in_range in
        y.stops.greatest t b
        (λ i s x e q f. let g : t ≤ (c i).clock + 1 = h.stops i q (of.stops i x e ∙ f) in let d = of.clocks i x e in omega arith)

    last_reach : (t : ℕ) → t ≤ y.last → IsInReach M horizon c t
    last_reach t b = record {
      in_range = let w = y.stops.within in omega arith;
      stops = λ s q e.
          ⊎_elim
          (λ h. let d = of.clocks s h.0 h.1 in let g : y.last ≤ clock h.0 + 1 = y.stops.each s (inside xs s h.0 h.1) h.0 h.1 q (sym (of.stops s h.0 h.1) ∙ e) in omega arith)
          (λ h. absurd (none_some _ _ (of.live s h) e))
          (seat_or_past sys limit c xs of s);
    }

    near_cap : (t : ℕ) → IsNear M cap c t → t ≤ horizon → t ≤ y.m + cap
    near_cap t h b =
        let g : t - cap ≤ y.m = y.events.greatest (t - cap) (omega arith)
        (λ i s x e. of.idle i x e (t - cap)
        (λ k f l. none_since _ (λ v w. let d : t ≤ k.tick + cap = h.events k v (subst (λ (z : ℕ). waiting M (c z).state k ≡ Some v) (sym f) w) in omega arith))) in
        omega arith

    cap_near : (t : ℕ) → t ≤ y.m + cap → IsNear M cap c t
    cap_near t b = record {
      events = λ k e w. ⊎_elim (λ h. absurd (none_some _ _ ((is_floor k.resource k h).0 refl) w)) (λ h. omega arith) (cases_lt k.tick y.m);
      messages = λ s k e w. absurd (none_some _ _ (no_message sys limit c xs of s k) w);
    }

    floor_is : (s m : ℕ) (x : X) → slice_get xs s ≡ Some x → floor M c m s ≡ floor_of (stop x) (clock x) m
    floor_is s m x e = let p = of.stops s x e in let q = of.clocks s x e in λ i. floor_of (p i) (q i) m

    module _ (r : ℕ) (tick : ℕ) (cut : IsCut (LinkAllows clock stop sys xs y.m r) (min y.last (y.m + cap)) sys.links tick) where
      tick_legal : IsLegal M c r tick
      tick_legal = record {
        m = y.m;
        is_floor = is_floor;
        outboxes = λ s k e b. no_message sys limit c xs of s k;
        links = link_legal sys (floor M c y.m) r tick
            (λ l b e sent f. let z = sender l b in
            cut.each l b e z.0 z.1 sent (subst (λ (v : ℕ). v ≤ sent) (floor_is (sys.sender l) y.m z.0 z.1) f));
      }

      tick_greatest : (other : ℕ) → IsLegal M c r other → IsInReach M horizon c other → IsNear M cap c other → other ≤ tick
      tick_greatest other legal reach near =
          let in_range : other ≤ horizon = reach.in_range in
          let a = reach_last other reach in
          let b = near_cap other near in_range in
          cut.greatest other (omega arith) (λ l s e x g sent f. late l s e x g sent f)
        where
          links : NoneBefore sys (floor M c legal.m) r other
          links = legal_link sys (floor M c legal.m) r other legal.links

          late : (l : ℕ) → l < sys.links → sys.receiver l ≡ r → (x : X) → slice_get xs (sys.sender l) ≡ Some x
              → (sent : ℕ) → floor_of (stop x) (clock x) y.m ≤ sent → other ≤ sys.arrival l sent
          late l s e x g sent f =
              let later : sent < sys.arrival l sent = sound.later l sent s in
              let top : other ≤ horizon = reach.in_range in
              let by : floor_of (stop x) (clock x) legal.m ≤ sent → other ≤ sys.arrival l sent =
              λ h. links l s e sent (subst (λ (v : ℕ). v ≤ sent) (sym (floor_is (sys.sender l) legal.m x g)) h) in
              ⊎_elim
              (λ n. let m_before : y.m ≤ sent = floor_live (stop x) (clock x) y.m sent n f in
              ⊎_elim
              (λ (h : sent < legal.m).
              ⊎_elim
              (λ (w : sent < horizon). let d : sent + 1 ≤ y.m = least_tick legal.m (sent + 1) legal.is_floor (omega arith) (omega arith) in absurd (omega arith))
              (λ (w : horizon ≤ sent). omega arith)
              (cases_lt sent horizon))
              (λ (h : legal.m ≤ sent). by (floor_lower (stop x) (clock x) y.m legal.m sent f h))
              (cases_lt sent legal.m))
              (λ q. by (floor_stopped (stop x) q.0 (clock x) y.m legal.m sent q.1 f))
              (option_cases (stop x))

      tick_over : (m t : ℕ) → IsFloor M c m → t ≤ m + 1 → IsInReach M horizon c t → t ≤ tick
      tick_over m t fl b reach =
          let top : t ≤ horizon = reach.in_range in
          let a = reach_last t reach in
          let d : t - 1 ≤ y.m = least_tick m (t - 1) fl (omega arith) (omega arith) in
          cut.greatest t (omega arith)
          (λ l s e x g sent f.
          let later : sent < sys.arrival l sent = sound.later l sent s in
          ⊎_elim
          (λ n. let h : y.m ≤ sent = floor_live (stop x) (clock x) y.m sent n f in omega arith)
          (λ q. let h : clock x ≤ sent = floor_clock (stop x) (clock x) y.m sent f in
          let w : t ≤ (c (sys.sender l)).clock + 1 = reach.stops (sys.sender l) q.0 (of.stops (sys.sender l) x g ∙ q.1) in
          let v = of.clocks (sys.sender l) x g in omega arith)
          (option_cases (stop x)))

      -- the greater of the clock and that tick
      pub bound_greatest : (at_clock bound : ℕ) → (c r).clock ≡ at_clock → bound ≡ max tick at_clock → IsLegal M c r (c r).clock → IsGreatest M horizon cap c r bound
      bound_greatest at_clock bound e is legal = ⊎_elim by_clock by_tick (cases_lt tick at_clock)
        where
          by_clock : tick < at_clock → IsGreatest M horizon cap c r bound
          by_clock h =
              let f : (c r).clock ≡ bound = omega arith in
              record {
                legal = subst (λ (z : ℕ). IsLegal M c r z) f legal;
                not_back = omega arith;
                in_range = inl (sym f);
                greatest = λ other l a b. let g = tick_greatest other l a b in omega arith;
                over = λ m t fl b a. let g = tick_over m t fl b a in omega arith;
              }

          by_tick : at_clock ≤ tick → IsGreatest M horizon cap c r bound
          by_tick h =
              let f : tick ≡ bound = omega arith in
              let w = cut.within in
              record {
                legal = subst (λ (z : ℕ). IsLegal M c r z) f tick_legal;
                not_back = omega arith;
                in_range = inr (last_reach bound (omega arith), cap_near bound (omega arith));
                greatest = λ other l a b. let g = tick_greatest other l a b in omega arith;
                over = λ m t fl b a. let g = tick_over m t fl b a in omega arith;
              }

    -- What is computed are the greatest bounds, where each resource may stay at its clock.
    pub greatest : ((r : ℕ) → r < count_of sys → IsLegal M c r (c r).clock) → AreGreatest sys limit horizon cap c all
    greatest legal r b =
        let e = of.counted in
        let s = element_at xs r (omega arith) in
        let x = y.each r s.0 s.1 in
        bound_greatest r x.tick x.links (clock s.0) (slice_index all r) (of.clocks r s.0 s.1) x.is (legal r b)

  -- ---- Passes

  -- One stop more.
  module _ (xs : List X) (top : ℕ) where
    stop_less : (i a b : ℕ) → b ≤ a → StopAllows clock stop xs i a → StopAllows clock stop xs i b
    stop_less i a b h g x s q e = let f = g x s q e in omega arith

    pub stop_live : (i last : ℕ) (x : X) → IsCut (StopAllows clock stop xs) top i last → slice_get xs i ≡ Some x → stop x ≡ None → IsCut (StopAllows clock stop xs) top (i + 1) last
    stop_live i last x c s e =
        cut_kept (StopAllows clock stop xs) top i last c
        (λ y t q f. absurd (none_some _ _ e (ap stop (sym (same_Some y x (sym t ∙ s))) ∙ f)))

    pub stop_taken : (i last less : ℕ) (x : X) (reason : Reason) → IsCut (StopAllows clock stop xs) top i last → slice_get xs i ≡ Some x
        → stop x ≡ Some reason → less ≡ min last (clock x + 1) → IsCut (StopAllows clock stop xs) top (i + 1) less
    stop_taken i last less x reason c s e is =
        cut_more (StopAllows clock stop xs) top i last less c (omega arith)
        (λ j h. stop_less j last less (omega arith) h)
        (λ y t q f. let d : clock y ≡ clock x = ap clock (same_Some y x (sym t ∙ s)) in omega arith)
        (λ other l h. let g : other ≤ clock x + 1 = h x s reason e in omega arith)

  -- The least event is a cut of the events.
  pub events_cut : (xs : List X) (top m : ℕ) → m ≤ top → ((i : ℕ) (x : X) → slice_get xs i ≡ Some x → Rests x m)
      → (m < top → (i : ℕ) × (x : X) × (slice_get xs i ≡ Some x) × ((t : ℕ) → Rests x t → t ≤ m)) → IsCut (EventsAllow xs) top (length xs) m
  events_cut xs top m b rests there = record {
    within = b;
    each = λ i d x s. rests i x s;
    greatest = λ other d h.
        ⊎_elim
        (λ l. let t = there l in t.3 other (h t.0 (slice_get_within xs t.0 t.1 t.2) t.1 t.2))
        (λ l. omega arith)
        (cases_lt m top);
  }

  -- One link more.
  module _ (sys : System) (xs : List X) (m top r : ℕ) where
    link_less : (l a b : ℕ) → b ≤ a → LinkAllows clock stop sys xs m r l a → LinkAllows clock stop sys xs m r l b
    link_less l a b h g e x s sent f = let i = g e x s sent f in omega arith

    moved : (x y : X) (s : ℕ) → slice_get xs s ≡ Some x → slice_get xs s ≡ Some y → (sent : ℕ) → floor_of (stop y) (clock y) m ≤ sent → floor_of (stop x) (clock x) m ≤ sent
    moved x y s e f sent h = subst (λ (z : X). floor_of (stop z) (clock z) m ≤ sent) (same_Some y x (sym f ∙ e)) h

    pub link_other : (l v : ℕ) → IsCut (LinkAllows clock stop sys xs m r) top l v → (sys.receiver l ≡ r → ⊥) → IsCut (LinkAllows clock stop sys xs m r) top (l + 1) v
    link_other l v c n = cut_kept (LinkAllows clock stop sys xs m r) top l v c (λ e. absurd (n e))

    -- on a link on which nothing is sent before the top nothing arrives before it either
    pub link_past : (l v : ℕ) (x : X) → IsCut (LinkAllows clock stop sys xs m r) top l v → ((sent : ℕ) → sent < sys.arrival l sent)
        → slice_get xs (sys.sender l) ≡ Some x → top ≤ floor_of (stop x) (clock x) m → IsCut (LinkAllows clock stop sys xs m r) top (l + 1) v
    link_past l v x c later s b =
        cut_kept (LinkAllows clock stop sys xs m r) top l v c
        (λ e y t sent f. let w = c.within in let g = moved x y (sys.sender l) s t sent f in let h = later sent in omega arith)

    pub link_here : (l v e : ℕ) (x : X) (table : List Entry) → IsCut (LinkAllows clock stop sys xs m r) top l v → sys.receiver l ≡ r
        → slice_get xs (sys.sender l) ≡ Some x → ((sent : ℕ) → sys.arrival l sent ≡ arrival_at table sent)
        → IsEarliest table (floor_of (stop x) (clock x) m) e → IsCut (LinkAllows clock stop sys xs m r) top (l + 1) (min v e)
    link_here l v e x table c at s same is =
        cut_more (LinkAllows clock stop sys xs m r) top l v (min v e) c (omega arith)
        (λ i h. link_less i v (min v e) (omega arith) h)
        (λ q y t sent f. earliest_allows sys table l (floor_of (stop x) (clock x) m) e same is (min v e) sent (omega arith) (moved x y (sys.sender l) s t sent f))
        (λ other b h. let g : other ≤ e = earliest_greatest sys table l (floor_of (stop x) (clock x) m) e same is other (λ sent f. h at x s sent f) in omega arith)

  -- One link more, at the indexes of all resources.
  module _ (sys : System) (xs : List X) (m top : ℕ) where
    abbrev pub AreCut : (count : ℕ) → List ℕ → Type 0
    AreCut count all = (r : ℕ) → r < length all → IsCut (LinkAllows clock stop sys xs m r) top count (slice_index all r)

    pub cuts_first : (n r : ℕ) → r < n → IsCut (LinkAllows clock stop sys xs m r) top 0 (slice_index (replicate n top) r)
    cuts_first n r b =
        subst (λ (v : ℕ). IsCut (LinkAllows clock stop sys xs m r) top 0 v) (sym (get_or-replicate n r top 0 b)) (cut_none (LinkAllows clock stop sys xs m r) top)

    pub cuts_past : (l : ℕ) (all : List ℕ) (x : X) → AreCut l all → ((sent : ℕ) → sent < sys.arrival l sent)
        → slice_get xs (sys.sender l) ≡ Some x → top ≤ floor_of (stop x) (clock x) m → AreCut (l + 1) all
    cuts_past l all x c later s b r d = link_past sys xs m top r l (slice_index all r) x (c r d) later s b

    pub cuts_here : (l e : ℕ) (all : List ℕ) (x : X) (table : List Entry) → AreCut l all → sys.receiver l < length all
        → slice_get xs (sys.sender l) ≡ Some x → ((sent : ℕ) → sys.arrival l sent ≡ arrival_at table sent)
        → IsEarliest table (floor_of (stop x) (clock x) m) e → AreCut (l + 1) (set all (sys.receiver l) (min (slice_index all (sys.receiver l)) e))
    cuts_here l e all x table c low s same is r d =
        let q = sys.receiver l in
        let v = min (slice_index all q) e in
        let n = length-set all q v in
        ⊎_elim
        (λ (f : q ≡ r).
        let g : slice_index (set all q v) r ≡ v = ap (λ z. slice_index (set all q v) z) (sym f) ∙ get_or-set_same all q v 0 low in
        let h : IsCut (LinkAllows clock stop sys xs m q) top (l + 1) v = link_here sys xs m top q l (slice_index all q) e x table (c q low) refl s same is in
        subst (λ (z : ℕ). IsCut (LinkAllows clock stop sys xs m r) top (l + 1) z) (sym g) (subst (λ (z : ℕ). IsCut (LinkAllows clock stop sys xs m z) top (l + 1) v) f h))
        (λ (f : q ≡ r → ⊥).
        let g : slice_index (set all q v) r ≡ slice_index all r = get_or-set_other all q r v 0 (λ z. f (sym z)) in
        subst (λ (z : ℕ). IsCut (LinkAllows clock stop sys xs m r) top (l + 1) z) (sym g) (link_other sys xs m top r l (slice_index all r) (c r (omega arith)) f))
        (cases_eq q r)
