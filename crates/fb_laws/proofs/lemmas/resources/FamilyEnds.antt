-- The family of runs of a sequential simulation, whether it ends at the horizon or by a reason.
use Rattle.fb_laws.proofs.lemmas.Common.{◌≡◌, ℕ, ◌+◌, ◌<◌, ◌≤◌, ◌⊎◌, Bool, true, false, Option, Some, None, List, [], ◌∷◌, ◌++◌, refl, sym, ap, ◌∙◌, subst, inl, inr, ⊎_elim, arith, if◌then◌else◌, ◌==◌, cases_lt, cases_eq, cond-true, cond-false, lt-ltb, le-ltb, Key, Precedes, or_else, found, Machine, Item, Each, sent_by, at, World, TakesLeast, next, Simulates, last, Simulation, IsOpening, view, reach, StopsAt, IsLawful}
use Rattle.fb_laws.specs.Worlds.{IndexBefore, IndexUpTo}
use Rattle.fb_types.proofs.lemmas.lists.Lookups.{tick_before, resource_before, or_else_none, or_else_nones, none_some, none_since, option_cases, found-append, without_none, edit_none}
use Rattle.fb_types.proofs.lemmas.lists.EachLaws.{each_map}
use Rattle.fb_laws.proofs.lemmas.takings.NoLesserTick.{Fair}
use Rattle.fb_laws.proofs.lemmas.resources.Families.{Family, start}
use Rattle.fb_laws.proofs.lemmas.resources.Global.{with_at_same, with_at_other, at_mine, at_other, least_fair, sim_fair, Like, like_waiting, like_chain}

module _ (M : Machine) where
  abbrev NoneBefore : Key → World M → Type 0
  NoneBefore k w = (z : Key) → IndexBefore z k → w.agenda z ≡ None

  up_to_tick : (x y : Key) → IndexUpTo x y → x.tick ≤ y.tick
  up_to_tick x y h = ⊎_elim (λ e. omega arith) (λ e. let f = e.0 in omega arith) h

  index_before : (x y : Key) → IndexBefore x y → Precedes x y
  index_before x y h = ⊎_elim (λ e. tick_before x y e) (λ e. resource_before x y e.0 e.1) h

  index_trans : (x y z : Key) → IndexBefore x y → IndexUpTo y z → IndexBefore x z
  index_trans x y z h g =
      ⊎_elim
      (λ a. ⊎_elim (λ b. inl (omega arith)) (λ b. let c = b.0 in inl (omega arith)) g)
      (λ a. let d = a.0 in let e = a.1 in ⊎_elim (λ b. inl (omega arith)) (λ b. let c = b.0 in let f = b.1 in inr (omega arith, omega arith)) g)
      h

  next_none : IsLawful M → (w : World M) (i : Item M) → TakesLeast M w i → NoneBefore i.key (next M w i)
  next_none law w i x z h =
      let f = least_fair M law w i x in
      or_else_nones _ _
      (none_since _ (λ v q. let a : i.key.tick < z.tick = law.arrives_later z i.key.tick (f.sent_arrives z v q) in ⊎_elim (λ b. omega arith) (λ b. let c = b.0 in omega arith) h))
      (edit_none _ _
      (λ v q. let a : i.key.tick ≤ z.tick = f.edits_later z v q in let e : z.resource ≡ i.key.resource = f.edits_own z (Some v) q in
      ⊎_elim (λ b. omega arith) (λ b. let c = b.1 in omega arith) h)
      (without_none i.key w.agenda z (x.least z (index_before z i.key h))))

  least_above : (k : Key) (w : World M) (i : Item M) → TakesLeast M w i → NoneBefore k w → IndexUpTo k i.key
  least_above k w i x h =
      ⊎_elim
      (λ a. inl a)
      (λ a. ⊎_elim
      (λ b. absurd (none_some _ _ (h i.key (inl b)) x.waits))
      (λ b. ⊎_elim (λ c. absurd (none_some _ _ (h i.key (inr (omega arith, c))) x.waits)) (λ c. inr (omega arith, c)) (cases_lt i.key.resource k.resource))
      (cases_lt i.key.tick k.tick))
      (cases_lt k.tick i.key.tick)

  -- the ticks and resources of the takings rise
  pub sim_above : IsLawful M → (k : Key) (is : List (Item M)) (w : World M) → NoneBefore k w → Simulates M w is → Each (λ (i : Item M). IndexUpTo k i.key) is
  sim_above law k [] w h x = tt
  sim_above law k (i ∷ is) w h x =
      let b = least_above k w i x.0 h in
      (b, sim_above law k is (next M w i) (λ z u. next_none law w i x.0 z (index_trans z k i.key u b)) x.1)

  pub sim_after : IsLawful M → (w : World M) (i : Item M) (is : List (Item M)) → Simulates M w (i ∷ is) → Each (λ (j : Item M). IndexUpTo i.key j.key) is
  sim_after law w i is x = sim_above law i.key is (next M w i) (next_none law w i x.0) x.1

  -- after the last take nothing is left before its tick and resource, and none that was taken is past them
  pub sim_last : IsLawful M → (front : List (Item M)) (j : Item M) (w : World M) → Simulates M w (front ++ j ∷ []) → NoneBefore j.key (last M w (front ++ j ∷ [])) × Each (λ (i : Item M). IndexUpTo i.key j.key) (front ++ j ∷ [])
  sim_last law [] j w x = (next_none law w j x.0, (inr (refl, omega arith), tt))
  sim_last law (i ∷ front) j w x =
      let y = sim_last law front j (next M w i) x.1 in
      let b = sim_above law i.key (front ++ j ∷ []) (next M w i) (next_none law w i x.0) x.1 in
      (y.0, (last_of front b, y.1))
    where
      last_of : (front : List (Item M)) → Each (λ (z : Item M). IndexUpTo i.key z.key) (front ++ j ∷ []) → IndexUpTo i.key j.key
      last_of [] h = h.0
      last_of (z ∷ zs) h = last_of zs h.1

  pub live_next : (i : Item M) (w : World M) → ((r : ℕ) → w.stops r ≡ None) → i.out.stop ≡ None → (r : ℕ) → (next M w i).stops r ≡ None
  live_next i w h n r = ⊎_elim (λ e. with_at_same i.key.resource i.out.stop w.stops r e ∙ n) (λ e. with_at_other i.key.resource i.out.stop w.stops r e ∙ h r) (cases_eq r i.key.resource)

  -- a simulation ends with nothing stopped, or by its last item
  pub sim_ends : (is : List (Item M)) (w : World M) → Simulates M w is → ((r : ℕ) → w.stops r ≡ None) → ((r : ℕ) → (last M w is).stops r ≡ None) ⊎ StopsAt M is
  sim_ends [] w x h = inl h
  sim_ends (i ∷ is) w x h =
      ⊎_elim
      (λ n. ⊎_elim (λ e. inl e) (λ s. inr (later i is s)) (sim_ends is (next M w i) x.1 (λ r. live i w h n r)))
      (λ s. inr (here is i s.0 s.1 x.1))
      (option_cases i.out.stop)
    where
      live : (i : Item M) (w : World M) → ((r : ℕ) → w.stops r ≡ None) → i.out.stop ≡ None → (r : ℕ) → (next M w i).stops r ≡ None
      live i w h n r = ⊎_elim (λ e. with_at_same i.key.resource i.out.stop w.stops r e ∙ n) (λ e. with_at_other i.key.resource i.out.stop w.stops r e ∙ h r) (cases_eq r i.key.resource)

      later : (i : Item M) (is : List (Item M)) → StopsAt M is → StopsAt M (i ∷ is)
      later i is s = record { front = i ∷ s.front; item = s.item; reason = s.reason; split = ap (λ z. i ∷ z) s.split; stops = s.stops }

      here : (is : List (Item M)) (i : Item M) (reason : M.Reason) → i.out.stop ≡ Some reason → Simulates M (next M w i) is → StopsAt M (i ∷ is)
      here [] i reason e x = record { front = []; item = i; reason = reason; split = refl; stops = e }
      here (j ∷ is) i reason e x = absurd (none_some _ _ (sym (with_at_same i.key.resource i.out.stop w.stops i.key.resource refl) ∙ x.0.live i.key.resource) e)

  pub each_at : (P : Item M → Type 0) (r : ℕ) (is : List (Item M)) → Each P is → Each (λ (i : Item M). P i × (i.key.resource ≡ r)) (at M r is)
  each_at P r [] h = tt
  each_at P r (i ∷ is) h =
      let y = each_at P r is h.1 in
      ⊎_elim (λ e. rw (at_mine M r i is e) ((h.0, e), y)) (λ n. rw (at_other M r i is n) y) (cases_eq i.key.resource r)

  pub found_at : (k : Key) (is : List (Item M)) → Each (λ (i : Item M). Fair M i.key.resource i) is → found k (sent_by M is) ≡ found k (sent_by M (at M (M.sender k) is))
  found_at k [] f = refl
  found_at k (i ∷ is) f =
      let y = found_at k is f.1 in
      ⊎_elim
      (λ e. rw (at_mine M (M.sender k) i is e, found-append k i.out.sent (sent_by M is), found-append k i.out.sent (sent_by M (at M (M.sender k) is)), y))
      (λ n. let p : found k i.out.sent ≡ None = none_since _ (λ v q. n (sym (f.0.sent_own k v q))) in
      rw (at_other M (M.sender k) i is n, found-append k i.out.sent (sent_by M is), p, or_else_none (found k (sent_by M is))) y)
      (cases_eq i.key.resource (M.sender k))

  -- the start of each resource, with all that comes
  pub like_start : (w : World M) (is : List (Item M)) (r : ℕ) → IsOpening M w → Like M r (start M (view M w r) (λ k. found k (sent_by M is))) w is
  like_start w is r o = record {
    part = refl;
    stop = refl;
    own = λ k e. refl;
    inbox = λ k e. sym (ap (λ z. or_else (found k (sent_by M is)) z) (empty k) ∙ or_else_none (found k (sent_by M is)));
  }
    where
      empty_if : (b : Bool) (a : Option M.Event) → (b ≡ true → a ≡ None) → (if b then a else None) ≡ None
      empty_if true a h = h refl
      empty_if false a h = refl

      empty : (k : Key) → (if k.class == 2 then w.agenda k else None) ≡ None
      empty k = empty_if (k.class == 2) (w.agenda k) (o.quiet k)

  -- a simulation is a family, to bounds that its last world has reached
  family_of : IsLawful M → (w : World M) (is : List (Item M)) (bound : ℕ → ℕ) → IsOpening M w → Simulates M w is →
      ((r : ℕ) → Each (λ (i : Item M). i.key.tick < bound r) (at M r is)) →
      ((r : ℕ) → (last M w is).stops r ≡ None → (k : Key) → k.resource ≡ r → k.tick < bound r → (last M w is).agenda k ≡ None) →
      ((k : Key) (u : ℕ) → M.Arrives k u → bound (M.sender k) ≤ u → bound k.resource ≤ k.tick) → Family M (view M w)
  family_of law w is bound o x b z c = record {
    runs = λ r. at M r is;
    bound = bound;
    heard = λ r k. found k (sent_by M is);
    run = λ r. let y = like_chain M law r is _ w x (like_start w is r o) in
        record { chain = y.0; below = b r; rests = λ s k e d. like_waiting M r _ (last M w is) [] y.1 k e refl ∙ z r (sym y.1.stop ∙ s) k e d };
    arrived = λ r k e d. found_at k is (sim_fair M law is w x);
    closed = c;
  }

  pub reach_low : (k : Key) (r : ℕ) → k.resource < r → reach M k r ≡ k.tick
  reach_low k r h = cond-true _ _ _ (lt-ltb k.resource r h)

  pub reach_high : (k : Key) (r : ℕ) → r ≤ k.resource → reach M k r ≡ k.tick + 1
  reach_high k r h = cond-false _ _ _ (le-ltb k.resource r h)

  pub reach_least : (k : Key) (r : ℕ) → k.tick ≤ reach M k r
  reach_least k r = ⊎_elim (λ h. let e = reach_low k r h in omega arith) (λ h. let e = reach_high k r h in omega arith) (cases_lt k.resource r)

  pub reach_most : (k : Key) (r : ℕ) → reach M k r ≤ k.tick + 1
  reach_most k r = ⊎_elim (λ h. let e = reach_low k r h in omega arith) (λ h. let e = reach_high k r h in omega arith) (cases_lt k.resource r)

  pub stop_facts : IsLawful M → (is : List (Item M)) (w : World M) → Simulates M w is → (s : StopsAt M is) → NoneBefore s.item.key (last M w is) × Each (λ (i : Item M). IndexUpTo i.key s.item.key) is
  stop_facts law is w x s =
      subst (λ (z : List (Item M)). NoneBefore s.item.key (last M w z) × Each (λ (i : Item M). IndexUpTo i.key s.item.key) z) (sym s.split)
      (sim_last law s.front s.item w (subst (λ (z : List (Item M)). Simulates M w z) s.split x))

  last_stops : (front : List (Item M)) (j : Item M) (w : World M) → (last M w (front ++ j ∷ [])).stops j.key.resource ≡ j.out.stop
  last_stops [] j w = with_at_same j.key.resource j.out.stop w.stops j.key.resource refl
  last_stops (i ∷ front) j w = last_stops front j (next M w i)

  pub stop_stops : (is : List (Item M)) (w : World M) (s : StopsAt M is) → (last M w is).stops s.item.key.resource ≡ Some s.reason
  stop_stops is w s = ap (λ z. (last M w z).stops s.item.key.resource) s.split ∙ last_stops s.front s.item w ∙ s.stops

  up_to_reach : (x j : Key) (r : ℕ) → IndexUpTo x j → x.resource ≡ r → x.tick < reach M j r
  up_to_reach x j r h e =
      let le = up_to_tick x j h in
      ⊎_elim
      (λ b. let f = reach_low j r b in ⊎_elim (λ c. omega arith) (λ c. let d = c.1 in absurd (omega arith)) h)
      (λ b. let f = reach_high j r b in omega arith)
      (cases_lt j.resource r)

  reach_none : IsLawful M → (is : List (Item M)) (w : World M) → Simulates M w is → (s : StopsAt M is) → (r : ℕ) → (last M w is).stops r ≡ None → (k : Key) → k.resource ≡ r → k.tick < reach M s.item.key r → (last M w is).agenda k ≡ None
  reach_none law is w x s r q k e d =
      let j = s.item.key in
      let none = (stop_facts law is w x s).0 in
      ⊎_elim
      (λ b. let f = reach_low j r b in none k (inl (omega arith)))
      (λ b. let f = reach_high j r b in
      ⊎_elim
      (λ z. absurd (none_some _ _ (subst (λ y. (last M w is).stops y ≡ None) z q) (stop_stops is w s)))
      (λ (z : r ≡ j.resource → ⊥).
      let lt : k.resource < j.resource = omega arith in
      ⊎_elim (λ c. none k (inl c)) (λ (c : j.tick ≤ k.tick). none k (inr (omega arith, lt))) (cases_lt k.tick j.tick))
      (cases_eq r j.resource))
      (cases_lt j.resource r)

  -- up to which tick the simulation goes for each resource, and the family to there
  pub record Story (w : World M) (horizon : ℕ) (is : List (Item M)) : Type 0 where
    pub family : Family M (view M w)
    pub runs_are : (r : ℕ) → family.runs r ≡ at M r is
    pub heard_is : (r : ℕ) (k : Key) → family.heard r k ≡ found k (sent_by M is)
    pub ends : (((r : ℕ) → (last M w is).stops r ≡ None) × ((r : ℕ) → family.bound r ≡ horizon)) ⊎ ((s : StopsAt M is) × ((r : ℕ) → family.bound r ≡ reach M s.item.key r))

  pub story : IsLawful M → (w : World M) (horizon : ℕ) (is : List (Item M)) → IsOpening M w → Simulation M w horizon is → Story w horizon is
  unfolding family_of
  story law w horizon is o x = ⊎_elim at_end stopped (sim_ends is w x.chain o.live)
    where
      at_end : ((r : ℕ) → (last M w is).stops r ≡ None) → Story w horizon is
      at_end live = record {
        family = family_of law w is (λ r. horizon) o x.chain
            (λ r. each_map _ _ (at M r is) (λ i p. p.0) (each_at _ r is x.below))
            (λ r s k e d. x.ends live k d)
            (λ k u a b. let c : u < k.tick = law.arrives_later k u a in omega arith);
        runs_are = λ r. refl;
        heard_is = λ r k. refl;
        ends = inl (live, λ r. refl);
      }

      stopped : StopsAt M is → Story w horizon is
      stopped s = record {
        family = family_of law w is (reach M s.item.key) o x.chain
            (λ r. each_map _ _ (at M r is) (λ i p. up_to_reach i.key s.item.key r p.0 p.1) (each_at _ r is (stop_facts law is w x.chain s).1))
            (λ r q k e d. reach_none law is w x.chain s r q k e d)
            (λ k u a b. let c : u < k.tick = law.arrives_later k u a in let p = reach_least s.item.key (M.sender k) in let q = reach_most s.item.key k.resource in omega arith);
        runs_are = λ r. refl;
        heard_is = λ r k. refl;
        ends = inr (s, λ r. refl);
      }
