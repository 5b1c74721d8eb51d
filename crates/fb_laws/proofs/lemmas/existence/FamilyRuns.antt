-- The runs of a family put together are a simulation.
use Rattle.fb_laws.proofs.lemmas.Common.{◌≡◌, ℕ, zero, suc, ◌+◌, ◌<◌, ◌≤◌, ◌⊎◌, Bool, true, false, Option, Some, None, List, [], ◌∷◌, length, refl, sym, ap, ◌∙◌, subst, inl, inr, ⊎_elim, arith, if◌then◌else◌, ◌==◌, cases_lt, cases_eq, Key, Precedes, same_key, or_else, found, without, changed_to, Machine, Item, Local, Each, waiting, TakesAlone, end, Run, sent_by, cut, with_at, after, Chain, IsLawful, World, TakesLeast, next, Simulation, IsOpening, view, IsCounted}
use Rattle.fb_types.specs.Machines.{Rests}
use Rattle.fb_types.proofs.lemmas.events.KeyLaws.{same_key_is}
use Rattle.fb_types.proofs.lemmas.lists.Lookups.{before_cases, before_irrefl, key_cases, before_tick, tick_before, before_trans, same_cases, none_some, none_since, option_cases, or_else_none, or_else_nones, or_else_parts, found-append, without_other}
use Rattle.fb_laws.proofs.lemmas.resources.Chains.{cut_run}
use Rattle.fb_types.proofs.lemmas.lists.EachLaws.{each_map, each_both}
use Rattle.fb_laws.proofs.lemmas.takings.NoLesserTick.{Fair, chain_fair, takes_late, chain_late, found_none, found_cut}
use Rattle.fb_laws.proofs.lemmas.resources.Families.{Family, start}
use Rattle.fb_laws.proofs.lemmas.resources.Global.{with_at_same, with_at_other, least_fair, split_class, clash, clash', own_step, inbox_step, false≢true', true≢false'}
use Rattle.fb_laws.proofs.lemmas.resources.FamilyEnds.{live_next}
use Rattle.fb_laws.proofs.lemmas.resources.Stops.{counted_next}

put_two : {A B : Type 0} (P : ℕ → A → B → Type 0) (r : ℕ) (x : A) (f : ℕ → A) (y : B) (g : ℕ → B) (q : ℕ) → (q ≡ r → P q x y) → ((q ≡ r → ⊥) → P q (f q) (g q)) → P q (with_at r x f q) (with_at r y g q)
put_two {A} {B} P r x f y g q h k =
    ⊎_elim
    (λ e. subst (λ (v : A). P q v (with_at r y g q)) (sym (with_at_same r x f q e)) (subst (λ (v : B). P q x v) (sym (with_at_same r y g q e)) (h e)))
    (λ n. subst (λ (v : A). P q v (with_at r y g q)) (sym (with_at_other r x f q n)) (subst (λ (v : B). P q (f q) v) (sym (with_at_other r y g q n)) (k n)))
    (cases_eq q r)

module _ (M : Machine) where
  abbrev total : ℕ → (ℕ → List (Item M)) → ℕ
  total zero rs = 0
  total (suc n) rs = length (rs n) + total n rs

  total_past : (n r : ℕ) (is : List (Item M)) (rs : ℕ → List (Item M)) → n ≤ r → total n (with_at r is rs) ≡ total n rs
  total_past zero r is rs b = refl
  total_past (suc n) r is rs b =
      let e : with_at r is rs n ≡ rs n = with_at_other r is rs n (λ e. omega arith) in
      let f = ap (λ z. length z) e in
      let g = total_past n r is rs (omega arith) in omega arith

  total_put : (n r : ℕ) (i : Item M) (is : List (Item M)) (rs : ℕ → List (Item M)) → r < n → rs r ≡ i ∷ is → total n (with_at r is rs) + 1 ≡ total n rs
  total_put zero r i is rs b e = absurd (omega arith)
  total_put (suc n) r i is rs b e =
      ⊎_elim
      (λ (d : r ≡ n).
      let f : length (with_at r is rs n) ≡ length is = ap (λ z. length z) (with_at_same r is rs n (sym d)) in
      let g : length (rs n) ≡ length is + 1 = ap (λ z. length (rs z)) (sym d) ∙ ap (λ z. length z) e ∙ (omega arith) in
      let h = total_past n r is rs (omega arith) in omega arith)
      (λ (d : r ≡ n → ⊥).
      let f : length (with_at r is rs n) ≡ length (rs n) = ap (λ z. length z) (with_at_other r is rs n (λ x. d (sym x))) in
      let g = total_put n r i is rs (omega arith) e in omega arith)
      (cases_eq r n)

  -- the least of the next items
  record Least (n : ℕ) (rs : ℕ → List (Item M)) : Type 0 where
    r : ℕ
    item : Item M
    rest : List (Item M)
    below : r < n
    is_next : rs r ≡ item ∷ rest
    least : (q : ℕ) (j : Item M) (js : List (Item M)) → q < n → rs q ≡ j ∷ js → Precedes j.key item.key → ⊥

  heads : (i j : Item M) (is js xs : List (Item M)) → xs ≡ i ∷ is → xs ≡ j ∷ js → i ≡ j
  heads i j is js xs e f = let g : i ∷ is ≡ j ∷ js = sym e ∙ f in cc

  nil_cons : (i : Item M) (is xs : List (Item M)) → xs ≡ [] → xs ≡ i ∷ is → ⊥
  nil_cons i is xs e f = cc

  list_cases : (xs : List (Item M)) → (xs ≡ []) ⊎ ((i : Item M) × (is : List (Item M)) × (xs ≡ i ∷ is))
  list_cases [] = inl refl
  list_cases (i ∷ is) = inr (i, is, refl)

  pick : (n : ℕ) (rs : ℕ → List (Item M)) → ((r : ℕ) → r < n → rs r ≡ []) ⊎ Least n rs
  pick zero rs = inl (λ r b. absurd (omega arith))
  pick (suc n) rs = ⊎_elim none some (pick n rs)
    where
      split : (q : ℕ) → q < suc n → (q ≡ n) ⊎ (q < n)
      split q b = ⊎_elim (λ e. inl e) (λ e. inr (omega arith)) (cases_eq q n)

      none : ((r : ℕ) → r < n → rs r ≡ []) → ((r : ℕ) → r < suc n → rs r ≡ []) ⊎ Least (suc n) rs
      none h =
          ⊎_elim
          (λ e. inl (λ r b. ⊎_elim (λ d. ap rs d ∙ e) (λ d. h r d) (split r b)))
          (λ y. inr (record {
            r = n;
            item = y.0;
            rest = y.1;
            below = omega arith;
            is_next = y.2;
            least = λ q j js b e c. ⊎_elim (λ d. before_irrefl y.0.key (subst (λ (z : Item M). Precedes z.key y.0.key) (heads j y.0 js y.1 (rs n) (ap rs (sym d) ∙ e) y.2) c)) (λ d. nil_cons j js (rs q) (h q d) e) (split q b);
          }))
          (list_cases (rs n))

      some : Least n rs → ((r : ℕ) → r < suc n → rs r ≡ []) ⊎ Least (suc n) rs
      some x =
          ⊎_elim
          (λ e. inr (record {
            r = x.r;
            item = x.item;
            rest = x.rest;
            below = let b : x.r < n = x.below in omega arith;
            is_next = x.is_next;
            least = λ q j js b f c. ⊎_elim (λ d. nil_cons j js (rs n) e (ap rs (sym d) ∙ f)) (λ d. x.least q j js d f c) (split q b);
          }))
          (λ y. ⊎_elim (λ c. inr (record {
            r = n;
            item = y.0;
            rest = y.1;
            below = omega arith;
            is_next = y.2;
            least = λ q j js b f g. ⊎_elim
                (λ d. before_irrefl y.0.key (subst (λ (z : Item M). Precedes z.key y.0.key) (heads j y.0 js y.1 (rs n) (ap rs (sym d) ∙ f) y.2) g))
                (λ d. x.least q j js d f (before_trans j.key y.0.key x.item.key g c)) (split q b);
          }))
          (λ c. inr (record {
            r = x.r;
            item = x.item;
            rest = x.rest;
            below = let b : x.r < n = x.below in omega arith;
            is_next = x.is_next;
            least = λ q j js b f g. ⊎_elim (λ d. c (subst (λ (z : Item M). Precedes z.key x.item.key) (heads j y.0 js y.1 (rs n) (ap rs (sym d) ∙ f) y.2) g)) (λ d. x.least q j js d f g) (split q b);
          }))
          (before_cases y.0.key x.item.key))
          (list_cases (rs n))

  -- a resource with what it will still take, if all that is still to be sent has arrived beforehand
  record Ahead (w : World M) (rs : ℕ → List (Item M)) (t r : ℕ) (l : Local M) (is : List (Item M)) : Type 0 where
    part : l.part ≡ w.parts r
    stop : l.stop ≡ w.stops r
    own : (k : Key) → k.resource ≡ r → l.own k ≡ (if k.class == 2 then None else w.agenda k)
    inbox : (k : Key) → k.resource ≡ r → k.tick < t → l.inbox k ≡ or_else (found k (sent_by M (rs (M.sender k)))) (if k.class == 2 then w.agenda k else None)
    run : Run M r l t is

  record State (count t : ℕ) (w : World M) (rs : ℕ → List (Item M)) (ls : ℕ → Local M) : Type 0 where
    live : (r : ℕ) → w.stops r ≡ None
    counted : IsCounted M count w
    past : (r : ℕ) → count ≤ r → rs r ≡ []
    each : (r : ℕ) → r < count → Ahead w rs t r (ls r) (rs r)

  -- what is still to be sent arrives after the next item
  quiet : IsLawful M → (count t : ℕ) (w : World M) (rs : ℕ → List (Item M)) (ls : ℕ → Local M) → State count t w rs ls → (x : Least count rs) → (k : Key) → k.tick ≤ x.item.key.tick → (s : ℕ) → found k (sent_by M (rs s)) ≡ None
  quiet law count t w rs ls st x k b s =
      ⊎_elim
      (λ c. ⊎_elim
      (λ e. ap (λ z. found k (sent_by M z)) e)
      (λ y.
      let a = st.each s c in
      let j = y.0 in
      let ch : Chain M s (ls s) (j ∷ y.1) = subst (λ (z : List (Item M)). Chain M s (ls s) z) y.2 a.run.chain in
      let late : Each (λ (i : Item M). j.key.tick ≤ i.key.tick) (j ∷ y.1) = chain_late M law s j.key.tick (j ∷ y.1) (ls s) (takes_late M s (ls s) j ch.0) ch in
      let first : x.item.key.tick ≤ j.key.tick = ⊎_elim (λ d. absurd (x.least s j y.1 c y.2 (tick_before j.key x.item.key d))) (λ d. d) (cases_lt j.key.tick x.item.key.tick) in
      ap (λ z. found k (sent_by M z)) y.2 ∙ found_none M k (j ∷ y.1) (each_both _ _ _ (j ∷ y.1) (λ (i : Item M) (l : j.key.tick ≤ i.key.tick) (f : Fair M s i). none_since _ (λ v q. let z : i.key.tick < k.tick = law.arrives_later k i.key.tick (f.sent_arrives k v q) in omega arith)) late (chain_fair M law s (j ∷ y.1) (ls s) ch)))
      (list_cases (rs s)))
      (λ c. ap (λ z. found k (sent_by M z)) (st.past s c))
      (cases_lt s count)

  ahead_waiting : (w : World M) (rs : ℕ → List (Item M)) (t r : ℕ) (l : Local M) (is : List (Item M)) → Ahead w rs t r l is → (k : Key) → k.resource ≡ r → k.tick < t → found k (sent_by M (rs (M.sender k))) ≡ None → waiting M l k ≡ w.agenda k
  ahead_waiting w rs t r l is h k e b n =
      let p : l.inbox k ≡ (if k.class == 2 then w.agenda k else None) = h.inbox k e b ∙ ap (λ o. or_else o (if k.class == 2 then w.agenda k else None)) n in
      rw (h.own k e, p) (split_class M (k.class == 2) (w.agenda k))

  -- the least of the next items is the one that the simulation takes
  takes_it : IsLawful M → (count t : ℕ) (w : World M) (rs : ℕ → List (Item M)) (ls : ℕ → Local M) → State count t w rs ls → (x : Least count rs) → TakesLeast M w x.item
  takes_it law count t w rs ls st x = record {
    live = st.live;
    waits = sym (ahead_waiting w rs t x.r (ls x.r) (rs x.r) a i.key tk.mine bl (none i.key (omega arith))) ∙ tk.waits;
    least = λ k b. let le = before_tick k i.key b in let under = bl in ⊎_elim (λ c. sym (ahead_waiting w rs t k.resource (ls k.resource) (rs k.resource) (st.each k.resource c) k refl (omega arith) (none k le)) ∙ nothing k b c) (λ c. st.counted.agenda k c) (cases_lt k.resource count);
    fits = tk.fits;
    gives = subst (λ (p : M.Part). M.Gives p i.key i.event i.out) (a.part ∙ ap w.parts (sym tk.mine)) tk.gives;
  }
    where
      i : Item M
      i = x.item

      a : Ahead w rs t x.r (ls x.r) (rs x.r)
      a = st.each x.r x.below

      tk : TakesAlone M x.r (ls x.r) i
      tk = (subst (λ (z : List (Item M)). Chain M x.r (ls x.r) z) x.is_next a.run.chain).0

      bl : i.key.tick < t
      bl = (subst (λ (z : List (Item M)). Each (λ (j : Item M). j.key.tick < t) z) x.is_next a.run.below).0

      none : (k : Key) → k.tick ≤ i.key.tick → found k (sent_by M (rs (M.sender k))) ≡ None
      none k b = quiet law count t w rs ls st x k b (M.sender k)

      nothing : (k : Key) → Precedes k i.key → k.resource < count → waiting M (ls k.resource) k ≡ None
      nothing k b c =
          let r = k.resource in
          let y = st.each r c in
          ⊎_elim
          (λ e. let re : Rests M r t (end M (ls r) []) = subst (λ (z : List (Item M)). Rests M r t (end M (ls r) z)) e y.run.rests in
          let le = before_tick k i.key b in
          let bt = bl in
          re (y.stop ∙ st.live r) k refl (omega arith))
          (λ z. let ch : Chain M r (ls r) (z.0 ∷ z.1) = subst (λ (u : List (Item M)). Chain M r (ls r) u) z.2 y.run.chain in
          ch.0.least k refl (⊎_elim (λ e. subst (λ (u : Key). Precedes k u) e b) (λ d. ⊎_elim (λ f. before_trans k i.key z.0.key b f) (λ f. absurd (x.least r z.0 z.1 c z.2 f)) d) (key_cases i.key z.0.key)))
          (list_cases (rs r))

  -- and leaves such a state
  goes_on : IsLawful M → (count t : ℕ) (w : World M) (rs : ℕ → List (Item M)) (ls : ℕ → Local M) → State count t w rs ls → (x : Least count rs) → x.item.out.stop ≡ None →
      State count t (next M w x.item) (with_at x.r x.rest rs) (with_at x.r (after M (ls x.r) x.item) ls)
  goes_on law count t w rs ls st x n = record {
    live = live_next M i w st.live n;
    counted = counted_next M law count w i st.counted f (let b : x.r < count = x.below in let m = mine in omega arith);
    past = λ q b. with_at_other x.r x.rest rs q (λ e. let c : x.r < count = x.below in omega arith) ∙ st.past q b;
    each = λ q b. put_two (λ z l js. Ahead w' rs' t z l js) x.r (after M (ls x.r) i) ls x.rest rs q (λ e. subst (λ (z : ℕ). Ahead w' rs' t z (after M (ls x.r) i) x.rest) (sym e) own_ahead) (λ e. other_ahead q b e);
  }
    where
      i : Item M
      i = x.item

      w' : World M
      w' = next M w i

      rs' : ℕ → List (Item M)
      rs' = with_at x.r x.rest rs

      a : Ahead w rs t x.r (ls x.r) (rs x.r)
      a = st.each x.r x.below

      run : Run M x.r (ls x.r) t (i ∷ x.rest)
      run = subst (λ (z : List (Item M)). Run M x.r (ls x.r) t z) x.is_next a.run

      mine : i.key.resource ≡ x.r
      mine = run.chain.0.mine

      f : Fair M i.key.resource i
      f = least_fair M law w i (takes_it law count t w rs ls st x)

      -- what was to be sent is sent now, or is still to be sent
      split : (k : Key) → found k (sent_by M (rs (M.sender k))) ≡ or_else (found k (sent_by M (rs' (M.sender k)))) (found k i.out.sent)
      split k =
          ⊎_elim
          (λ (e : M.sender k ≡ x.r).
          let p : rs (M.sender k) ≡ i ∷ x.rest = ap rs e ∙ x.is_next in
          let q : rs' (M.sender k) ≡ x.rest = with_at_same x.r x.rest rs (M.sender k) e in
          ap (λ z. found k (sent_by M z)) p ∙ found-append k i.out.sent (sent_by M x.rest) ∙ ap (λ z. or_else (found k (sent_by M z)) (found k i.out.sent)) (sym q))
          (λ (e : M.sender k ≡ x.r → ⊥).
          let q : rs' (M.sender k) ≡ rs (M.sender k) = with_at_other x.r x.rest rs (M.sender k) e in
          let p : found k i.out.sent ≡ None = none_since _ (λ v y. e (f.sent_own k v y ∙ mine)) in
          sym (or_else_none _) ∙ ap (λ z. or_else (found k (sent_by M z)) None) (sym q) ∙ ap (λ z. or_else (found k (sent_by M (rs' (M.sender k)))) z) (sym p))
          (cases_eq (M.sender k) x.r)

      gone : (k : Key) → same_key i.key k ≡ true → (found k (sent_by M (rs' (M.sender k))) ≡ None) × (found k i.out.sent ≡ None)
      gone k s = or_else_parts _ _ (sym (split k) ∙ quiet law count t w rs ls st x k (let z : i.key.tick ≡ k.tick = ap (λ y. y.tick) (same_key_is i.key k s) in omega arith) (M.sender k))

      no_edit : (k : Key) → (k.class == 2) ≡ true → (i.out.changes k) ≡ None
      no_edit k = clash M k ((i.out.changes k)) false (λ v q. f.edits_class k v q) (false≢true' M)

      no_sent : (k : Key) → (k.class == 2) ≡ false → found k i.out.sent ≡ None
      no_sent k = clash' M k (found k i.out.sent) true (λ v q. f.sent_class k v q) (true≢false' M)

      heard : (r : ℕ) (l : Local M) (is : List (Item M)) → Ahead w rs t r l is → (k : Key) → k.resource ≡ r → k.tick < t → l.inbox k ≡ or_else (or_else (found k (sent_by M (rs' (M.sender k)))) (found k i.out.sent)) (if k.class == 2 then w.agenda k else None)
      heard r l is y k d b = y.inbox k d b ∙ ap (λ o. or_else o (if k.class == 2 then w.agenda k else None)) (split k)

      own_ahead : Ahead w' rs' t x.r (after M (ls x.r) i) x.rest
      own_ahead = record {
        part = sym (with_at_same i.key.resource i.out.part w.parts x.r (sym mine));
        stop = sym (with_at_same i.key.resource i.out.stop w.stops x.r (sym mine));
        own = λ k d. own_step M (k.class == 2) (same_key i.key k) (found k i.out.sent) ((i.out.changes k)) ((ls x.r).own k) (w.agenda k) (a.own k d) (no_edit k) (no_sent k);
        inbox = λ k d b. inbox_step M (k.class == 2) (same_key i.key k) (found k (sent_by M (rs' (M.sender k)))) (found k i.out.sent) ((i.out.changes k)) ((ls x.r).inbox k) (w.agenda k)
            (heard x.r (ls x.r) (rs x.r) a k d b) (no_edit k) (no_sent k) (λ s. (gone k s).0) (λ s. (gone k s).1);
        run = record { chain = run.chain.1; below = run.below.1; rests = run.rests };
      }

      other_ahead : (q : ℕ) → q < count → (q ≡ x.r → ⊥) → Ahead w' rs' t q (ls q) (rs q)
      other_ahead q b n = let y = st.each q b in record {
        part = y.part ∙ sym (with_at_other i.key.resource i.out.part w.parts q (λ e. n (e ∙ mine)));
        stop = y.stop ∙ sym (with_at_other i.key.resource i.out.stop w.stops q (λ e. n (e ∙ mine)));
        own = λ k d. own_step M (k.class == 2) false (found k i.out.sent) None ((ls q).own k) (w.agenda k) (y.own k d) (λ _. refl) (no_sent k) ∙ ap (λ o. if k.class == 2 then None else or_else (found k i.out.sent) o) (sym (kept q n k d));
        inbox = λ k d b. inbox_step M (k.class == 2) false (found k (sent_by M (rs' (M.sender k)))) (found k i.out.sent) None ((ls q).inbox k) (w.agenda k)
            (heard q (ls q) (rs q) y k d b) (λ _. refl) (no_sent k) (λ s. absurd (false≢true' M s)) (λ s. absurd (false≢true' M s)) ∙
            ap (λ o. or_else (found k (sent_by M (rs' (M.sender k)))) (if k.class == 2 then or_else (found k i.out.sent) o else None)) (sym (kept q n k d));
        run = y.run;
      }
        where
          kept : (q : ℕ) → (q ≡ x.r → ⊥) → (k : Key) → k.resource ≡ q → changed_to ((i.out.changes k)) (without i.key w.agenda k) ≡ w.agenda k
          kept q n k d =
              let p : (i.out.changes k) ≡ None = none_since _ (λ v z. n (sym d ∙ f.edits_own k v z ∙ mine)) in
              ap (λ o. changed_to o (without i.key w.agenda k)) p ∙ without_other i.key w.agenda k (⊎_elim (λ z. absurd (n (sym d ∙ sym (ap (λ y. y.resource) z) ∙ mine))) (λ z. z) (same_cases i.key k))

  if_none' : {V : Type 0} (b : Bool) (o : Option V) → o ≡ None → (if b then None else o) ≡ None
  if_none' true o h = refl
  if_none' false o h = h

  idle : (count t : ℕ) (w : World M) (rs : ℕ → List (Item M)) (ls : ℕ → Local M) → State count t w rs ls → ((r : ℕ) → r < count → rs r ≡ []) → Simulation M w t []
  idle count t w rs ls st h = record { chain = tt; below = tt; ends = λ live k b. ⊎_elim (λ c. none k b c) (λ c. st.counted.agenda k c) (cases_lt k.resource count) }
    where
      nothing : (s : ℕ) → rs s ≡ []
      nothing s = ⊎_elim (λ c. h s c) (λ c. st.past s c) (cases_lt s count)

      none : (k : Key) → k.tick < t → k.resource < count → w.agenda k ≡ None
      none k b c =
          let y = st.each k.resource c in
          let re : Rests M k.resource t (ls k.resource) = subst (λ (z : List (Item M)). Rests M k.resource t (end M (ls k.resource) z)) (nothing k.resource) y.run.rests in
          sym (ahead_waiting w rs t k.resource (ls k.resource) (rs k.resource) y k refl b (ap (λ z. found k (sent_by M z)) (nothing (M.sender k)))) ∙ re (y.stop ∙ st.live k.resource) k refl b

  item_below : (count t : ℕ) (w : World M) (rs : ℕ → List (Item M)) (ls : ℕ → Local M) → State count t w rs ls → (x : Least count rs) → x.item.key.tick < t
  item_below count t w rs ls st x = (subst (λ (z : List (Item M)). Each (λ (j : Item M). j.key.tick < t) z) x.is_next (st.each x.r x.below).run.below).0

  one_less : (count : ℕ) (rs : ℕ → List (Item M)) (x : Least count rs) → total count (with_at x.r x.rest rs) + 1 ≡ total count rs
  one_less count rs x = total_put count x.r x.item x.rest rs x.below x.is_next

  pub stopping : (w : World M) (t : ℕ) (i : Item M) (q : M.Reason) → TakesLeast M w i → i.key.tick < t → i.out.stop ≡ Some q → Simulation M w t (i ∷ [])
  stopping w t i q x b e = record {
    chain = (x, tt);
    below = (b, tt);
    ends = λ live k c. absurd (none_some _ _ (live i.key.resource) (with_at_same i.key.resource i.out.stop w.stops i.key.resource refl ∙ e));
  }

  -- so the runs make a simulation
  simulates : IsLawful M → (n count t : ℕ) (w : World M) (rs : ℕ → List (Item M)) (ls : ℕ → Local M) → total count rs ≤ n → State count t w rs ls → (is : List (Item M)) × Simulation M w t is
  simulates law zero count t w rs ls b st =
      ⊎_elim (λ h. ([], idle count t w rs ls st h)) (λ x. absurd (let e = one_less count rs x in omega arith)) (pick count rs)
  simulates law (suc n) count t w rs ls b st =
      ⊎_elim
      (λ h. ([], idle count t w rs ls st h))
      (λ x.
      let tk = takes_it law count t w rs ls st x in
      let under = item_below count t w rs ls st x in
      ⊎_elim
      (λ e.
      let less = one_less count rs x in
      let y = simulates law n count t (next M w x.item) (with_at x.r x.rest rs) (with_at x.r (after M (ls x.r) x.item) ls) (omega arith) (goes_on law count t w rs ls st x e) in
      (x.item ∷ y.0, record { chain = (tk, y.1.chain); below = (under, y.1.below); ends = y.1.ends }))
      (λ q. (x.item ∷ [], stopping w t x.item q.0 tk under q.1))
      (option_cases x.item.out.stop))
      (pick count rs)

  -- a family makes a simulation below a tick that all have reached
  pub from_family : IsLawful M → (count t : ℕ) (w : World M) (a : Family M (view M w)) → IsOpening M w → IsCounted M count w → ((r : ℕ) → r < count → t ≤ a.bound r) → (is : List (Item M)) × Simulation M w t is
  from_family law count t w a o n b =
      simulates law (total count rs) count t w rs ls (omega arith) (record {
        live = o.live;
        counted = n;
        past = λ r c. ap (λ z. cut M t z) (nobody r c);
        each = λ r c. record {
          part = refl;
          stop = refl;
          own = λ k e. refl;
          inbox = λ k e d. heard r c k e d;
          run = cut_run M r t (a.bound r) (a.runs r) (ls r) (b r c) (a.run r);
        };
      })
    where
      rs : ℕ → List (Item M)
      rs r = cut M t (a.runs r)

      ls : ℕ → Local M
      ls r = start M (view M w r) (a.heard r)

      empty : (k : Key) → (if k.class == 2 then w.agenda k else None) ≡ None
      empty k = quiet_if (k.class == 2) (w.agenda k) (o.quiet k)
        where
          quiet_if : (b : Bool) (v : Option M.Event) → (b ≡ true → v ≡ None) → (if b then v else None) ≡ None
          quiet_if true v h = h refl
          quiet_if false v h = refl

      heard : (r : ℕ) → r < count → (k : Key) → k.resource ≡ r → k.tick < t → a.heard r k ≡ or_else (found k (sent_by M (rs (M.sender k)))) (if k.class == 2 then w.agenda k else None)
      heard r c k e d =
          let s = M.sender k in
          let le = b r c in
          let few = each_map (Fair M s) _ (a.runs s) (λ i f (h : t ≤ i.key.tick). none_since _ (λ v q. let z : i.key.tick < k.tick = law.arrives_later k i.key.tick (f.sent_arrives k v q) in omega arith)) (chain_fair M law s (a.runs s) (ls s) (a.run s).chain) in
          a.arrived r k e (omega arith) ∙ sym (found_cut M law s t k (a.runs s) (ls s) (a.run s).chain few) ∙ sym (or_else_none _) ∙ ap (λ z. or_else (found k (sent_by M (rs s))) z) (sym (empty k))

      nobody : (r : ℕ) → count ≤ r → a.runs r ≡ []
      nobody r c =
          ⊎_elim
          (λ e. e)
          (λ y.
          let i = y.0 in
          let ru : Run M r (ls r) (a.bound r) (i ∷ y.1) = subst (λ (z : List (Item M)). Run M r (ls r) (a.bound r) z) y.2 (a.run r) in
          let tk = ru.chain.0 in
          let s = M.sender i.key in
          let m : i.key.resource ≡ r = tk.mine in
          let none = each_map (Fair M s) (λ (j : Item M). found i.key j.out.sent ≡ None) (a.runs s) (λ j f. none_since _ (λ v q. let z : i.key.resource < count = n.links i.key j.key.tick (f.sent_arrives i.key v q) in omega arith)) (chain_fair M law s (a.runs s) (ls s) (a.run s).chain) in
          let p : a.heard r i.key ≡ None = a.arrived r i.key m ru.below.0 ∙ found_none M i.key (a.runs s) none in
          let q : (if i.key.class == 2 then None else w.agenda i.key) ≡ None = if_none' (i.key.class == 2) (w.agenda i.key) (n.agenda i.key (omega arith)) in
          absurd (none_some _ _ (or_else_nones _ _ q p) tk.waits))
          (list_cases (a.runs r))
