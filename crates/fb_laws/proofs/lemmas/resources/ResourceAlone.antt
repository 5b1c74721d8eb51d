-- What the simulation leaves of a resource is what the resource alone leaves.
use Rattle.fb_laws.proofs.lemmas.Common.{if◌then◌else◌, ◌≡◌, ℕ, ◌+◌, ◌≤◌, Option, None, List, [], ◌∷◌, refl, sym, ap, ◌∙◌, ⊎_elim, arith, cases_lt, cases_eq, cond-true, cond-false, lt-ltb, le-ltb, Key, same_key, changed_to, or_else, found, Machine, Item, Local, Each, end, Run, sent_by, cut, at, after, IsLawful, World, next, Simulates, last, Simulation, IsOpening, view, reach, taken_at}
use Rattle.fb_laws.specs.Worlds.{far, IsCovered, left_at, apart}
use Rattle.fb_types.specs.Histories.{IsSameAt}
use Rattle.fb_types.proofs.lemmas.lists.Lookups.{tick_before}
use Rattle.fb_laws.proofs.lemmas.resources.Chains.{Agree, agree_chain, agree_end, cut_run, cut_in, cut_out}
use Rattle.fb_types.proofs.lemmas.lists.EachLaws.{each_map}
use Rattle.fb_laws.proofs.lemmas.resources.Families.{start}
use Rattle.fb_laws.proofs.lemmas.resources.Global.{at_mine, at_other, sim_late, Like, like_chain}
use Rattle.fb_laws.proofs.lemmas.resources.FamilyEnds.{each_at, like_start, Story, story, reach_high, reach_least}

module _ (M : Machine) where
  -- the own events do not depend on the arrivals
  pub end_own : (is : List (Item M)) (l m : Local M) → ((k : Key) → l.own k ≡ m.own k) → (k : Key) → (end M l is).own k ≡ (end M m is).own k
  end_own [] l m h k = h k
  end_own (i ∷ is) l m h k = end_own is (after M l i) (after M m i) (λ z. ap (λ o. changed_to ((i.out.changes z)) (if same_key i.key z then None else o)) (h z)) k

module _ (M : Machine) where
  cut_late : (t : ℕ) (is : List (Item M)) → Each (λ (i : Item M). t ≤ i.key.tick) is → cut M t is ≡ []
  cut_late t [] h = refl
  cut_late t (i ∷ is) h = cut_out M t i is h.0

  -- to cut the simulation and to cut one resource's items is the same
  pub at_cut : IsLawful M → (r t : ℕ) (is : List (Item M)) (w : World M) → Simulates M w is → at M r (cut M t is) ≡ cut M t (at M r is)
  at_cut law r t [] w x = refl
  at_cut law r t (i ∷ is) w x =
      let y = at_cut law r t is (next M w i) x.1 in
      ⊎_elim
      (λ h. ⊎_elim
      (λ e. rw (cut_in M t i is h, at_mine M r i (cut M t is) e, at_mine M r i is e, cut_in M t i (at M r is) h) (ap (λ z. i ∷ z) y))
      (λ n. rw (cut_in M t i is h, at_other M r i (cut M t is) n, at_other M r i is n) y)
      (cases_eq i.key.resource r))
      (λ h. let late = sim_late M law t (i ∷ is) w (λ k b. x.0.least k (tick_before k i.key (omega arith))) x in
      rw (cut_out M t i is h) (sym (cut_late t (at M r (i ∷ is)) (each_map _ _ (at M r (i ∷ is)) (λ j p. p.0) (each_at M _ r (i ∷ is) late)))))
      (cases_lt i.key.tick t)

  pub sim_cut : (t : ℕ) (is : List (Item M)) (w : World M) → Simulates M w is → Simulates M w (cut M t is)
  sim_cut t [] w x = tt
  sim_cut t (i ∷ is) w x =
      let y = sim_cut t is (next M w i) x.1 in
      ⊎_elim (λ h. rw (cut_in M t i is h) (x.0, y)) (λ h. rw (cut_out M t i is h) tt) (cases_lt i.key.tick t)

  end_part : (is : List (Item M)) (l m : Local M) → l.part ≡ m.part → (end M l is).part ≡ (end M m is).part
  end_part [] l m h = h
  end_part (i ∷ is) l m h = end_part is (after M l i) (after M m i) refl

  end_stop : (is : List (Item M)) (l m : Local M) → l.stop ≡ m.stop → (end M l is).stop ≡ (end M m is).stop
  end_stop [] l m h = h
  end_stop (i ∷ is) l m h = end_stop is (after M l i) (after M m i) refl

  -- the items below t, from any arrivals, end at the history
  pub history_is : IsLawful M → (w : World M) (is : List (Item M)) → IsOpening M w → Simulates M w is → (r t : ℕ) (x : Key → Option M.Event) → IsSameAt M r (end M (start M (view M w r) x) (taken_at M is r t)) (left_at M w is r t)
  history_is law w is o s r t x =
      let y : Like M r (end M (start M (view M w r) (λ k. found k (sent_by M (cut M t is)))) (taken_at M is r t)) (last M w (cut M t is)) [] =
      (like_chain M law r (cut M t is) _ w (sim_cut t is w s) (like_start M w (cut M t is) r o)).1 in
      record {
        part = end_part (taken_at M is r t) _ _ refl ∙ y.part;
        own = λ k e. end_own M (taken_at M is r t) (start M (view M w r) x) (start M (view M w r) (λ z. found z (sent_by M (cut M t is)))) (λ z. refl) k ∙ y.own k e;
        stop = end_stop (taken_at M is r t) _ _ refl ∙ y.stop;
      }

  far_reach : (k : Key) (r : ℕ) → far M k r ≤ reach M k r
  far_reach k r = ⊎_elim
      (λ h. let e : far M k r ≡ k.tick + 1 = cond-true _ _ _ (lt-ltb r k.resource h) in let f = reach_high M k r (omega arith) in omega arith)
      (λ h. let e : far M k r ≡ k.tick = cond-false _ _ _ (le-ltb r k.resource h) in let f = reach_least M k r in omega arith)
      (cases_lt r k.resource)

  pub covered_bound : (w : World M) (horizon : ℕ) (is : List (Item M)) (s : Story M w horizon is) (r t : ℕ) → IsCovered M horizon is r t → t ≤ s.family.bound r
  covered_bound w horizon is s r t h =
      ⊎_elim
      (λ e. let f = e.1 r in let g : t ≤ horizon = h.in_range in omega arith)
      (λ e. let f = e.1 r in let g = h.before_stop e.0 in let p = far_reach e.0.item.key r in omega arith)
      s.ends

  pub agree_run : (r t : ℕ) (l m : Local M) (is : List (Item M)) → Agree M r t l m → Run M r l t is → Run M r m t is
  agree_run r t l m is h x =
      let g = agree_end M r t is l m h in
      record {
        chain = agree_chain M r t is l m h x.below x.chain;
        below = x.below;
        rests = λ q k e b. sym (ap (λ o. or_else o ((end M l is).inbox k)) (g.own k e b) ∙ ap (λ o. or_else ((end M m is).own k) o) (g.inbox k e b)) ∙ x.rests (g.stop ∙ q) k e b;
      }

  -- One resource: where it has a history, it is what the takes of the resource alone leave
  pub one_resource : IsLawful M → (w : World M) (horizon : ℕ) (is : List (Item M)) → IsOpening M w → Simulation M w horizon is → (r t : ℕ) → IsCovered M horizon is r t →
      Run M r (apart M w is r t) t (taken_at M is r t) × IsSameAt M r (end M (apart M w is r t) (taken_at M is r t)) (left_at M w is r t)
  one_resource law w horizon is o x r t h =
      let s = story M law w horizon is o x in
      let b = covered_bound w horizon is s r t h in
      let run = cut_run M r t (s.family.bound r) (s.family.runs r) _ b (s.family.run r) in
      let e : cut M t (s.family.runs r) ≡ taken_at M is r t = ap (λ z. cut M t z) (s.runs_are r) ∙ sym (at_cut law r t is w x.chain) in
      let a : Agree M r t (start M (view M w r) (s.family.heard r)) (apart M w is r t) = record {
        part = refl;
        stop = refl;
        own = λ k f c. refl;
        inbox = λ k f c. s.heard_is r k ∙ sym (cond-true _ _ _ (lt-ltb k.tick t c));
      } in
      (agree_run r t _ _ (taken_at M is r t) a (rw e at run), history_is law w is o x.chain r t _)
