-- What a run of one resource adds, and functions changed at one index.
use Rattle.fb_laws.proofs.lemmas.Common.{◌≡◌, ℕ, ◌<◌, ◌≤◌, ◌⊎◌, false, Option, Some, None, List, [], ◌∷◌, refl, sym, ap, ◌∙◌, subst, inl, inr, ⊎_elim, arith, cases_eq, Key, same_key, or_else, Machine, Item, Local, Each, end, with_at, clock_after, after, Chain, IsLawful}
use Rattle.fb_types.specs.Cores.{stop_or}
use Rattle.fb_types.proofs.lemmas.lists.Lookups.{none_some, option_cases, without_other}
use Rattle.fb_laws.proofs.lemmas.takings.NoLesserTick.{takes_fair, takes_late, late_after, chain_late}
use Rattle.fb_laws.proofs.lemmas.resources.Stops.{HasStop}
use Rattle.fb_laws.proofs.lemmas.resources.Global.{with_at_same, with_at_other}

pub put_ind : {A : Type 0} (P : ℕ → A → Type 0) (r : ℕ) (x : A) (f : ℕ → A) → P r x → ((q : ℕ) → P q (f q)) → (q : ℕ) → P q (with_at r x f q)
put_ind {A} P r x f h g q =
    ⊎_elim
    (λ e. subst (λ (v : A). P q v) (sym (with_at_same r x f q e)) (subst (λ (z : ℕ). P z x) (sym e) h))
    (λ n. subst (λ (v : A). P q v) (sym (with_at_other r x f q n)) (g q))
    (cases_eq q r)

pub put_ind2 : {A B : Type 0} (P : ℕ → A → B → Type 0) (r : ℕ) (x : A) (f : ℕ → A) (y : B) (g : ℕ → B) → P r x y → ((q : ℕ) → P q (f q) (g q)) → (q : ℕ) → P q (with_at r x f q) (with_at r y g q)
put_ind2 {A} {B} P r x f y g h k q =
    ⊎_elim
    (λ e. subst (λ (v : A). P q v (with_at r y g q)) (sym (with_at_same r x f q e)) (subst (λ (v : B). P q x v) (sym (with_at_same r y g q e)) (subst (λ (z : ℕ). P z x y) (sym e) h)))
    (λ n. subst (λ (v : A). P q v (with_at r y g q)) (sym (with_at_other r x f q n)) (subst (λ (v : B). P q (f q) v) (sym (with_at_other r y g q n)) (k q)))
    (cases_eq q r)

module _ (M : Machine) where
  -- a run that stopped
  pub record Stopped (l : Local M) (is : List (Item M)) : Type 0 where
    pub tick : ℕ
    pub reason : M.Reason
    pub stop : (end M l is).stop ≡ Some reason
    pub clock : (b : ℕ) → clock_after M b is ≡ tick
    pub above : (x : ℕ) → Each (λ (i : Item M). x ≤ i.key.tick) is → x ≤ tick
    pub under : (x : ℕ) → Each (λ (i : Item M). i.key.tick < x) is → tick < x
    pub all : Each (λ (i : Item M). i.key.tick ≤ tick) is
    pub key : Key
    pub has : HasStop M is key reason
    pub key_tick : key.tick ≡ tick

  pub run_ends : IsLawful M → (r b : ℕ) (is : List (Item M)) (l : Local M) → Chain M r l is → l.stop ≡ None → (((end M l is).stop ≡ None) × (clock_after M b is ≡ b)) ⊎ Stopped l is
  run_ends law r b [] l c n = inl (n, refl)
  run_ends law r b (i ∷ is) l c n =
      ⊎_elim
      (λ e. let late = chain_late M law r i.key.tick is (after M l i) (late_after M r i.key.tick l i (takes_fair M law r l i c.0) (omega arith) (takes_late M r l i c.0)) c.1 in
      ⊎_elim
      (λ h. inl (h.0, ap (λ o. stop_or o i.key.tick (clock_after M b is)) e ∙ h.1))
      (λ s. inr (more i is l e late s))
      (run_ends law r b is (after M l i) c.1 e))
      (λ s. inr (here i is l s.0 s.1 c.1))
      (option_cases i.out.stop)
    where
      more : (i : Item M) (is : List (Item M)) (l : Local M) → i.out.stop ≡ None → Each (λ (j : Item M). i.key.tick ≤ j.key.tick) is → Stopped (after M l i) is → Stopped l (i ∷ is)
      more i is l e late s = record {
        tick = s.tick;
        reason = s.reason;
        stop = s.stop;
        clock = λ b. ap (λ o. stop_or o i.key.tick (clock_after M b is)) e ∙ s.clock b;
        above = λ x h. s.above x h.1;
        under = λ x h. s.under x h.1;
        all = (s.above i.key.tick late, s.all);
        key = s.key;
        has = inr s.has;
        key_tick = s.key_tick;
      }

      here : (i : Item M) (is : List (Item M)) (l : Local M) (reason : M.Reason) → i.out.stop ≡ Some reason → Chain M r (after M l i) is → Stopped l (i ∷ is)
      here i [] l reason e c = record {
        tick = i.key.tick;
        reason = reason;
        stop = e;
        clock = λ b. ap (λ o. stop_or o i.key.tick b) e;
        above = λ x h. h.0;
        under = λ x h. h.0;
        all = (omega arith, tt);
        key = i.key;
        has = inl (refl, e);
        key_tick = refl;
      }
      here i (j ∷ is) l reason e c = absurd (none_some _ _ c.0.live e)

  -- what arrives later is still there after the items
  pub end_more : (k : Key) (z : Option M.Event) (is : List (Item M)) (l m : Local M) → Each (λ (i : Item M). same_key i.key k ≡ false) is → m.inbox k ≡ or_else z (l.inbox k) → (end M m is).inbox k ≡ or_else z ((end M l is).inbox k)
  end_more k z [] l m h e = e
  end_more k z (i ∷ is) l m h e =
      end_more k z is (after M l i) (after M m i) h.1
      (without_other i.key m.inbox k h.0 ∙ e ∙ ap (λ o. or_else z o) (sym (without_other i.key l.inbox k h.0)))
