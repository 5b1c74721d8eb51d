-- Families of runs that hear one another: they are determined.
use Rattle.fb_types.proofs.Common.{◌≡◌, ℕ, zero, suc, ◌<◌, ◌≤◌, min, Option, Some, None, List, refl, sym, ap, ◌∙◌, subst, arith, found, Machine, Item, Local, Each, Run, sent_by, cut}
use Rattle.fb_types.specs.declared.key.Key.{Key}
use Rattle.fb_laws.specs.Facts.{IsLawful}
use Rattle.fb_types.proofs.lemmas.lists.Lookups.{none_since}
use Rattle.fb_laws.proofs.lemmas.resources.Chains.{Agree, run_unique, cut_run, cut_zero}
use Rattle.fb_types.proofs.lemmas.lists.EachLaws.{each_both}
use Rattle.fb_laws.proofs.lemmas.takings.NoLesserTick.{Fair, chain_fair, found_cut}

module _ (M : Machine) where
  -- the same with these arrivals
  abbrev pub start : Local M → (Key → Option M.Event) → Local M
  start l x = record { part = l.part; own = l.own; inbox = x; stop = l.stop }

  -- runs of all resources, each below its bound, each with what the others send it; what comes from past the bounds arrives past the bounds
  pub record Family (first : ℕ → Local M) : Type 0 where
    pub runs : ℕ → List (Item M)
    pub bound : ℕ → ℕ
    pub heard : ℕ → Key → Option M.Event
    pub run : (r : ℕ) → Run M r (start (first r) (heard r)) (bound r) (runs r)
    pub arrived : (r : ℕ) (k : Key) → k.resource ≡ r → k.tick < bound r → heard r k ≡ found k (sent_by M (runs (M.sender k)))
    pub closed : (k : Key) (u : ℕ) → M.Arrives k u → bound (M.sender k) ≤ u → bound k.resource ≤ k.tick

  abbrev pub both : {first : ℕ → Local M} → Family first → Family first → ℕ → ℕ → ℕ
  both A B t r = min t (min (A.bound r) (B.bound r))

  -- what r hears below the next tick is what was sent below this one
  heard_cut : IsLawful M → (first : ℕ → Local M) (A B : Family first) (t : ℕ) (k : Key) → k.tick < both A B (suc t) k.resource → A.heard k.resource k ≡ found k (sent_by M (cut M (both A B t (M.sender k)) (A.runs (M.sender k))))
  heard_cut law first A B t k b =
      let s = M.sender k in
      let x = A.run s in
      let c = A.arrived k.resource k refl (omega arith) in
      let few : Each (λ (i : Item M). both A B t s ≤ i.key.tick → found k i.out.sent ≡ None) (A.runs s) =
      each_both (Fair M s) (λ (i : Item M). i.key.tick < A.bound s) _ (A.runs s) (λ i f g h. none_since _ (λ v q. past i f g h v q)) (chain_fair M law s (A.runs s) _ x.chain) x.below in
      c ∙ sym (found_cut M law s (both A B t s) k (A.runs s) (start (first s) (A.heard s)) x.chain few)
    where
      past : (i : Item M) → Fair M (M.sender k) i → i.key.tick < A.bound (M.sender k) → both A B t (M.sender k) ≤ i.key.tick → (v : M.Event) → found k i.out.sent ≡ Some v → ⊥
      past i f g h v q =
          let a = f.sent_arrives k v q in
          let later : i.key.tick < k.tick = law.arrives_later k i.key.tick a in
          let p : B.bound k.resource ≤ k.tick = B.closed k i.key.tick a (omega arith) in
          omega arith

  both_sym : (first : ℕ → Local M) (A B : Family first) (t r : ℕ) → both A B t r ≡ both B A t r
  both_sym first A B t r = omega arith

  heard_alike : IsLawful M → (first : ℕ → Local M) (A B : Family first) (t r : ℕ) (k : Key) → k.resource ≡ r → k.tick < both A B (suc t) r →
      cut M (both A B t (M.sender k)) (A.runs (M.sender k)) ≡ cut M (both A B t (M.sender k)) (B.runs (M.sender k)) → A.heard r k ≡ B.heard r k
  heard_alike law first A B t r k e b h =
      let b' : k.tick < both A B (suc t) k.resource = rw e b in
      let x : A.heard k.resource k ≡ found k (sent_by M (cut M (both A B t (M.sender k)) (A.runs (M.sender k)))) = heard_cut law first A B t k b' in
      let y : B.heard k.resource k ≡ found k (sent_by M (cut M (both B A t (M.sender k)) (B.runs (M.sender k)))) = heard_cut law first B A t k (rw (← both_sym first A B (suc t) k.resource) b') in
      let z : A.heard k.resource k ≡ B.heard k.resource k = x ∙ ap (λ w. found k (sent_by M w)) h ∙ ap (λ w. found k (sent_by M (cut M w (B.runs (M.sender k))))) (both_sym first A B t (M.sender k)) ∙ sym y in
      subst (λ (q : ℕ). A.heard q k ≡ B.heard q k) e z

  -- two families with one opening take the same items below a tick, as far as both go
  pub family_agree : IsLawful M → (first : ℕ → Local M) (A B : Family first) (t r : ℕ) → cut M (both A B t r) (A.runs r) ≡ cut M (both A B t r) (B.runs r)
  family_agree law first A B zero r =
      let e : both A B zero r ≡ 0 = omega arith in
      rw e (cut_zero M (A.runs r) ∙ sym (cut_zero M (B.runs r)))
  family_agree law first A B (suc t) r =
      let u = both A B (suc t) r in
      let alike : Agree M r u (start (first r) (A.heard r)) (start (first r) (B.heard r)) = record {
        part = refl;
        stop = refl;
        own = λ k e b. refl;
        inbox = λ k e b. heard_alike law first A B t r k e b (family_agree law first A B t (M.sender k));
      } in
      run_unique M law r u _ _ _ _ alike (cut_run M r u (A.bound r) (A.runs r) _ (omega arith) (A.run r)) (cut_run M r u (B.bound r) (B.runs r) _ (omega arith) (B.run r))

  -- as far as both go
  pub family_unique : IsLawful M → (first : ℕ → Local M) (A B : Family first) (r : ℕ) → cut M (min (A.bound r) (B.bound r)) (A.runs r) ≡ cut M (min (A.bound r) (B.bound r)) (B.runs r)
  family_unique law first A B r =
      let t = A.bound r in
      let e : both A B t r ≡ min (A.bound r) (B.bound r) = omega arith in
      rw e at (family_agree law first A B t r)
