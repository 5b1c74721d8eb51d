-- A legal bound stays legal while others leave and come back: so a phase's steps may come in every order.
use Rattle.fb_laws.proofs.lemmas.Common.{◌≡◌, ℕ, ◌<◌, ◌≤◌, max, Some, None, List, sym, ◌∙◌, subst, arith, Key, found, Machine, Item, waiting, sent_by, with_at, Member, Lend, Give, Core, floor, done, returned, IsLawful, World}
use Rattle.fb_types.proofs.Common.{IsLegal}
use Rattle.fb_types.specs.Cores.{MayGive}
use Rattle.fb_types.proofs.lemmas.lists.Lookups.{none_since, or_else_nones, found-append}
use Rattle.fb_types.proofs.lemmas.lists.EachLaws.{each_both}
use Rattle.fb_laws.proofs.lemmas.takings.NoLesserTick.{Fair, chain_fair, found_none, end_late}
use Rattle.fb_laws.proofs.lemmas.resources.RunSteps.{put_ind}
use Rattle.fb_laws.proofs.lemmas.schedules.Keeps.{seat_floor, floor_live, Inv, Moved, moved}

module _ (M : Machine) where
  pub legal_lend : (c : Core M) (r bound worker q other : ℕ) → IsLegal M c r bound → IsLegal M (done M c (Lend worker q other)) r bound
  legal_lend c r bound worker q other x = record {
    m = x.m;
    is_floor = put_ind (λ z s. (k : Key) → k.tick < x.m → (k.resource ≡ z → waiting M s.state k ≡ None) × (found k s.outbox ≡ None)) q s' c (x.is_floor q) x.is_floor;
    outboxes = put_ind (λ z s. (k : Key) → k.resource ≡ r → k.tick < bound → found k s.outbox ≡ None) q s' c (x.outboxes q) x.outboxes;
    links = λ k u a e b. x.links k u a e (put_ind (λ z s. seat_floor M x.m s ≤ u → seat_floor M x.m (c z) ≤ u) q s' c (λ h. h) (λ z h. h) (M.sender k) b);
  }
    where
      s' : Member M
      s' = record (c q) { out = Some (worker, other) }

  pub legal_give : IsLawful M → (horizon : ℕ) (w : World M) (c : Core M) (runs : ℕ → List (Item M)) (r bound worker q : ℕ) (is : List (Item M)) → Inv M horizon w c runs → MayGive M c worker q is → IsLegal M c r bound → IsLegal M (done M c (Give worker q is)) r bound
  legal_give law horizon w c runs r bound worker q is v g x = record {
    m = x.m;
    is_floor = put_ind (λ z s. (k : Key) → k.tick < x.m → (k.resource ≡ z → waiting M s.state k ≡ None) × (found k s.outbox ≡ None)) q s' c
        (λ k b. (
          λ e. end_late M law q x.m is (c q).state (λ z d h. (x.is_floor q z h).0 d) g.run.chain k e b,
          added k (λ u p n h. let l : u < k.tick = law.arrives_later k u p in omega arith) (x.is_floor q k b).1,
        ))
        x.is_floor;
    outboxes = put_ind (λ z s. (k : Key) → k.resource ≡ r → k.tick < bound → found k s.outbox ≡ None) q s' c
        (λ k e b. added k (λ u p n h. let z : bound ≤ k.tick = x.links k u p e (far k u n h) in omega arith) (x.outboxes q k e b)) x.outboxes;
    links = λ k u a e b. let f = more (M.sender k) in x.links k u a e (omega arith);
  }
    where
      s' : Member M
      s' = returned M (c q) is

      mv : Moved M x.m q g.bound (c q) is s'
      mv = let a = v.each q in let o = a.out (worker, g.bound) g.is_out in moved M law x.m q g.bound worker (c q) is o.0 o.1 g.is_out a.rests (λ k b e. (x.is_floor q k b).0 e) g.run

      more : (z : ℕ) → seat_floor M x.m (c z) ≤ seat_floor M x.m (with_at q s' c z)
      more = put_ind (λ z s. seat_floor M x.m (c z) ≤ seat_floor M x.m s) q s' c mv.floor_more (λ z. omega arith)

      quiet : (k : Key) → ((u : ℕ) → M.Arrives k u → M.sender k ≡ q → max (c q).clock x.m ≤ u → ⊥) → found k (sent_by M is) ≡ None
      quiet k f = found_none M k is (each_both _ _ (λ (i : Item M). found k i.out.sent ≡ None) is
          (λ (i : Item M) (g : Fair M q i) l. none_since _ (λ y p. f i.key.tick (g.sent_arrives k y p) (g.sent_own k y p) l)) (chain_fair M law q is (c q).state g.run.chain) mv.low)

      added : (k : Key) → ((u : ℕ) → M.Arrives k u → M.sender k ≡ q → max (c q).clock x.m ≤ u → ⊥) → found k (c q).outbox ≡ None → found k s'.outbox ≡ None
      added k f n = found-append k (c q).outbox (sent_by M is) ∙ or_else_nones _ _ (quiet k f) n

      far : (k : Key) (u : ℕ) → M.sender k ≡ q → max (c q).clock x.m ≤ u → floor M c x.m (M.sender k) ≤ u
      far k u n h =
          let f : seat_floor M x.m (c q) ≡ max (c q).clock x.m = floor_live M (c q).state.stop (c q).clock x.m mv.live in
          let g : seat_floor M x.m (c q) ≤ u = omega arith in
          subst (λ (z : ℕ). seat_floor M x.m (c z) ≤ u) (sym n) g
