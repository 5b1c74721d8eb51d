-- Each message that was sent and not taken is in its sender's outbox or on its receiver's agenda, and nothing else arrives.
use Rattle.fb_laws.proofs.lemmas.Common.{◌≡◌, ℕ, ◌+◌, ◌<◌, Bool, true, false, Option, None, List, [], ◌∷◌, refl, sym, ap, ◌∙◌, ⊎_elim, arith, if◌then◌else◌, Key, same_key, or_else, found, Machine, Item, Local, Each, end, sent_by, CoreStep, IsSchedule, after, IsLawful, World, IsOpening}
use Rattle.fb_types.proofs.Common.{◌||◌, or_cases}
use Rattle.fb_laws.proofs.lemmas.schedules.Start.{opening}
use Rattle.fb_laws.specs.ScheduleLaw.{has_key}
use Rattle.fb_types.proofs.lemmas.events.KeyLaws.{same_key_is}
use Rattle.fb_types.proofs.lemmas.lists.Lookups.{found-append}
use Rattle.fb_laws.proofs.lemmas.schedules.Keeps.{passed, mail, unposted}
use Rattle.fb_laws.proofs.lemmas.schedules.Reached.{reached_by, runs_after, inv_after}

if_twice : {V : Type 0} (a b : Bool) (o : Option V) → (if b then None else (if a then None else o)) ≡ (if a || b then None else o)
if_twice true true o = refl
if_twice true false o = refl
if_twice false true o = refl
if_twice false false o = refl

waits : {V : Type 0} (b : Bool) (box old all : Option V) → (b ≡ true → box ≡ None) → all ≡ or_else box old → or_else box (if b then None else old) ≡ (if b then None else all)
waits true box old all n e = rw (n refl) refl
waits false box old all n e = sym e

module _ (M : Machine) where
  -- an arrival waits until an item has its key
  end_inbox : (k : Key) (is : List (Item M)) (l : Local M) → (end M l is).inbox k ≡ (if has_key M k is then None else l.inbox k)
  end_inbox k [] l = refl
  end_inbox k (i ∷ is) l = end_inbox k is (after M l i) ∙ if_twice (same_key i.key k) (has_key M k is) (l.inbox k)

  has_key_below : (k : Key) (t : ℕ) (is : List (Item M)) → Each (λ (i : Item M). i.key.tick < t) is → has_key M k is ≡ true → k.tick < t
  has_key_below k t [] b h = absurd (let e : false ≡ true = h in cc)
  has_key_below k t (i ∷ is) b h =
      ⊎_elim (λ e. let f : i.key.tick ≡ k.tick = ap (λ z. z.tick) (same_key_is i.key k e) in let g : i.key.tick < t = b.0 in omega arith) (λ e. has_key_below k t is b.1 e) (or_cases (same_key i.key k) (has_key M k is) h)

  pub messages : IsLawful M → (w : World M) (horizon : ℕ) (es : List (CoreStep M)) → IsOpening M w → IsSchedule M horizon (opening M w) es → (k : Key) →
      or_else (found k (reached_by M w es (M.sender k)).outbox) ((reached_by M w es k.resource).state.inbox k)
      ≡ (if has_key M k (runs_after M es k.resource) then None else found k (sent_by M (runs_after M es (M.sender k))))
  messages law w horizon es o x k =
      let c = reached_by M w es in
      let runs = runs_after M es in
      let v = inv_after M law w horizon es o x in
      let r = k.resource in
      let s = M.sender k in
      let a = v.each r in
      let box = found k (c s).outbox in
      let p : (c r).state.inbox k ≡ (if has_key M k (runs r) then None else mail M v.sent k) = (a.state (k.tick + 1)).inbox k refl (omega arith) ∙ end_inbox k (runs r) _ in
      let q : found k (sent_by M (runs s)) ≡ or_else box (mail M v.sent k) = ap (λ z. found k z) (v.each s).split ∙ found-append k (v.sent s) (c s).outbox in
      ap (λ z. or_else box z) p ∙
      waits (has_key M k (runs r)) box (mail M v.sent k) (found k (sent_by M (runs s)))
      (λ h. unposted M horizon w c runs v s r k refl (let z = has_key_below k (passed M (c r)) (runs r) a.below h in omega arith)) q
