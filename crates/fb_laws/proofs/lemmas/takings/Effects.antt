-- What taking an event gives: facts of its changes, messages and lines.
use Rattle.fb_laws.proofs.lemmas.Common.{◌≡◌, ℕ, zero, suc, ◌≤◌, ◌⊎◌, refl, sym, ap, ◌∙◌, subst, inl, inr, ⊎_elim, [], Bool, true, false, Option, Some, None, arith, if◌then◌else◌, ◌==◌, eqb-true, eq-eqb, ne_eqb, same_key, found, changed_to, without, timer_key, System, State, Meter, Expired, path_of, Outcome, Effect, Takes, TakesWith, begun, world_of, posts_of, effect_of, out_of_steps, put_of, is_timer_of, timer_change, Each, machine, IsAtResource, Key, TimerAsk, Keep, Clear, At, Event, Line, IsSound, IsTaking}
use Rattle.fb_types.proofs.Common.{and_parts, Agenda, agenda_after}
use Rattle.fb_types.specs.Parts.{outcome_of}
use Rattle.fb_types.proofs.lemmas.events.KeyLaws.{same_key_is}
use Rattle.fb_types.proofs.lemmas.lists.Lookups.{or_else_some, none_some, edit_some, without_some}
use Rattle.fb_types.proofs.lemmas.lists.EachLaws.{each_map}
use Rattle.fb_laws.proofs.lemmas.takings.Timers.{IsLater}
use Rattle.fb_laws.proofs.lemmas.soundness.Outs.{GoodOutcome, reacts_good}
use Rattle.fb_laws.proofs.lemmas.takings.Posting.{each_found, IsRaised, IsSent, post_all_good}

-- a choice with a result
pub if_some : {A : Type 0} (b : Bool) (x y : Option A) (v : A) → (if b then x else y) ≡ Some v → ((b ≡ true) × (x ≡ Some v)) ⊎ ((b ≡ false) × (y ≡ Some v))
if_some true x y v h = inl (refl, h)
if_some false x y v h = inr (refl, h)

put_some : (o : Option Event) (v : Option Event) → put_of o ≡ Some v → (w : Event) × (o ≡ Some w) × (v ≡ Some w)
put_some None v h = absurd (none_some None v refl h)
put_some (Some w) v h = let e : Some w ≡ v = cc in (w, refl, sym e)

module _ (sys : System) (sound : IsSound sys) (k : Key) where
  -- a change is of the resource, of no arrival, and what is put comes at the key's tick or later
  pub record IsChange (j : Key) (v : Option Event) : Type 0 where
    pub own : j.resource ≡ k.resource
    pub class : (j.class == 2) ≡ false
    pub later : (w : Event) → v ≡ Some w → k.tick ≤ j.tick
    pub fits : (w : Event) → v ≡ Some w → IsAtResource sys j w

  raised_change : (j : Key) (w : Event) (v : Option Event) → IsRaised sys sound k j w → v ≡ Some w → IsChange j v
  raised_change j w v h e = record {
    own = h.resource;
    class = ne_eqb j.class 2 (λ q. let c : j.class ≡ 3 = h.class in omega arith);
    later = λ u q. let t : j.tick ≡ k.tick = h.tick in omega arith;
    fits = λ u q. let f : Some w ≡ Some u = sym e ∙ q in let g : w ≡ u = cc in subst (λ (z : Event). IsAtResource sys j z) g h.fits;
  }

  cleared_change : (j : Key) (i : ℕ) (v : Option Event) → is_timer_of k.resource i j ≡ true → Some None ≡ Some v → IsChange j v
  cleared_change j i v h e =
      let a = and_parts _ _ h in
      let b = and_parts _ _ a.0 in
      let c : j.class ≡ 1 = eqb-true j.class 1 b.1 in
      let n : None ≡ v = cc in
      record {
        own = eqb-true j.resource k.resource b.0;
        class = ne_eqb j.class 2 (λ q. omega arith);
        later = λ w q. absurd (none_some v w (sym n) q);
        fits = λ w q. absurd (none_some v w (sym n) q);
      }

  timer_changes : (e : Event) → IsAtResource sys k e → (a : TimerAsk) → IsLater k.tick a → (j : Key) (v : Option Event) → timer_change sys k.resource (path_of e) a j ≡ Some v → IsChange j v
  timer_changes e home Keep l j v h = absurd (none_some None v refl h)
  timer_changes e home Clear l j v h =
      ⊎_elim (λ x. cleared_change j (sys.number (path_of e)) v x.0 x.1) (λ x. absurd (none_some None v refl x.1))
      (if_some (is_timer_of k.resource (sys.number (path_of e)) j) (Some None) None v h)
  timer_changes e home (At t) l j v h =
      let p = path_of e in
      ⊎_elim
      (λ x. set x.0 x.1)
      (λ x. ⊎_elim (λ y. cleared_change j (sys.number p) v y.0 y.1) (λ y. absurd (none_some None v refl y.1)) (if_some (is_timer_of k.resource (sys.number p) j) (Some None) None v x.1))
      (if_some (same_key (timer_key t k.resource (sys.number p)) j) (Some (Some (Expired p))) (if is_timer_of k.resource (sys.number p) j then Some None else None) v h)
    where
      set : same_key (timer_key t k.resource (sys.number (path_of e))) j ≡ true → Some (Some (Expired (path_of e))) ≡ Some v → IsChange j v
      set s q =
          let same : timer_key t k.resource (sys.number (path_of e)) ≡ j = same_key_is _ _ s in
          let n : Some (Expired (path_of e)) ≡ v = cc in
          let tick : t ≡ j.tick = ap (λ z. z.tick) same in
          let class : 1 ≡ j.class = ap (λ z. z.class) same in
          let resource : k.resource ≡ j.resource = ap (λ z. z.resource) same in
          record {
            own = sym resource;
            class = ne_eqb j.class 2 (λ u. omega arith);
            later = λ w u. omega (arith, l);
            fits = λ w u. let f : Some (Expired (path_of e)) ≡ Some w = n ∙ u in let g : Expired (path_of e) ≡ w = cc in
                subst (λ (z : Event). IsAtResource sys j z) g (home ∙ resource);
          }

  -- What is known of what a taking gives.
  pub record GoodEffect (x : Effect) : Type 0 where
    pub changes : (j : Key) (v : Option Event) → x.changes j ≡ Some v → IsChange j v
    pub sent : (j : Key) (v : Event) → found j x.sent ≡ Some v → IsSent sys sound k j v
    pub lines : Each (λ (l : Line). l.key ≡ k) x.lines

  pub outcome_good : (e : Event) → IsAtResource sys k e → (m : Meter) (s : State) (o : Outcome) → GoodOutcome sys sound k o → GoodEffect (effect_of sys k e m s o)
  outcome_good e home m s o g =
      let x = posts_of sys k m s o.outs in
      let good = post_all_good sys sound k o.outs (record { locals = m.locals; sent = s.sent; raised = []; messages = [] }) g.outs (record { raised = tt; messages = tt }) in
      record {
        changes = λ j v h. ⊎_elim
            (λ a. let w = put_some (found j x.raised) v a in raised_change j w.0 v (each_found (IsRaised sys sound k) x.raised good.raised j w.0 w.1) w.2)
            (λ a. timer_changes e home o.timer g.timer j v a)
            (or_else_some (put_of (found j x.raised)) (timer_change sys k.resource (path_of e) o.timer j) v h);
        sent = λ j v h. each_found (IsSent sys sound k) x.messages good.messages j v h;
        lines = g.lines;
      }

  steps_good : (s : State) → GoodEffect (out_of_steps s)
  steps_good s = record {
    changes = λ j v h. absurd (none_some None v refl h);
    sent = λ j v h. absurd (none_some None v refl h);
    lines = tt;
  }

  takes_with_good : (s : State) (e : Event) → IsAtResource sys k e → (m : Meter) (left : ℕ) (x : Effect) → TakesWith sys s k e m left x → GoodEffect x
  takes_with_good s e home m zero x h = subst (λ (z : Effect). GoodEffect z) (sym h) (steps_good s)
  takes_with_good s e home m (suc left) x h =
      subst (λ (z : Effect). GoodEffect z) (sym h.2) (outcome_good e home m s h.0 (reacts_good sys sound k (world_of s k.resource) e left h.0 home h.1))

  pub takes_good : (limit : ℕ) (s : State) (e : Event) → IsAtResource sys k e → (x : Effect) → Takes sys limit s k e x → GoodEffect x
  unfolding Takes
  takes_good limit s e home x h = let m = begun limit k.tick (s.meters k.resource) in takes_with_good s e home m m.left x h

  -- the facts that the law requires
  pub is_taking : (limit : ℕ) (x : Effect) → GoodEffect x → IsTaking (machine sys limit) k (outcome_of sys k x)
  is_taking limit x g = record {
    own = λ j v h. (g.changes j v h).own;
    later = λ j v h. (g.changes j (Some v) h).later v refl;
    sent_own = λ j v h. (g.sent j v h).sender;
    sent_arrives = λ j v h. (g.sent j v h).arrival;
    own_class = λ j v h. (g.changes j v h).class;
    sent_class = λ j v h. eq-eqb j.class 2 (g.sent j v h).arrival.class;
    here = each_map _ _ x.lines (λ l q. (ap (λ z. z.tick) q, ap (λ z. z.resource) q)) g.lines;
  }

  -- every event on the agenda is of its key's resource
  abbrev pub AllFit : Agenda → Type 0
  AllFit a = (j : Key) (v : Event) → a j ≡ Some v → IsAtResource sys j v

  pub agenda_fits : (a : Agenda) (x : Effect) → GoodEffect x → AllFit a → AllFit (agenda_after k a x)
  agenda_fits a x g h j v e =
      ⊎_elim
      (λ s. (g.sent j v s).fits)
      (λ s. ⊎_elim (λ c. (g.changes j (Some v) c).fits v refl) (λ c. h j v (without_some k a j v c.1).0) (edit_some (x.changes j) (without k a j) v s))
      (or_else_some (found j x.sent) (changed_to (x.changes j) (without k a j)) v e)
