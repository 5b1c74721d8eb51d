-- A taking of a key of a resource reads and changes only that resource's part.
use Rattle.fb_laws.proofs.lemmas.Common.{◌≡◌, ℕ, zero, suc, refl, sym, ap, ◌∙◌, subst, ⊎_elim, List, [], Bool, true, false, Some, None, arith, if◌then◌else◌, ◌==◌, eqb-true, eq-eqb, cond-true, cases_Bool, Path, Port, same_path, found, or_else, System, State, Meter, path_of, Outcome, Out, Effect, Takes, TakesWith, begun, world_of, posts_of, effect_of, put_of, timer_change, machine, IsAtResource, Key, Reason, same_Some, Event, Line, IsSound, IsLawful, IsTaking}
use Rattle.fb_types.proofs.Common.{part_of}
use Rattle.fb_types.specs.Machines.{Outcome as Result}
use Rattle.fb_types.specs.Parts.{Part, outcome_of}
use Rattle.fb_types.proofs.lemmas.names.PathLaws.{same_path_is}
use Rattle.fb_laws.proofs.lemmas.resources.Global.{with_at_same, with_at_other}
use Rattle.fb_types.proofs.lemmas.determined.SimulationLaws.{reacts-one}
use Rattle.fb_laws.proofs.lemmas.resources.AgreeingWorlds.{SameWorld, SameOutcome, reacts_same}
use Rattle.fb_laws.proofs.lemmas.takings.OneBlockChanges.{reacts_stays}
use Rattle.fb_laws.proofs.lemmas.soundness.Outs.{GoodOutcome, reacts_good}
use Rattle.fb_laws.proofs.lemmas.takings.Posting.{SamePosts, post_all_same, post_all_stays}
use Rattle.fb_laws.proofs.lemmas.takings.Effects.{takes_good, is_taking}

part_equal : (p q : Part) → ((x : Path) → p.blocks x ≡ q.blocks x) → ((x : Port) → p.held x ≡ q.held x) → ((l : ℕ) → p.sent l ≡ q.sent l) → p.meter ≡ q.meter → p ≡ q
part_equal p q b h s m i = record { blocks = λ x. b x i; held = λ x. h x i; sent = λ l. s l i; meter = m i }

outcome_equal : (o x : Result Part Event Line Reason) → o.part ≡ x.part → ((j : Key) → o.changes j ≡ x.changes j) → o.sent ≡ x.sent → o.lines ≡ x.lines → o.stop ≡ x.stop → o ≡ x
outcome_equal o x p c s l t i = record { part = p i; changes = λ j. c j i; sent = s i; lines = l i; stop = t i }

only_same : {A : Type 0} (t : Bool) (x y : A) → (t ≡ true → x ≡ y) → (if t then Some x else None) ≡ (if t then Some y else None)
only_same true x y h = ap Some (h refl)
only_same false x y h = refl

only_true : {A : Type 0} (t : Bool) (x y : A) → t ≡ true → (if t then Some x else None) ≡ (if t then Some y else None) → x ≡ y
only_true t x y h e = same_Some x y (sym (cond-true t (Some x) None h) ∙ e ∙ cond-true t (Some y) None h)

module _ (sys : System) (sound : IsSound sys) (k : Key) where
  -- ---- It reads only its resource's part

  abbrev r : ℕ
  r = k.resource

  pub same_world : (s u : State) → part_of sys r s ≡ part_of sys r u → SameWorld sys r (world_of s r) (world_of u r)
  same_world s u h = record {
    blocks = λ p home. only_true (sys.resource p == r) (s.blocks p) (u.blocks p) (eq-eqb (sys.resource p) r home) (ap (λ z. z.blocks p) h);
    held = λ q. ap (λ z. z.held q) h;
  }

  same_sent : (s u : State) → part_of sys r s ≡ part_of sys r u → (l : ℕ) → sys.sender l ≡ r → s.sent l ≡ u.sent l
  same_sent s u h l home = only_true (sys.sender l == r) (s.sent l) (u.sent l) (eq-eqb (sys.sender l) r home) (ap (λ z. z.sent l) h)

  same_posts : (m : Meter) (s u : State) (o x : Outcome) → part_of sys r s ≡ part_of sys r u → GoodOutcome sys sound k o → o.outs ≡ x.outs → SamePosts sys sound k (posts_of sys k m s o.outs) (posts_of sys k m u x.outs)
  same_posts m s u o x h g e =
      subst (λ (os : List Out). SamePosts sys sound k (posts_of sys k m s o.outs) (posts_of sys k m u os)) e
      (post_all_same sys sound k o.outs (record { locals = m.locals; sent = s.sent; raised = []; messages = [] }) (record { locals = m.locals; sent = u.sent; raised = []; messages = [] }) g.outs
      (record { locals = refl; sent = same_sent s u h; raised = refl; messages = refl }))

  abbrev meter_of : ℕ → ℕ → Meter
  meter_of left locals = record { tick = Some k.tick; left = left; locals = locals }

  effect_same : (e : Event) (m : Meter) (s u : State) (o x : Outcome) → part_of sys r s ≡ part_of sys r u → GoodOutcome sys sound k o → SameOutcome sys r o x
      → outcome_of sys k (effect_of sys k e m s o) ≡ outcome_of sys k (effect_of sys k e m u x)
  effect_same e m s u o x h g same =
      let p = same_posts m s u o x h g same.outs in
      outcome_equal _ _
      (part_equal _ _
      (λ q. only_same (sys.resource q == r) (o.world.blocks q) (x.world.blocks q) (λ t. same.world.blocks q (eqb-true (sys.resource q) r t)))
      (λ q. ap (λ z. z q) (with_at_same r o.world.held s.held r refl) ∙ same.world.held q ∙ sym (ap (λ z. z q) (with_at_same r x.world.held u.held r refl)))
      (λ l. only_same (sys.sender l == r) ((posts_of sys k m s o.outs).sent l) ((posts_of sys k m u x.outs).sent l) (λ t. p.sent l (eqb-true (sys.sender l) r t)))
      (with_at_same r (meter_of o.left (posts_of sys k m s o.outs).locals) s.meters r refl ∙ (λ i. meter_of (same.left i) (p.locals i)) ∙ sym (with_at_same r (meter_of x.left (posts_of sys k m u x.outs).locals) u.meters r refl)))
      (λ j i. or_else (put_of (found j (p.raised i))) (timer_change sys r (path_of e) (same.timer i) j))
      p.messages
      same.lines
      same.stop

  takes_with_same : (e : Event) → IsAtResource sys k e → (m : Meter) (left : ℕ) (s u : State) (x y : Effect) → part_of sys r s ≡ part_of sys r u
      → TakesWith sys s k e m left x → TakesWith sys u k e m left y → outcome_of sys k x ≡ outcome_of sys k y
  takes_with_same e home m zero s u x y h a b =
      ap (λ z. outcome_of sys k z) a ∙ outcome_equal _ _ h (λ j. refl) refl refl refl ∙ sym (ap (λ z. outcome_of sys k z) b)
  takes_with_same e home m (suc left) s u x y h a b =
      let c = reacts_same sys k (world_of s r) (world_of u r) e left a.0 home (same_world s u h) a.1 in
      let one : c.0 ≡ b.0 = reacts-one sys k (world_of u r) e left c.0 b.0 c.1 b.1 in
      let same : SameOutcome sys r a.0 b.0 = subst (λ (z : Outcome). SameOutcome sys r a.0 z) one c.2 in
      ap (λ z. outcome_of sys k z) a.2 ∙ effect_same e m s u a.0 b.0 h (reacts_good sys sound k (world_of s r) e left a.0 home a.1) same ∙ sym (ap (λ z. outcome_of sys k z) b.2)

  pub takes_same : (limit : ℕ) (e : Event) → IsAtResource sys k e → (s u : State) (x y : Effect) → part_of sys r s ≡ part_of sys r u
      → Takes sys limit s k e x → Takes sys limit u k e y → outcome_of sys k x ≡ outcome_of sys k y
  unfolding Takes
  takes_same limit e home s u x y h a b =
      let m = begun limit k.tick (s.meters r) in
      let n = begun limit k.tick (u.meters r) in
      let f : n ≡ m = ap (λ z. begun limit k.tick z.meter) (sym h) in
      takes_with_same e home m m.left s u x y h a (subst (λ (z : Meter). TakesWith sys u k e z z.left y) f b)

  -- ---- It changes only its resource's part

  apart_paths : (e : Event) → IsAtResource sys k e → (q : ℕ) → (q ≡ r → ⊥) → (p : Path) → sys.resource p ≡ q → same_path p (path_of e) ≡ false
  apart_paths e home q n p f =
      ⊎_elim (λ t. absurd (n (sym f ∙ ap sys.resource (same_path_is p (path_of e) t) ∙ home))) (λ t. t) (cases_Bool (same_path p (path_of e)))

  takes_with_stays : (e : Event) → IsAtResource sys k e → (m : Meter) (left : ℕ) (s : State) (x : Effect) → TakesWith sys s k e m left x
      → (q : ℕ) → (q ≡ r → ⊥) → part_of sys q x.state ≡ part_of sys q s
  takes_with_stays e home m zero s x a q n = ap (λ z. part_of sys q z.state) a
  takes_with_stays e home m (suc left) s x a q n =
      let o = a.0 in
      let g = reacts_good sys sound k (world_of s r) e left o home a.1 in
      ap (λ z. part_of sys q z.state) a.2
      ∙ part_equal _ _
      (λ p. only_same (sys.resource p == q) (o.world.blocks p) (s.blocks p) (λ t. reacts_stays sys k (world_of s r) e left o p (apart_paths e home q n p (eqb-true (sys.resource p) q t)) a.1))
      (λ p. ap (λ z. z p) (with_at_other r o.world.held s.held q n))
      (λ l. only_same (sys.sender l == q) ((posts_of sys k m s o.outs).sent l) (s.sent l) (λ t. post_all_stays sys sound k o.outs (record { locals = m.locals; sent = s.sent; raised = []; messages = [] }) g.outs l (λ f. n (sym (eqb-true (sys.sender l) q t) ∙ f))))
      (with_at_other r _ s.meters q n)

  pub takes_stays : (limit : ℕ) (e : Event) → IsAtResource sys k e → (s : State) (x : Effect) → Takes sys limit s k e x → (q : ℕ) → (q ≡ r → ⊥) → part_of sys q x.state ≡ part_of sys q s
  unfolding Takes
  takes_stays limit e home s x a q n = let m = begun limit k.tick (s.meters r) in takes_with_stays e home m m.left s x a q n

-- The facts on which the law rests, of every system that is sound.
pub lawful : (sys : System) → IsSound sys → (limit : ℕ) → IsLawful (machine sys limit)
lawful sys sound limit = record {
  one = λ p key e o x fits g h. g.gives ∙ takes_same sys sound key limit e fits g.state h.state g.effect h.effect (g.is_part ∙ sym h.is_part) g.takes h.takes ∙ sym h.gives;
  taking = λ p key e o fits g. subst (λ (z : Result Part Event Line Reason). IsTaking (machine sys limit) key z) (sym g.gives) (is_taking sys sound key limit g.effect (takes_good sys sound key limit g.state e fits g.effect g.takes));
  arrives_later = λ key sent a. let t : key.tick ≡ sys.arrival key.a sent = a.tick in let l = sound.later key.a sent a.link in omega arith;
}
