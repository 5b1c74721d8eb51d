-- Every event can be taken: a taking that does not stop leaves fewer steps.
use Rattle.fb_types.proofs.Common.{◌≡◌, ℕ, zero, suc, ◌<◌, ◌≤◌, ◌⊎◌, refl, sym, ap, ◌∙◌, inl, inr, ⊎_elim, List, [], ◌∷◌, ◌++◌, Bool, true, false, Option, Some, None, arith, if◌then◌else◌, ◌==◌, cond-true, eq-eqb, Path, Port, same_key, found, timer_key, Kind, Basic, Event as EventBlock, Composite, ports_of, is_event_input, System, State, Meter, Stimulated, Expired, Arrived, Raised, path_of, World, Outcome, settled, charted, answered, emissions, remembered, taking, start_of, silent, expires, crossing_in, crossing_out, with_slots, hold_all, memory_of, ReactsAt, Reacts, Effect, Takes, TakesWith, begun, world_of, posts_of, effect_of, out_of_steps, put_of, is_timer_of, timer_change}
use Rattle.fb_types.specs.declared.key.Key.{Key}
use Rattle.fb_types.specs.declared.value.Reason.TheVariants.{Steps}
use Rattle.fb_types.specs.declared.library.Ports.{Ports}
use Rattle.fb_types.specs.declared.event_kind.EventKind.{EventKind}
use Rattle.fb_types.specs.declared.run.TimerAsk.{TimerAsk}
use Rattle.fb_types.specs.declared.run.TimerAsk.TheVariants.{Keep, Clear, At}
use Rattle.fb_types.specs.EventBlocks as blocks
use Rattle.fb_types.specs.States.{Event}
use Rattle.fb_types.proofs.lemmas.events.KeyLaws.{same_key_is}
use Rattle.fb_types.proofs.lemmas.events.ReactionLaws.{emitted_all-left}
use Rattle.fb_types.proofs.lemmas.lists.Lookups.{or_else_some, none_some}
use Rattle.fb_laws.proofs.lemmas.resources.Global.{with_at_same}
use Rattle.fb_laws.proofs.lemmas.takings.Effects.{if_some}
use Rattle.fb_laws.proofs.lemmas.existence.ChartTotal.{chart_total}

-- ---- Reactions

module _ (sys : System) (k : Key) where
  abbrev Comes : (Outcome → Type 0) → ℕ → Type 0
  Comes R left = (o : Outcome) × R o × (o.left ≤ left)

  answered_left : (p : Path) (kind : EventKind) (x : blocks.Reaction) (o : Outcome) → (answered sys k p kind x o).left ≡ o.left
  answered_left p kind x o = emitted_all-left sys k p (emissions (ports_of (EventBlock kind)) (blocks.output_of x.memory) x.emits) (remembered p x o)

  crossing_left : (w : World) (q : Port) (ports : Ports) (left : ℕ) (inward : Bool)
      → (if inward then crossing_in sys k q (taking sys k w q ports left) else crossing_out sys k w q ports left).left ≡ left
  crossing_left w q ports left true = refl
  crossing_left w q ports left false = refl

  reacts_at_total : (w : World) (q : Port) (left : ℕ) (kind : Option Kind) → Comes (ReactsAt sys k w q left kind) left
  reacts_at_total w q left None = (silent w left, refl, omega arith)
  reacts_at_total w q left (Some (Basic t)) =
      let begun = taking sys k w q t.ports left in
      let x = chart_total t q.name (start_of begun q.at) in
      let e = emitted_all-left sys k q.at x.1.emitted (settled q.at x.1 x.0 begun) in
      let l : x.1.left ≤ left = x.3 in
      (charted sys k q.at begun x.1 x.0, (x.0, x.1, x.2, refl), omega arith)
  reacts_at_total w q left (Some (EventBlock kind)) =
      let begun = taking sys k w q (ports_of (EventBlock kind)) left in
      let b = begun.world.blocks q.at in
      let y = blocks.reaction kind (memory_of b.memory) q.name k.tick b.variables in
      let e : (answered sys k q.at kind y begun).left ≡ left = answered_left q.at kind y begun in
      (answered sys k q.at kind y begun, refl, omega arith)
  reacts_at_total w q left (Some (Composite t)) =
      let e = crossing_left w q t.ports left (is_event_input t.ports q.name) in
      (_, refl, omega arith)

  expires_left : (w : World) (p : Path) (left : ℕ) (kind : Option Kind) → (expires sys k w p left kind).left ≡ left
  expires_left w p left None = refl
  expires_left w p left (Some (Basic t)) = refl
  expires_left w p left (Some (EventBlock kind)) = answered_left p kind (blocks.expiry kind (memory_of (w.blocks p).memory) k.tick) (silent w left)
  expires_left w p left (Some (Composite t)) = refl

  reacts_total : (w : World) (e : Event) (left : ℕ) → Comes (Reacts sys k w e left) left
  reacts_total w (Stimulated q bs) left = reacts_at_total (with_slots q.at bs w) q left (sys.kind q.at)
  reacts_total w (Expired p) left = let e = expires_left w p left (sys.kind p) in (expires sys k w p left (sys.kind p), refl, omega arith)
  reacts_total w (Arrived q cs) left = reacts_at_total (record w { held = hold_all cs w.held }) q left (sys.kind q.at)
  reacts_total w (Raised q) left = reacts_at_total w q left (sys.kind q.at)

-- ---- Keys of what is put

abbrev pub In : Key → List Key → Type 0
In k [] = ⊥
In k (x ∷ xs) = (k ≡ x) ⊎ In k xs

pub in_left : (k : Key) (xs ys : List Key) → In k xs → In k (xs ++ ys)
in_left k [] ys h = absurd h
in_left k (x ∷ xs) ys h = ⊎_elim (λ e. inl e) (λ e. inr (in_left k xs ys e)) h

pub in_right : (k : Key) (xs ys : List Key) → In k ys → In k (xs ++ ys)
in_right k [] ys h = h
in_right k (x ∷ xs) ys h = inr (in_right k xs ys h)

abbrev pub keys : {V : Type 0} → List (Key × V) → List Key
keys [] = []
keys (x ∷ xs) = x.0 ∷ keys xs

pub found_in : {V : Type 0} (k : Key) (xs : List (Key × V)) (v : V) → found k xs ≡ Some v → In k (keys xs)
found_in k [] v h = absurd (none_some None v refl h)
found_in k (x ∷ xs) v h =
    ⊎_elim (λ e. inr (found_in k xs v e))
    (λ e. ⊎_elim (λ s. inl (sym (same_key_is x.0 k s.0))) (λ s. absurd (none_some None v refl s.1)) (if_some (same_key x.0 k) (Some x.1) None v e))
    (or_else_some (found k xs) (if same_key x.0 k then Some x.1 else None) v h)

-- the keys at which a taking puts something
pub record Covers (x : Effect) : Type 0 where
  pub list : List Key
  pub covered : (j : Key) (v : Event) → x.changes j ≡ Some (Some v) → In j list

some_some : (v : Event) → Some None ≡ Some (Some v) → ⊥
some_some v h = let e : None ≡ Some v = cc in absurd (none_some None v refl e)

put_found : (o : Option Event) (v : Event) → put_of o ≡ Some (Some v) → (w : Event) × (o ≡ Some w)
put_found None v h = absurd (none_some None (Some v) refl h)
put_found (Some w) v h = (w, refl)

abbrev timer_list : System → ℕ → Path → TimerAsk → List Key
timer_list sys r p Keep = []
timer_list sys r p Clear = []
timer_list sys r p (At t) = timer_key t r (sys.number p) ∷ []

timer_covered : (sys : System) (r : ℕ) (p : Path) (a : TimerAsk) (j : Key) (v : Event) → timer_change sys r p a j ≡ Some (Some v) → In j (timer_list sys r p a)
timer_covered sys r p Keep j v h = absurd (none_some None (Some v) refl h)
timer_covered sys r p Clear j v h =
    ⊎_elim (λ x. absurd (some_some v x.1)) (λ x. absurd (none_some None (Some v) refl x.1)) (if_some (is_timer_of r (sys.number p) j) (Some None) None (Some v) h)
timer_covered sys r p (At t) j v h =
    ⊎_elim
    (λ x. inl (sym (same_key_is (timer_key t r (sys.number p)) j x.0)))
    (λ x. ⊎_elim (λ y. absurd (some_some v y.1)) (λ y. absurd (none_some None (Some v) refl y.1)) (if_some (is_timer_of r (sys.number p) j) (Some None) None (Some v) x.1))
    (if_some (same_key (timer_key t r (sys.number p)) j) (Some (Some (Expired p))) (if is_timer_of r (sys.number p) j then Some None else None) (Some v) h)

effect_covers : (sys : System) (k : Key) (e : Event) (m : Meter) (s : State) (o : Outcome) → Covers (effect_of sys k e m s o)
effect_covers sys k e m s o =
    let raised = (posts_of sys k m s o.outs).raised in
    record {
      list = keys raised ++ timer_list sys k.resource (path_of e) o.timer;
      covered = λ j v h. ⊎_elim
          (λ a. let w = put_found (found j raised) v a in in_left j (keys raised) _ (found_in j raised w.0 w.1))
          (λ a. in_right j (keys raised) _ (timer_covered sys k.resource (path_of e) o.timer j v a))
          (or_else_some (put_of (found j raised)) (timer_change sys k.resource (path_of e) o.timer j) (Some v) h);
    }

-- ---- Takings

-- the steps that are left to a resource in a tick
abbrev pub left_in : (limit tick resource : ℕ) → State → ℕ
left_in limit t r s = (begun limit t (s.meters r)).left

pub record CanTake (sys : System) (limit : ℕ) (s : State) (k : Key) (e : Event) : Type 0 where
  pub effect : Effect
  pub takes : Takes sys limit s k e effect
  pub covers : Covers effect
  pub lower : effect.stop ≡ None → left_in limit k.tick k.resource effect.state < left_in limit k.tick k.resource s

record WithLeft (sys : System) (limit : ℕ) (s : State) (k : Key) (e : Event) (m : Meter) (left : ℕ) : Type 0 where
  effect : Effect
  takes : TakesWith sys s k e m left effect
  covers : Covers effect
  lower : effect.stop ≡ None → left_in limit k.tick k.resource effect.state < left

metered : (limit t n l : ℕ) → (begun limit t (record { tick = Some t; left = n; locals = l })).left ≡ n
metered limit t n l =
    ap (λ (z : Meter). z.left) (cond-true (t == t) (record { tick = Some t; left = n; locals = l }) (record { tick = Some t; left = limit; locals = 0 }) (eq-eqb t t refl))

with_left : (sys : System) (limit : ℕ) (s : State) (k : Key) (e : Event) (m : Meter) (left : ℕ) → WithLeft sys limit s k e m left
with_left sys limit s k e m zero = record {
  effect = out_of_steps s;
  takes = refl;
  covers = record { list = []; covered = λ j v h. absurd (none_some None (Some v) refl h) };
  lower = λ h. absurd (stops h);
}
  where
    stops : Some Steps ≡ None → ⊥
    stops h = none_some None Steps refl (sym h)
with_left sys limit s k e m (suc left) =
    let x = reacts_total sys k (world_of s k.resource) e left in
    let o = x.0 in
    let l : o.left ≤ left = x.2 in
    let locals = (posts_of sys k m s o.outs).locals in
    let a : left_in limit k.tick k.resource (effect_of sys k e m s o).state ≡ o.left =
    ap (λ (z : Meter). (begun limit k.tick z).left) (with_at_same k.resource (record { tick = Some k.tick; left = o.left; locals = locals }) s.meters k.resource refl) ∙ metered limit k.tick o.left locals in
    record {
      effect = effect_of sys k e m s o;
      takes = (o, x.1, refl);
      covers = effect_covers sys k e m s o;
      lower = λ h. omega arith;
    }

pub can_take : (sys : System) (limit : ℕ) (s : State) (k : Key) (e : Event) → CanTake sys limit s k e
unfolding Takes
can_take sys limit s k e =
    let m = begun limit k.tick (s.meters k.resource) in
    let x = with_left sys limit s k e m m.left in
    record { effect = x.effect; takes = x.takes; covers = x.covers; lower = x.lower }
