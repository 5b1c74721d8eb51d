-- A system has at most one simulation.
use Rattle.fb_types.proofs.Common.{◌≡◌, ℕ, zero, suc, ◌<◌, sym, ap, subst, ◌∙◌, List, [], ◌∷◌, Option, Some, None, refl, true≢false, is_some, unwrap_or, All-head, All-tail, Ordering, Less, Equal, Greater, is_eq, Port, Kind, Basic, Event, Composite, key_cmp, NoneBelow, System, State, Config, Meter, Stimulated, Expired, Arrived, Raised, World, Outcome, Reacts, ReactsAt, charted, start_of, taking, with_slots, hold_all, Effect, Takes, TakesWith, begun, effect_of, world_of, Chain, Taken, TakesLeast, NothingAfter, RestsAt, after, opening, ending_of, ending_by, last, Key, Reason}
use Rattle.std.specs.List.{All}
use Rattle.std.specs.Ordering.{ordering_reverse}
use Rattle.fb_types.specs.States.{Event as AnEvent}
use Rattle.fb_types.specs.Headline.{OneSimulation}
use Rattle.fb_types.proofs.lemmas.determined.ChartLaws.{chart-one}
use Rattle.fb_types.proofs.lemmas.events.KeyLaws.{key_cmp_total, same_key_is}

-- ---- Reactions and takings

reacts_at-one : (sys : System) (k : Key) (w : World) (q : Port) (left : ℕ) (kind : Option Kind) (o x : Outcome)
    → ReactsAt sys k w q left kind o → ReactsAt sys k w q left kind x → o ≡ x
reacts_at-one sys k w q left None o x h i = h ∙ sym i
reacts_at-one sys k w q left (Some (Basic t)) o x h i =
    let first = taking sys k w q t.ports left in
    let e = chart-one t q.name (start_of first q.at) h.0 i.0 h.1 i.1 h.2 i.2 in
    h.3 ∙ ((λ j. charted sys k q.at first (e.1 j) (e.0 j)) ∙ sym i.3)
reacts_at-one sys k w q left (Some (Event kind)) o x h i = h ∙ sym i
reacts_at-one sys k w q left (Some (Composite t)) o x h i = h ∙ sym i

-- A reaction is determined by what there is before it.
pub reacts-one : (sys : System) (k : Key) (w : World) (e : AnEvent) (left : ℕ) (o x : Outcome)
    → Reacts sys k w e left o → Reacts sys k w e left x → o ≡ x
reacts-one sys k w (Stimulated q bs) left o x h i = reacts_at-one sys k (with_slots q.at bs w) q left (sys.kind q.at) o x h i
reacts-one sys k w (Expired p) left o x h i = h ∙ sym i
reacts-one sys k w (Arrived q cs) left o x h i =
    reacts_at-one sys k (record w { held = hold_all cs w.held }) q left (sys.kind q.at) o x h i
reacts-one sys k w (Raised q) left o x h i = reacts_at-one sys k w q left (sys.kind q.at) o x h i

takes_with-one : (sys : System) (s : State) (k : Key) (e : AnEvent) (m : Meter) (left : ℕ) (x y : Effect)
    → TakesWith sys s k e m left x → TakesWith sys s k e m left y → x ≡ y
takes_with-one sys s k e m zero x y h i = h ∙ sym i
takes_with-one sys s k e m (suc left) x y h i =
    h.2 ∙ (ap (effect_of sys k e m s) (reacts-one sys k (world_of s k.resource) e left h.0 i.0 h.1 i.1) ∙ sym i.2)

-- So is taking one event.
pub takes-one : (sys : System) (limit : ℕ) (s : State) (k : Key) (e : AnEvent) (x y : Effect)
    → Takes sys limit s k e x → Takes sys limit s k e y → x ≡ y
unfolding Takes
takes-one sys limit s k e x y h i =
    let m = begun limit k.tick (s.meters k.resource) in takes_with-one sys s k e m m.left x y h i

-- ---- The least event

some-one : {A : Type 0} (o : Option A) (x y : A) → o ≡ Some x → o ≡ Some y → x ≡ y
some-one o x y e f = ap (λ z. unwrap_or z x) (sym e ∙ f)

not-both : {A B : Type 0} (o : Option A) (x : A) → o ≡ None → o ≡ Some x → B
not-both o x n s = absurd (true≢false (ap is_some (sym s ∙ n)))

least_key-one : (sys : System) (limit : ℕ) (c : Config) (t u : Taken) → TakesLeast sys limit c t → TakesLeast sys limit c u → t.key ≡ u.key
least_key-one sys limit c t u h i = by (key_cmp t.key u.key) refl
  where
    by : (o : Ordering) → key_cmp t.key u.key ≡ o → t.key ≡ u.key
    by Less e = not-both (c.agenda t.key) t.event (i.least t.key e) h.waits
    by Equal e = same_key_is t.key u.key (ap is_eq e)
    by Greater e =
        not-both (c.agenda u.key) u.event (h.least u.key (key_cmp_total.antisymm u.key t.key ∙ ap ordering_reverse e)) i.waits

-- The taking of the least event is determined by state and agenda.
pub takes_least-one : (sys : System) (limit : ℕ) (c : Config) (t u : Taken) → TakesLeast sys limit c t → TakesLeast sys limit c u → t ≡ u
takes_least-one sys limit c t u h i =
    let k = least_key-one sys limit c t u h i in
    let e = some-one (c.agenda u.key) t.event u.event (ap c.agenda (sym k) ∙ h.waits) i.waits in
    let first = subst (λ z. Takes sys limit c.state u.key z t.effect) e (subst (λ z. Takes sys limit c.state z t.event t.effect) k h.takes) in
    let x = takes-one sys limit c.state u.key u.event t.effect u.effect first i.takes in
    λ j. record { key = k j; event = e j; effect = x j }

-- ---- The chain

-- if nothing waits below the horizon, nothing below it is taken
none-taken : {B : Type 0} (sys : System) (limit horizon : ℕ) (c : Config) (t : Taken)
    → NoneBelow c.agenda horizon → TakesLeast sys limit c t → t.key.tick < horizon → B
none-taken sys limit horizon c t none h below = not-both (c.agenda t.key) t.event (none t.key below) h.waits

module _ (sys : System) (limit horizon : ℕ) where
  abbrev Below : List Taken → Type 0
  Below ts = All (λ t. t.key.tick < horizon) ts

  abbrev Rests : Config → List Taken → Type 0
  Rests c ts = RestsAt horizon (ending_of horizon ts) (last c ts).agenda

  -- what is left after an event that stops nothing
  rests-on : (c : Config) (t : Taken) (ts : List Taken) → t.effect.stop ≡ None → Rests c (t ∷ ts) → Rests (after c t) ts
  rests-on c t ts e h = subst (λ s. RestsAt horizon (ending_by s t.key (ending_of horizon ts)) (last (after c t) ts).agenda) e h

  chain-one : (ts us : List Taken) (c : Config) → Chain sys limit c ts → Chain sys limit c us → Below ts → Below us → Rests c ts → Rests c us
      → ts ≡ us
  chain-one [] [] c h i below under x y = refl
  chain-one [] (u ∷ us) c h i below under x y = none-taken sys limit horizon c u x i.0 (All-head (λ t. t.key.tick < horizon) u us under)
  chain-one (t ∷ ts) [] c h i below under x y = none-taken sys limit horizon c t y h.0 (All-head (λ t. t.key.tick < horizon) t ts below)
  chain-one (t ∷ ts) (u ∷ us) c h i below under x y =
      let e = takes_least-one sys limit c t u h.0 i.0 in
      let same_stop : u.effect.stop ≡ t.effect.stop = sym (λ j. (e j).effect.stop) in
      let after_none : t.effect.stop ≡ None → ts ≡ us = λ goes.
      chain-one ts us (after c t) h.2 (subst (λ z. Chain sys limit (after c z) us) (sym e) i.2)
      (All-tail (λ t. t.key.tick < horizon) t ts below) (All-tail (λ t. t.key.tick < horizon) u us under) (rests-on c t ts goes x)
      (subst (λ z. Rests (after c z) us) (sym e) (rests-on c u us (same_stop ∙ goes) y)) in
      let rest = following (t.effect.stop) refl same_stop after_none in
      λ j. e j ∷ rest j
    where
      following : (s : Option Reason) → t.effect.stop ≡ s → u.effect.stop ≡ t.effect.stop → (t.effect.stop ≡ None → ts ≡ us) → ts ≡ us
      following None goes same_stop rest = rest goes
      following (Some r) stops same_stop rest =
          let first : ts ≡ [] = subst (λ s. NothingAfter s ts) stops h.1 in
          let second : us ≡ [] = subst (λ s. NothingAfter s us) (same_stop ∙ stops) i.1 in
          first ∙ sym second

pub one-simulation : OneSimulation
one-simulation sys stimuli horizon limit ts us h i =
    chain-one sys limit horizon ts us (opening sys stimuli) h.chain i.chain h.below i.below h.rests i.rests
