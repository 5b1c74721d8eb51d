-- How the steps of a tick add up.
use Rattle.fb_types.proofs.Common.{◌≡◌, ◌<◌, ◌∷◌, ◌++◌, ◌∙◌, ℕ, Bool, true, false, List, [], Option, Some, None, length, ◌-◌, ◌+◌, ◌^◌, min, get_or, refl, sym, ap, subst, arith, slice_get, slice_set, option_map, length-set, slice_get_read, Inputs, system_of, stimuli_of, Precedes, Taken, after, last, opening, Config, Meter, State, System, begun}
use Rattle.fb_types.specs.declared.key.Key.{Key}
use Rattle.fb_types.specs.declared.value.Reason.{Reason}
use Rattle.fb_types.specs.States.{Event}
use Rattle.fb_types.specs.States as model
use Rattle.fb_types.proofs.lemmas.lists.ByIndex.{element_at}
use Rattle.fb_types.specs.declared.run.Event as run
use Rattle.fb_agenda.specs.Agendas.{Contents, waiting}
use Rattle.fb_net.specs.Events.{event_of}
use Rattle.fb_resource.specs.Counts.{meter_of}
use Rattle.fb_resource.specs.Waiting.{meaning}
use Rattle.fb_sim_machine.specs.Completions.{Reaches}
use Rattle.fb_resource.specs.declared.tick_counts.TickCounts.{TickCounts}
use Rattle.fb_sim_machine.specs.Machines.{IsAt, IsReady, IsTaken}
use Rattle.fb_sim_machine.specs.declared.machine.Machine.{Machine}
use Rattle.fb_stop.specs.Found.{ArrivesAt, instance_of}
use Rattle.fb_stop.specs.Spent.{AreSpent, Charges, ChargesAll, ChargesIf, ChargesTaken, HasSpent, is_of, used}
use Rattle.fb_stop.specs.declared.found.EventSite.{EventSite}
use Rattle.fb_stop.specs.declared.found.EventSite.TheVariants.{Timer, Port as AtPort}
use Rattle.fb_stop.specs.declared.spent.Moment.{Moment}

-- what the counts of a resource leave is what the state of the model leaves
pub left_as :
    (i : Inputs) (s : State) (a : model.Agenda) (limit : ℕ) (k : Key) (m : Machine) (left : ℕ) → IsReady i limit k.tick m → IsAt i s a m → k.resource < length (system_of i).resource_names
    → (x : TickCounts) × (slice_get m.meters.items k.resource ≡ Some x) × (left ≡ (begun limit k.tick (meter_of x)).left) → left ≡ (begun limit k.tick (s.meters k.resource)).left
left_as i s a limit k m left ready at named found =
    let counted = ready.trees_counted in
    let within : k.resource < length m.trees.items = omega (arith, counted, named) in
    let tree = element_at m.trees.items k.resource within in
    let here = at.here k.resource tree.0 found.0 tree.1 found.1 in
    found.2 ∙ sym (ap (λ (z : Meter). z.left) (here.meter limit k.tick (omega arith)))

-- the counts of a resource, as they are read
pub counts_at :
    (ms : List TickCounts) (r limit tick : ℕ) (m : TickCounts) (left : ℕ) → r < length ms → m ≡ get_or ms r m → left ≡ (begun limit tick (meter_of m)).left
    → (x : TickCounts) × (slice_get ms r ≡ Some x) × (left ≡ (begun limit tick (meter_of x)).left)
counts_at ms r limit tick m left within read is = (m, slice_get_read ms (length ms) r m refl within read, is)

-- the instance at which an event arrives is there
pub instance_there : (sys : System) (e : Event) (at : EventSite) → ArrivesAt sys e at → instance_of at < length sys.paths
instance_there sys e (Timer k) arrives = arrives.0
instance_there sys e (AtPort t) arrives = arrives.0.port.instance

-- steps are added to those of an instance
pub charges : (xs : List ℕ) (k used before new : ℕ) → k < length xs → before ≡ get_or xs k before → new ≡ min (before + used) (2 ^ 64 - 1) → Charges k used xs (slice_set xs k new)
charges xs k used before new within read sum = record {
  before = before;
  was = slice_get_read xs (length xs) k before refl within read;
  is = ap (slice_set xs k) sum;
}

-- one event
pub has_spent :
    (i : Inputs) (limit : ℕ) (m : Moment) (s : State) (a : model.Agenda) (k : Key) (e : Event) (stop : Option Reason) (from to : Machine) (taken : IsTaken i limit s a k e stop from to) (x y : ℕ) (old new : List ℕ)
    → x ≡ (begun limit k.tick (s.meters k.resource)).left → y ≡ (begun limit k.tick (taken.effect.state.meters k.resource)).left → (there : Bool) → is_of m k ≡ there
    → ChargesIf there (system_of i) e (x - y) old new → HasSpent i limit m s a k e stop to old new
has_spent i limit m s a k e stop from to taken x y old new before after there is charged =
    record {
      from = from;
      taken = taken;
      charged = subst (λ (b : Bool). ChargesIf b (system_of i) e (used limit k s taken.effect.state) old new) (sym is)
          (subst (λ (n : ℕ). ChargesIf there (system_of i) e n old new) (ap (λ (n : ℕ). n - y) before ∙ ap (λ (n : ℕ). (begun limit k.tick (s.meters k.resource)).left - n) after) charged);
    }

-- one more event
pub charges_more :
    (sys : System) (limit : ℕ) (m : Moment) (c : Config) (ts : List Taken) (t : Taken) (old mid new : List ℕ) → ChargesAll sys limit m c ts old mid → ChargesTaken sys limit m (last c ts).state t mid new
    → ChargesAll sys limit m c (ts ++ t ∷ []) old new
unfolding ChargesAll
charges_more sys limit m c [] t old mid new none one = (new, subst (λ (l : List ℕ). ChargesTaken sys limit m c.state t l new) none one, refl)
charges_more sys limit m c (u ∷ us) t old mid new all one = (all.0, all.1, charges_more sys limit m (after c u) us t all.0 mid new all.2 one)

-- the instances are as many as before
pub charged_alike : (there : Bool) (sys : System) (e : Event) (n : ℕ) (old new : List ℕ) → ChargesIf there sys e n old new → length new ≡ length old
charged_alike true sys e n old new charged = ap (λ (l : List ℕ). length l) charged.2.is ∙ length-set old (instance_of charged.0) (min (charged.2.before + n) (2 ^ 64 - 1))
charged_alike false sys e n old new same = ap (λ (l : List ℕ). length l) same

module _ (i : Inputs) (horizon limit : ℕ) (m : Moment) (d : Config) (taken : List Taken) (reaches : Reaches i horizon limit (opening (system_of i) (stimuli_of i)) d taken)
    (first before after : List ℕ) (charged : ChargesAll (system_of i) limit m (opening (system_of i) (stimuli_of i)) taken first before) where
  -- the charges of the event that is taken next
  pub charged_on : (k : Key) (e : Event) (stop : Option Reason) (new : Machine) (h : HasSpent i limit m d.state d.agenda k e stop new before after)
      → ChargesAll (system_of i) limit m (opening (system_of i) (stimuli_of i)) (taken ++ record { key = k; event = e; effect = h.taken.effect } ∷ []) first after
  charged_on k e stop new h =
      let t : Taken = record { key = k; event = e; effect = h.taken.effect } in
      charges_more (system_of i) limit m (opening (system_of i) (stimuli_of i)) taken t first before after charged
      (subst (λ (c : Config). ChargesTaken (system_of i) limit m c.state t before after) (sym reaches.leads) h.charged)

  -- the least event stops the run
  pub are_spent : (old : Contents) (k : Key) (e : run.Event) (reason : Reason) (new : Machine) → ((j : Key) → d.agenda j ≡ meaning i old j) → waiting old k ≡ Some e
      → ((q : Key) → Precedes q k → waiting old q ≡ None) → k.tick < horizon → HasSpent i limit m d.state d.agenda k (event_of i e) (Some reason) new before after → AreSpent i horizon limit m first after
  are_spent old k e reason new agenda found least below h = record {
    before = d;
    taken = taken;
    reaches = reaches;
    stop = record { key = k; event = event_of i e; effect = h.taken.effect };
    takes = record {
      waits = agenda k ∙ ap (option_map (event_of i)) found;
      least = λ j pre. agenda j ∙ ap (option_map (event_of i)) (least j pre);
      takes = h.taken.takes;
    };
    below = below;
    reason = reason;
    stops = h.taken.stops;
    charged = charged_on k (event_of i e) (Some reason) new h;
  }
