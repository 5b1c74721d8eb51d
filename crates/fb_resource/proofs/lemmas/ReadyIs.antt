-- What waits stays in order, and what a reaction puts out may be posted.
use Rattle.fb_resource.proofs.lemmas.Common.{◌≡◌, ℕ, suc, ◌+◌, ◌^◌, ◌<◌, ◌≤◌, Bool, true, false, cond, List, [], ◌∷◌, length, map, refl, sym, ap, subst, ◌∙◌, Some, None, All, arith, eq-eqb, Inputs, AreAccepted, system_of, changed_to, same_key, timer_key, path_at, path_of, System, is_timer_of, Key, TimerAsk, Keep, Contents, waiting, Event, out_of, Out, Outbox, event_of, Forest, IsMetered, IsPostable, IsInOrder, MayWait, TickCounts}
use Rattle.fb_types.proofs.Common.{◌-◌, Result, Ok, Err, OnOk, All-nil, All-cons, All-head, All-tail, IsWithinLimits, Each, port_of, World}
use Rattle.fb_types.specs.declared.run.TimerAsk.TheVariants.{Clear, At}
use Rattle.fb_types.specs.declared.run.Event.TheVariants.{Timer}
use Rattle.fb_types.specs.Reactions as reactions
use Rattle.fb_types.proofs.lemmas.events.KeyLaws.{same_key_is}
use Rattle.fb_laws.specs.Sound.{IsSound}
use Rattle.fb_laws.proofs.lemmas.soundness.Accepting.{sound_of}
use Rattle.fb_laws.proofs.lemmas.soundness.Outs.{GoodOutcome, IsGood, reacts_good}
use Rattle.fb_laws.proofs.lemmas.takings.Timers as timers
use Rattle.fb_agenda.specs.Agendas.{IsTimed, IsInResource, timer_set}
use Rattle.fb_net.specs.Outs.{IsOut, only_lines}
use Rattle.fb_net.specs.declared.outbox.Out.TheVariants.{Local, Send}
use Rattle.fb_net.specs.Events.{CameTo}
use Rattle.fb_net.proofs.lemmas.taking.AskedTimers.{asked_first}
use Rattle.fb_laws.specs.Typed.{AreTyped, IsTypedEvent, IsTypedOut, KeepsTypes}
use Rattle.fb_laws.proofs.lemmas.typing.Accepted.{accepted_typed}
use Rattle.fb_laws.proofs.lemmas.typing.ReactionTypes.{reacts_typed}
use Rattle.fb_resource.specs.Takings.{IsLater}
use Rattle.fb_resource.proofs.lemmas.PostLaws.{port_path, timer_class, timer_instance, timer_resource}

-- ---- Timers

pub lies_in : (i : Inputs) (tick r n : ℕ) (a : Contents) → IsInOrder i tick a → (system_of i).resource (path_at (system_of i) n) ≡ r → IsInResource r n a
lies_in i tick r n a order here j s e waits timer =
    let home = order.home j e waits (timer_class s n j timer) in
    let same : home.0 ≡ n = sym (timer_instance j.resource home.0 j home.2) ∙ timer_instance s n j timer in
    let lies : (system_of i).resource (path_of (event_of i (Timer home.0))) ≡ j.resource =
    subst (λ (z : Event). (system_of i).resource (path_of (event_of i z)) ≡ j.resource) home.3 (order.waits j e waits).event.here in
    sym (timer_resource s n j timer) ∙ sym lies ∙ ap (λ m. (system_of i).resource (path_at (system_of i) m)) same ∙ here

-- after an ask, what waits is in order
pub order_timer : (i : Inputs) (tick r n : ℕ) (ask : TimerAsk) (old mid : Contents) → n < length (system_of i).paths
    → (system_of i).resource (path_at (system_of i) n) ≡ r → r < length (system_of i).resource_names → IsLater tick ask
    → ((j : Key) → waiting mid j ≡ changed_to (timer_set r n ask j) (waiting old j)) → IsTimed mid → IsInOrder i tick old → IsInOrder i tick mid
order_timer i tick r n ask old mid within here named later set timed order = record {
  waits = λ j f is. (both ask later j f (sym (set j) ∙ is)).0;
  timed = timed;
  home = λ j f is. (both ask later j f (sym (set j) ∙ is)).1;
}
  where
    AtHome : Key → Event → Type 0
    AtHome j e = j.class ≡ 1 → (m : ℕ) × (m < length (system_of i).paths) × (is_timer_of j.resource m j ≡ true) × (e ≡ Timer m)

    Fine : Key → Event → Type 0
    Fine j e = MayWait i tick j e × AtHome j e

    old_fine : (j : Key) (f : Event) → waiting old j ≡ Some f → Fine j f
    old_fine j f is = (order.waits j f is, order.home j f is)

    put : (t : ℕ) → tick ≤ t → Fine (timer_key t r n) (Timer n)
    put t le = (
      record { event = record { numbered = within; here = here }; resource = named; later = le; typed = tt; own = refl },
      λ one. (n, within, its, refl),
    )
      where
        its : is_timer_of r n (timer_key t r n) ≡ true
        its = rw (eq-eqb r r refl, eq-eqb n n refl) refl

    both : (ask : TimerAsk) → IsLater tick ask → (j : Key) (f : Event) → changed_to (timer_set r n ask j) (waiting old j) ≡ Some f → Fine j f
    both Keep le j f is = old_fine j f is
    both Clear le j f is = go (is_timer_of r n j) is
      where
        go : (b : Bool) → changed_to (cond b (Some None) None) (waiting old j) ≡ Some f → Fine j f
        go true h = absurd cc
        go false h = old_fine j f h
    both (At t) le j f is = go (same_key (timer_key t r n) j) refl (is_timer_of r n j) is
      where
        go : (b : Bool) → same_key (timer_key t r n) j ≡ b → (d : Bool) → changed_to (cond b (Some (Some (Timer n))) (cond d (Some None) None)) (waiting old j) ≡ Some f → Fine j f
        go true same d h =
            let one : timer_key t r n ≡ j = same_key_is (timer_key t r n) j same in
            let it : Timer n ≡ f = cc in
            subst (λ (z : Event). Fine j z) it (subst (λ (z : Key). Fine z (Timer n)) one (put t le))
        go false same true h = absurd cc
        go false same false h = old_fine j f h

-- ---- What a reaction puts out

pub sound_system : (i : Inputs) → AreAccepted i → IsWithinLimits i.plan → IsSound (system_of i)
sound_system i accepted limits = sound_of i (record { accepted = accepted; limits = limits })

later_is : (tick : ℕ) (ask : TimerAsk) → timers.IsLater tick ask → IsLater tick ask
later_is tick Keep h = tt
later_is tick Clear h = tt
later_is tick (At t) h = h

postable : (i : Inputs) (sound : IsSound (system_of i)) (k : Key) (outs : List Out) → All (IsOut (system_of i) k.resource) outs
    → Each (IsGood (system_of i) sound k) (map (out_of (system_of i)) outs) → All (IsTypedOut (system_of i)) (map (out_of (system_of i)) outs)
    → All (IsPostable (system_of i) k.resource) outs
postable i sound k [] h g t = All-nil (IsPostable (system_of i) k.resource)
postable i sound k (o ∷ os) h g t =
    All-cons (IsPostable (system_of i) k.resource) o os
    (one o (All-head (IsOut (system_of i) k.resource) o os h) g.0 (All-head (IsTypedOut (system_of i)) (out_of (system_of i) o) (map (out_of (system_of i)) os) t))
    (postable i sound k os (All-tail (IsOut (system_of i) k.resource) o os h) g.1 (All-tail (IsTypedOut (system_of i)) (out_of (system_of i) o) (map (out_of (system_of i)) os) t))
  where
    sys : System
    sys = system_of i

    one : (o : Out) → IsOut (system_of i) k.resource o → IsGood (system_of i) sound k (out_of (system_of i) o) → IsTypedOut (system_of i) (out_of (system_of i) o) → IsPostable (system_of i) k.resource o
    one (Local t) is good typed = is
    one (Send s) is good typed = record {
      sending = is;
      there =
          let link : s.link ≡ sys.link k.resource (sys.resource (port_of sys s.target).at) =
          is.link ∙ ap (λ p. sys.link k.resource (sys.resource p)) (sym (port_path sys s.target)) in
          let there = good.there in
          omega (arith, link, there);
      typed = typed;
    }

-- what came of a reaction may be posted, and sets a timer of now or later
pub came_good : (i : Inputs) (k : Key) (e : Event) (left after : ℕ) (stop : _) (tree : Forest) (x : Outbox) (before : _) (w : World) → AreAccepted i → IsWithinLimits i.plan
    → (system_of i).resource (path_of (event_of i e)) ≡ k.resource → AreTyped (system_of i) w → IsTypedEvent (system_of i) (event_of i e)
    → CameTo i k e (only_lines before) left stop tree after x w
    → All (IsOut (system_of i) k.resource) x.outs.items → All (IsPostable (system_of i) k.resource) x.outs.items × IsLater k.tick x.timer
came_good i k e left after stop tree x before w accepted limits home typed_world typed_event came outs = (
  postable i sound k x.outs.items outs
      (subst (λ os. Each (IsGood (system_of i) sound k) os) (sym came.represents.outs) good.outs)
      (subst (λ (os : List reactions.Out). All (IsTypedOut (system_of i)) os) (sym came.represents.outs) kept.outs),
  subst (IsLater k.tick) (sym (came.represents.timer ∙ asked_first came.outcome.timer)) (later_is k.tick came.outcome.timer good.timer),
)
  where
    sound : IsSound (system_of i)
    sound = sound_system i accepted limits

    good : GoodOutcome (system_of i) sound k came.outcome
    good = reacts_good (system_of i) sound k w (event_of i e) left came.outcome home came.reacts

    kept : KeepsTypes (system_of i) came.outcome
    kept = reacts_typed (system_of i) (accepted_typed i accepted).system k w (event_of i e) left came.outcome typed_world typed_event came.reacts

-- ---- Counts

pub metered_after : (limit : ℕ) (m after : TickCounts) (left : ℕ) → IsMetered limit m → m.meter.left ≡ suc left → after.meter.left ≤ left → after.locals ≤ m.locals + 2 ^ 64
    → IsMetered limit after
metered_after limit m after left is one fewer more = record {
  left = let most = is.left in omega (arith, most, one, fewer);
  locals = let most = is.left in let few = is.locals in
      let steps : (limit - m.meter.left) + 1 ≤ limit - after.meter.left = omega (arith, most, one, fewer) in
      omega (arith, few, more, steps);
}

-- ---- What holds where a call succeeds

pub when_ok : {A E P Q : Type 0} (r : Result A E) → OnOk r P → (P → Q) → OnOk r Q
when_ok (Ok x) p f = f p
when_ok (Err x) p f = tt

pub when_ok_both : {A E P R Q : Type 0} (r : Result A E) → OnOk r P → OnOk r R → (P → R → Q) → OnOk r Q
when_ok_both (Ok x) p t f = f p t
when_ok_both (Err x) p t f = tt

pub when_ok_three : {A E P R S Q : Type 0} (r : Result A E) → OnOk r P → OnOk r R → OnOk r S → (P → R → S → Q) → OnOk r Q
when_ok_three (Ok x) p t s f = f p t s
when_ok_three (Err x) p t s f = tt

pub when_ok_four : {A E P R S T Q : Type 0} (r : Result A E) → OnOk r P → OnOk r R → OnOk r S → OnOk r T → (P → R → S → T → Q) → OnOk r Q
when_ok_four (Ok x) p t s u f = f p t s u
when_ok_four (Err x) p t s u f = tt
