-- The machine takes an event as the model does.
use Rattle.fb_types.proofs.Common.{◌≡◌, ◌≢◌, ℕ, zero, suc, ◌<◌, ⊎_elim, Bool, true, false, cond, [], ◌++◌, length, map, refl, sym, ap, subst, ◌∙◌, Option, Some, slice_get, slice_set, cases_eq, ne_eqb, Path, same_path, Inputs, system_of, or_else, found, without, changed_to, path_at, line_of, World, State, Meter, Agenda, path_of, System, Effect, Takes, TakesWith, begun, with_at, world_of}
use Rattle.fb_types.specs.declared.key.Key.{Key}
use Rattle.fb_types.specs.declared.value.Reason.{Reason}
use Rattle.fb_types.specs.States.{Event as AnEvent}
use Rattle.fb_types.proofs.lemmas.names.PathLaws.{same_path_is}
use Rattle.fb_laws.proofs.lemmas.takings.OneBlockChanges.{reacts_stays}
use Rattle.fb_system.specs.Ports.{variable_of}
use Rattle.fb_net.specs.Worlds.{IsForest, ShellAt, RepresentsAt}
use Rattle.fb_net.specs.declared.resource.Forest.{Forest}
use Rattle.fb_resource.specs.Posts.{arriving}
use Rattle.fb_resource.specs.Takings.{IsHere, IsTakenHere}
use Rattle.fb_resource.specs.Waiting.{meaning}
use Rattle.fb_resource.specs.declared.traffic.Traffic.{Traffic}
use Rattle.fb_resource.specs.declared.tick_counts.TickCounts as counted
use Rattle.fb_resource.proofs.lemmas.Lists.{set_apart, set_here}
use Rattle.fb_sim_machine.specs.Machines.{IsAt, IsTaken}
use Rattle.fb_sim_machine.specs.declared.machine.Machine.{Machine}

-- ---- The other resources

-- the trees of another resource represent the blocks that it has, which the reaction leaves
other_world : (i : Inputs) (k : Key) (e : AnEvent) (w v : World) (t : Forest) → IsForest i t w
    → t.resource ≢ k.resource → (system_of i).resource (path_of e) ≡ k.resource
    → ((p : Path) → same_path p (path_of e) ≡ false → v.blocks p ≡ w.blocks p) → v.held ≡ w.held → IsForest i t v
other_world i k e w v t forest other home blocks held = record {
  blocks = λ n within here. subst (λ b. RepresentsAt i t.roots t.blocks n b) (sym (blocks (path_at (system_of i) n) (away n here))) (forest.blocks n within here);
  ways = forest.ways;
  shells = λ n within here. subst (λ b. ShellAt i t.shell_indexes t.shells n b) (sym (blocks (path_at (system_of i) n) (away n here))) (forest.shells n within here);
  has_shells = forest.has_shells;
  apart = forest.apart;
  held = λ x variable read apart. forest.held x variable read apart ∙ ap (λ h. Some (h (variable_of (system_of i) x))) (sym held);
}
  where
    away : (n : ℕ) → (system_of i).resource (path_at (system_of i) n) ≡ t.resource → same_path (path_at (system_of i) n) (path_of e) ≡ false
    away n here = go (same_path (path_at (system_of i) n) (path_of e)) refl
      where
        go : (b : Bool) → same_path (path_at (system_of i) n) (path_of e) ≡ b → same_path (path_at (system_of i) n) (path_of e) ≡ false
        go true same = absurd (other (sym here ∙ ap (system_of i).resource (same_path_is (path_at (system_of i) n) (path_of e) same) ∙ home))
        go false same = same

with_at_apart : {A : Type 0} (n m : ℕ) (x : A) (f : ℕ → A) → m ≢ n → with_at n x f m ≡ f m
with_at_apart n m x f apart = ap (λ b. cond b x (f m)) (ne_eqb m n apart)

-- What a taking leaves as it was.
record IsElsewhere (s : State) (x : State) (e : AnEvent) (q : ℕ) : Type 0 where
  blocks : (p : Path) → same_path p (path_of e) ≡ false → x.blocks p ≡ s.blocks p
  held : x.held q ≡ s.held q
  meter : x.meters q ≡ s.meters q

elsewhere_with : (sys : System) (s : State) (k : Key) (e : AnEvent) (m : Meter) (left : ℕ) (x : Effect) (q : ℕ) → q ≢ k.resource → TakesWith sys s k e m left x
    → IsElsewhere s x.state e q
elsewhere_with sys s k e m zero x q other h =
    subst (λ (z : Effect). IsElsewhere s z.state e q) (sym h) (record { blocks = λ p differs. refl; held = refl; meter = refl })
elsewhere_with sys s k e m (suc left) x q other h =
    subst (λ (z : Effect). IsElsewhere s z.state e q) (sym h.2)
    (record {
      blocks = λ p differs. reacts_stays sys k (world_of s k.resource) e left h.0 p differs h.1;
      held = with_at_apart k.resource q h.0.world.held s.held other;
      meter = with_at_apart k.resource q _ s.meters other;
    })

elsewhere : (sys : System) (limit : ℕ) (s : State) (k : Key) (e : AnEvent) (x : Effect) (q : ℕ) → q ≢ k.resource → Takes sys limit s k e x → IsElsewhere s x.state e q
unfolding Takes
elsewhere sys limit s k e x q other h = let m = begun limit k.tick (s.meters k.resource) in elsewhere_with sys s k e m m.left x q other h

-- ---- The machine

-- An event was taken in its resource, and the messages were delivered: so the machine took it.
pub taken_at : (i : Inputs) (limit : ℕ) (s : State) (a : Agenda) (k : Key) (e : AnEvent) (stop : Option Reason) (old new : Machine) (mid : Traffic) (tree : Forest) (meter : counted.TickCounts)
    → ((q : ℕ) (t : Forest) → slice_get old.trees.items q ≡ Some t → t.resource ≡ q)
    → k.resource < length old.trees.items → k.resource < length old.meters.items → (system_of i).resource (path_of e) ≡ k.resource
    → IsAt i s (without k a) old → old.traffic.mail.items ≡ []
    → IsTakenHere i limit s k e stop 0 tree meter old.traffic mid
    → ((j : Key) → meaning i new.traffic.agenda j ≡ or_else (found j (map (arriving i) mid.mail.items)) (meaning i mid.agenda j))
    → new.trees.items ≡ slice_set old.trees.items k.resource tree → new.meters.items ≡ slice_set old.meters.items k.resource meter
    → new.traffic.sent.items ≡ mid.sent.items → new.traffic.outbox.lines.items ≡ mid.outbox.lines.items
    → IsTaken i limit s a k e stop old new
taken_at i limit s a k e stop old new mid tree meter ours has_tree has_meter home at none taken put trees meters sent lines = record {
  effect = effect;
  takes = taken.takes;
  stops = taken.stops;
  lines = ap (map (line_of sys)) lines ∙ taken.lines;
  at = record {
    here = λ q t x its_tree its_meter. ⊎_elim (same q t x its_tree its_meter) (apart q t x its_tree its_meter) (cases_eq q k.resource);
    sent = subst (λ ns. (l n : ℕ) → slice_get ns l ≡ Some n → effect.state.sent l ≡ n) (sym sent) taken.counts;
    agenda = λ j.
        ap (λ z. or_else (found j effect.sent) (changed_to (effect.changes j) z)) (at.agenda j)
        ∙ ap (λ z. or_else (found j effect.sent) z) (sym (taken.agenda j))
        ∙ ap (λ es. or_else (found j es) (meaning i mid.agenda j)) (sym mail)
        ∙ sym (put j);
  };
}
  where
    sys : System
    sys = system_of i

    effect : Effect
    effect = taken.effect

    mail : map (arriving i) mid.mail.items ≡ effect.sent
    mail = taken.mail ∙ ap (λ ms. map (arriving i) ms ++ effect.sent) none

    same : (q : ℕ) (t : Forest) (x : counted.TickCounts) → slice_get new.trees.items q ≡ Some t → slice_get new.meters.items q ≡ Some x → q ≡ k.resource → IsHere i effect.state q 0 t x
    same q t x its_tree its_meter is =
        let t_at : slice_get (slice_set old.trees.items k.resource tree) k.resource ≡ Some t = sym (ap (λ ts. slice_get ts k.resource) trees) ∙ ap (slice_get new.trees.items) (sym is) ∙ its_tree in
        let x_at : slice_get (slice_set old.meters.items k.resource meter) k.resource ≡ Some x = sym (ap (λ ms. slice_get ms k.resource) meters) ∙ ap (slice_get new.meters.items) (sym is) ∙ its_meter in
        subst (λ n. IsHere i effect.state n 0 t x) (sym is)
        (subst (λ z. IsHere i effect.state k.resource 0 z x) (set_here old.trees.items k.resource tree t has_tree t_at)
        (subst (λ z. IsHere i effect.state k.resource 0 tree z) (set_here old.meters.items k.resource meter x has_meter x_at) taken.here))

    apart : (q : ℕ) (t : Forest) (x : counted.TickCounts) → slice_get new.trees.items q ≡ Some t → slice_get new.meters.items q ≡ Some x → q ≢ k.resource → IsHere i effect.state q 0 t x
    apart q t x its_tree its_meter other =
        let had : slice_get old.trees.items q ≡ Some t = set_apart old.trees.items k.resource q tree t other (sym (ap (λ ts. slice_get ts q) trees) ∙ its_tree) in
        let had_meter : slice_get old.meters.items q ≡ Some x = set_apart old.meters.items k.resource q meter x other (sym (ap (λ ms. slice_get ms q) meters) ∙ its_meter) in
        let was = at.here q t x had had_meter in
        let stays = elsewhere sys limit s k e effect q other taken.takes in
        record {
          blocks = other_world i k e (world_of s q) (world_of effect.state q) t was.blocks (λ mine. other (sym (ours q t had) ∙ mine)) home stays.blocks stays.held;
          meter = λ l t le. ap (begun l t) stays.meter ∙ was.meter l t le;
          typed = taken.here.typed;
        }
