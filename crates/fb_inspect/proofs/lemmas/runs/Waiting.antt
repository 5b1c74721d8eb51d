-- The events that wait in a run are ones that a walk through its trace can take.
use Rattle.fb_types.proofs.Common.{◌≡◌, ◌⊎◌, ℕ, Bool, true, false, eqb, List, [], ◌∷◌, Option, Some, None, refl, sym, ◌∙◌, ap, subst, inl, inr, ⊎_elim, ◌&&◌, if◌then◌else◌, cases_eq, eq-eqb, ne_eqb, same_Some, Kind, Basic, Event, Composite, Emission, is_event_input, ports_of, changed_to, found, local_key, message_key, or_else, same_key, timer_key, without, Each, Path, Port, same_path, Out, Outcome, Reacts, ReactsAt, Sends, World, answered, carried_from, crossing_in, crossing_out, emissions, emitted, emitted_all, expires, hold_all, memory_of, remembered, silent, spread, taking, with_slots, Agenda, Arrived, Expired, Meter, Raised, State, Stimulated, path_of, System, Posts, agenda_after, effect_of, is_timer_of, post, post_all, posts_of, put_of, timer_change}
use Rattle.fb_types.specs.declared.event_kind.EventKind.{EventKind}
use Rattle.fb_types.specs.declared.key.Key.{Key}
use Rattle.fb_types.specs.declared.library.CompositeType.{CompositeType}
use Rattle.fb_types.specs.declared.run.TimerAsk.{TimerAsk}
use Rattle.fb_types.specs.declared.run.TimerAsk.TheVariants.{Keep, Clear, At}
use Rattle.fb_types.specs.declared.value.Value.{Value}
use Rattle.fb_types.specs.EventBlocks as blocks
use Rattle.fb_types.specs.Reactions.{Local}
use Rattle.fb_types.specs.States.{Event as AnEvent}
use Rattle.fb_types.proofs.lemmas.lists.EachLaws.{each_append}
use Rattle.fb_types.proofs.lemmas.events.KeyLaws.{same_key_from, same_key_is}
use Rattle.fb_types.proofs.lemmas.names.PathLaws.{same_path_is}
use Rattle.fb_laws.proofs.lemmas.takings.Agendas.{Holds, holds_none, holds_or_else, holds_some}
use Rattle.fb_inspect.specs.walk.Looks.{Look, Seen, Taking, due_after}
use Rattle.fb_inspect.specs.walk.RunTakings.{AreThere, CanReact, IsTakingOf, IsThere, MayRun, RunsAfter, due_before}
use Rattle.fb_inspect.proofs.lemmas.reactions.TimerKept.{emits_some}

-- The timer of an event block waits under its key, and the look says when it goes off.
pub record IsTimer (sys : System) (look : Look) (k : Key) (p : Path) : Type 0 where
  pub kind : EventKind
  pub kind_is : sys.kind p ≡ Some (Event kind)
  pub key_is : k ≡ timer_key k.tick (sys.resource p) (sys.number p)
  pub due : (look.blocks p).due ≡ Some k.tick
  pub may : MayRun kind (memory_of (look.blocks p).memory)

-- An event may wait under a key.
abbrev pub MayWait : System → Look → Key → AnEvent → Type 0
MayWait sys look k (Stimulated q bs) = IsThere sys q.at × (k.resource ≡ sys.resource q.at)
MayWait sys look k (Expired p) = IsTimer sys look k p
MayWait sys look k (Arrived q cs) = IsThere sys q.at × (k.resource ≡ sys.resource q.at)
MayWait sys look k (Raised q) = IsThere sys q.at × (k.resource ≡ sys.resource q.at)

pub can_react : (sys : System) (look : Look) (k : Key) (e : AnEvent) → MayWait sys look k e → CanReact sys look k e
can_react sys look k (Stimulated q bs) h = h.0
can_react sys look k (Expired p) h =
    let some = emits_some h.kind (memory_of (look.blocks p).memory) k.tick h.may in
    (h.kind, h.kind_is, record { due = h.due; first = some.first; rest = some.rest; emits = some.are })
can_react sys look k (Arrived q cs) h = h.0
can_react sys look k (Raised q) h = h.0

pub at_home : (sys : System) (look : Look) (k : Key) (e : AnEvent) → MayWait sys look k e → k.resource ≡ sys.resource (path_of e)
at_home sys look k (Stimulated q bs) h = h.1
at_home sys look k (Expired p) h = ap (λ (j : Key). j.resource) h.key_is
at_home sys look k (Arrived q cs) h = h.1
at_home sys look k (Raised q) h = h.1

-- ---- What goes out

module _ (sys : System) (Good : Port → Type 0) (there : (q : Port) → Each Good (sys.targets q)) (k : Key) where
  abbrev pub OutIsThere : Out → Type 0
  OutIsThere (Local q) = Good q × (k.resource ≡ sys.resource q.at)
  OutIsThere (Sends q carried) = Good q

  spread_there : (carried : List (Port × Value)) (qs : List Port) → Each Good qs → Each OutIsThere (spread sys k.resource carried qs)
  spread_there carried [] h = tt
  spread_there carried (q ∷ qs) h =
      let rest = spread_there carried qs h.1 in
      ⊎_elim
      (λ (e : sys.resource q.at ≡ k.resource). (subst (λ (b : Bool). OutIsThere (if b then Local q else Sends q carried)) (sym (eq-eqb (sys.resource q.at) k.resource e)) (h.0, sym e), rest))
      (λ (n : sys.resource q.at ≡ k.resource → ⊥). (subst (λ (b : Bool). OutIsThere (if b then Local q else Sends q carried)) (sym (ne_eqb (sys.resource q.at) k.resource n)) h.0, rest))
      (cases_eq (sys.resource q.at) k.resource)

  emitted_there : (p : Path) (es : List Emission) (o : Outcome) → Each OutIsThere o.outs → Each OutIsThere (emitted_all sys k p es o).outs
  emitted_there p [] o h = h
  emitted_there p (e ∷ es) o h =
      emitted_there p es (emitted sys k p e o) (each_append OutIsThere o.outs _ h (spread_there (carried_from p e.values) _ (there (record { at = p; name = e.event }))))

  abbrev GoesThere : Outcome → Type 0
  GoesThere o = Each OutIsThere o.outs

  answered_there : (p : Path) (kind : EventKind) (r : blocks.Reaction) (o : Outcome) → GoesThere o → GoesThere (answered sys k p kind r o)
  answered_there p kind r o h = emitted_there p (emissions (ports_of (Event kind)) (blocks.output_of r.memory) r.emits) (remembered p r o) h

  crossing_there : (w : World) (q : Port) (t : CompositeType) (left : ℕ) (c : Bool) → GoesThere (if c then crossing_in sys k q (taking sys k w q t.ports left) else crossing_out sys k w q t.ports left)
  crossing_there w q t left true = spread_there [] _ (there q)
  crossing_there w q t left false = emitted_there q.at (_ ∷ []) (silent w left) tt

  at_there : (w : World) (q : Port) (left : ℕ) (kind : Option Kind) (o : Outcome) → ReactsAt sys k w q left kind o → GoesThere o
  at_there w q left None o h = subst GoesThere (sym h) tt
  at_there w q left (Some (Basic t)) o h = subst GoesThere (sym h.3) (emitted_there q.at h.1.emitted _ tt)
  at_there w q left (Some (Event kind)) o h =
      let begun = taking sys k w q (ports_of (Event kind)) left in
      let b = begun.world.blocks q.at in
      subst GoesThere (sym h) (answered_there q.at kind (blocks.reaction kind (memory_of b.memory) q.name k.tick b.variables) begun tt)
  at_there w q left (Some (Composite t)) o h = subst GoesThere (sym h) (crossing_there w q t left (is_event_input t.ports q.name))

  expires_there : (w : World) (p : Path) (left : ℕ) (kind : Option Kind) → GoesThere (expires sys k w p left kind)
  expires_there w p left None = tt
  expires_there w p left (Some (Basic t)) = tt
  expires_there w p left (Some (Event kind)) = answered_there p kind (blocks.expiry kind (memory_of (w.blocks p).memory) k.tick) (silent w left) tt
  expires_there w p left (Some (Composite t)) = tt

  pub reacts_there : (w : World) (event : AnEvent) (left : ℕ) (o : Outcome) → Reacts sys k w event left o → GoesThere o
  reacts_there w (Stimulated q bs) left o h = at_there (with_slots q.at bs w) q left (sys.kind q.at) o h
  reacts_there w (Expired p) left o h = subst GoesThere (sym h) (expires_there w p left (sys.kind p))
  reacts_there w (Arrived q cs) left o h = at_there (record w { held = hold_all cs w.held }) q left (sys.kind q.at) o h
  reacts_there w (Raised q) left o h = at_there w q left (sys.kind q.at) o h

  -- ---- New events

  module _ (P : Key → AnEvent → Type 0) (raises : (q : Port) (n : ℕ) → Good q → k.resource ≡ sys.resource q.at → P (local_key k.tick k.resource n) (Raised q))
      (arrives : (q : Port) (carried : List (Port × Value)) (t l n : ℕ) → Good q → P (message_key t (sys.resource q.at) l n) (Arrived q carried)) where
    pub record ArePosts (x : Posts) : Type 0 where
      pub raised : Each (λ (e : Key × AnEvent). P e.0 e.1) x.raised
      pub messages : Each (λ (e : Key × AnEvent). P e.0 e.1) x.messages

    post_there : (o : Out) (x : Posts) → OutIsThere o → ArePosts x → ArePosts (post sys k o x)
    post_there (Local q) x h are = record { raised = each_append (λ (e : Key × AnEvent). P e.0 e.1) x.raised _ are.raised (raises q x.locals h.0 h.1, tt); messages = are.messages }
    post_there (Sends q carried) x h are =
        let l = sys.link k.resource (sys.resource q.at) in
        record { raised = are.raised; messages = each_append (λ (e : Key × AnEvent). P e.0 e.1) x.messages _ are.messages (arrives q carried (sys.arrival l k.tick) l (x.sent l) h, tt) }

    pub posts_there : (os : List Out) (x : Posts) → Each OutIsThere os → ArePosts x → ArePosts (post_all sys k os x)
    posts_there [] x h are = are
    posts_there (o ∷ os) x h are = posts_there os (post sys k o x) h.1 (post_there o x h.0 are)

pub found_holds : {X : Type 0} (P : Key → X → Type 0) (j : Key) (es : List (Key × X)) → Each (λ (e : Key × X). P e.0 e.1) es → Holds (P j) (found j es)
found_holds P j [] h = holds_none (P j)
found_holds {X} P j (e ∷ es) h = holds_or_else (P j) (found j es) (if same_key e.0 j then Some e.1 else None) (found_holds P j es h.1) (by (same_key e.0 j) refl)
  where
    by : (b : Bool) → same_key e.0 j ≡ b → Holds (P j) (if b then Some e.1 else None)
    by true s = holds_some (P j) e.1 (subst (λ (z : Key). P z e.1) (same_key_is e.0 j s) h.0)
    by false s = holds_none (P j)

-- ---- After a taking

module _ (sys : System) (k : Key) (event : AnEvent) (left more : ℕ) (look : Look) (o : Outcome) (x : Taking)
    (its : IsTakingOf sys k (path_of event) left more look (due_before look event) o x) (wait : MayWait sys look k event) (j : Key) where
  abbrev here : Path
  here = path_of event

  abbrev P : AnEvent → Type 0
  P = MayWait sys x.after j

  home : k.resource ≡ sys.resource here
  home = at_home sys look k event wait

  -- a timer of another block stays
  other_timer : (z : Path) → IsTimer sys look j z → same_path z here ≡ false → IsTimer sys x.after j z
  other_timer z h e =
      let same : x.after.blocks z ≡ look.blocks z = its.others z e in
      record {
        kind = h.kind;
        kind_is = h.kind_is;
        key_is = h.key_is;
        due = ap (λ (s : Seen). s.due) same ∙ h.due;
        may = subst (λ (s : Seen). MayRun h.kind (memory_of s.memory)) (sym same) h.may;
      }

  -- two timers of one block have one key
  one_key : (p : Path) → IsTimer sys look k p → IsTimer sys look j p → same_key k j ≡ true
  one_key p a b =
      let tick : k.tick ≡ j.tick = same_Some k.tick j.tick (sym a.due ∙ b.due) in
      same_key_from k j (a.key_is ∙ ap (λ (t : ℕ). timer_key t (sys.resource p) (sys.number p)) tick ∙ sym b.key_is)

  differ : (b : Bool) → b ≡ true → b ≡ false → ⊥
  differ b t f = cc

  kept_due : (e : AnEvent) → MayWait sys look k e → IsTimer sys look j (path_of e) → same_key k j ≡ false → due_before look e ≡ Some j.tick
  kept_due (Stimulated q bs) w h other = h.due
  kept_due (Expired p) w h other = absurd (differ (same_key k j) (one_key p w h) other)
  kept_due (Arrived q cs) w h other = h.due
  kept_due (Raised q) w h other = h.due

  own_timer : o.timer ≡ Keep → IsTimer sys look j here → same_key k j ≡ false → IsTimer sys x.after j here
  own_timer keep h other =
      record {
        kind = h.kind;
        kind_is = h.kind_is;
        key_is = h.key_is;
        due = its.due_is ∙ ap (λ (a : TimerAsk). due_after a (due_before look event)) keep ∙ kept_due event wait h other;
        may = subst (RunsAfter h.kind (memory_of (look.blocks here).memory) (memory_of (x.after.blocks here).memory)) keep (its.runs h.kind h.kind_is) h.may;
      }

  -- an event that waited, and was not taken, waits still, but for a timer of the block
  stays : (e : AnEvent) → MayWait sys look j e → (IsTimer sys look j here → P (Expired here)) → P e
  stays (Stimulated q bs) h own = h
  stays (Expired z) h own = by (same_path z here) refl
    where
      by : (b : Bool) → same_path z here ≡ b → IsTimer sys x.after j z
      by true e =
          let same : z ≡ here = same_path_is z here e in
          subst (λ (y : Path). IsTimer sys x.after j y) (sym same) (own (subst (λ (y : Path). IsTimer sys look j y) same h))
      by false e = other_timer z h e
  stays (Arrived q cs) h own = h
  stays (Raised q) h own = h

  without_holds : (a : Agenda) → Holds (MayWait sys look j) (a j) → (same_key k j ≡ false → IsTimer sys look j here → P (Expired here)) → Holds P (without k a j)
  without_holds a h own = by (same_key k j) refl
    where
      by : (b : Bool) → same_key k j ≡ b → Holds P (if b then None else a j)
      by true e = holds_none P
      by false e = λ y is. stays y (h y is) (own e)

  is_own : IsTimer sys look j here → is_timer_of k.resource (sys.number here) j ≡ true
  is_own h = ap (is_timer_of k.resource (sys.number here)) h.key_is ∙ by
    where
      by : is_timer_of k.resource (sys.number here) (timer_key j.tick (sys.resource here) (sys.number here)) ≡ true
      by = ap (λ (b : Bool). b && true && eqb (sys.number here) (sys.number here)) (eq-eqb (sys.resource here) k.resource (sym home)) ∙ eq-eqb (sys.number here) (sys.number here) refl

  cleared : (a : Agenda) → Holds (MayWait sys look j) (a j) → Holds P (changed_to (if is_timer_of k.resource (sys.number here) j then Some None else None) (without k a j))
  cleared a h = by (is_timer_of k.resource (sys.number here) j) refl
    where
      by : (b : Bool) → is_timer_of k.resource (sys.number here) j ≡ b → Holds P (changed_to (if b then Some None else None) (without k a j))
      by true e = holds_none P
      by false e = without_holds a h (λ other timer. absurd (differ _ (is_own timer) e))

  set : (t : ℕ) → o.timer ≡ At t → same_key (timer_key t k.resource (sys.number here)) j ≡ true → IsTimer sys x.after j here
  set t at e =
      let key : timer_key t k.resource (sys.number here) ≡ j = same_key_is (timer_key t k.resource (sys.number here)) j e in
      let tick : t ≡ j.tick = ap (λ (z : Key). z.tick) key in
      by its.asks
    where
      kept_or_at : Keep ≡ At t → ⊥
      kept_or_at same = cc

      by : (o.timer ≡ Keep) ⊎ ((kind : EventKind) × (sys.kind here ≡ Some (Event kind))) → IsTimer sys x.after j here
      by (inl keep) = absurd (kept_or_at (sym keep ∙ at))
      by (inr kind) =
          let key : timer_key t k.resource (sys.number here) ≡ j = same_key_is (timer_key t k.resource (sys.number here)) j e in
          let tick : t ≡ j.tick = ap (λ (z : Key). z.tick) key in
          record {
            kind = kind.0;
            kind_is = kind.1;
            key_is = sym key ∙ ap (λ (r : ℕ). timer_key t r (sys.number here)) home ∙ ap (λ (n : ℕ). timer_key n (sys.resource here) (sys.number here)) tick;
            due = its.due_is ∙ ap (λ (a : TimerAsk). due_after a (due_before look event)) at ∙ ap (λ (n : ℕ). Some n) tick;
            may = subst (RunsAfter kind.0 (memory_of (look.blocks here).memory) (memory_of (x.after.blocks here).memory)) at (its.runs kind.0 kind.1);
          }

  changed : (a : Agenda) → Holds (MayWait sys look j) (a j) → (ask : TimerAsk) → o.timer ≡ ask → Holds P (changed_to (timer_change sys k.resource here ask j) (without k a j))
  changed a h Keep is = without_holds a h (λ other timer. own_timer is timer other)
  changed a h Clear is = cleared a h
  changed a h (At t) is = by (same_key (timer_key t k.resource (sys.number here)) j) refl
    where
      by : (b : Bool) → same_key (timer_key t k.resource (sys.number here)) j ≡ b
          → Holds P (changed_to (if b then Some (Some (Expired here)) else if is_timer_of k.resource (sys.number here) j then Some None else None) (without k a j))
      by true e = holds_some P (Expired here) (set t is e)
      by false e = cleared a h

  put : (a : Agenda) → Holds (MayWait sys look j) (a j) → (r : Option AnEvent) → Holds P r → Holds P (changed_to (or_else (put_of r) (timer_change sys k.resource here o.timer j)) (without k a j))
  put a h None r = changed a h o.timer refl
  put a h (Some e) r = r

  pub waits_after :
      AreThere sys → (w : World) → Reacts sys k w event left o → (m : Meter) (s : State) (a : Agenda) → Holds (MayWait sys look j) (a j)
      → Holds P (agenda_after k a (effect_of sys k event m s o) j)
  waits_after there w reacts m s a h =
      let outs = reacts_there sys (λ (q : Port). IsThere sys q.at) there k w event left o reacts in
      let posts = posts_there sys (λ (q : Port). IsThere sys q.at) there k (MayWait sys x.after) (λ q n good own. (good, own)) (λ q carried t l n good. (good, refl)) o.outs
      (record { locals = m.locals; sent = s.sent; raised = []; messages = [] }) outs (record { raised = tt; messages = tt }) in
      holds_or_else P (found j (posts_of sys k m s o.outs).messages) _ (found_holds (MayWait sys x.after) j _ posts.messages)
      (put a h (found j (posts_of sys k m s o.outs).raised) (found_holds (MayWait sys x.after) j _ posts.raised))
