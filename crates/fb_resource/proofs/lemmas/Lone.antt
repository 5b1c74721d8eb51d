-- Nothing was put out, or one event, where nothing is asked of a timer.
use Rattle.fb_resource.proofs.lemmas.Common.{◌≡◌, ◌+◌, ◌<◌, ◌≤◌, ◌++◌, ℕ, Bool, true, false, cond, List, [], ◌∷◌, All, length, map, Option, Some, refl, sym, ap, subst, ◌∙◌, append-nil, arith, option_map, slice_index, Vec, length-set, Inputs, system_of, changed_to, local_key, or_else, same_key, Path, State, path_of, Posts, post_all, Key, Message, TimerAsk, Keep, Reason, Event, Contents, waiting, event_of, out_of, Out, Outbox, Forest, BelongsTo, CountsAre, IsMessage, IsPostable, IsPut, IsSendable, arriving, AreReady, IsTakenHere, with_event, IsInOrder, meaning, Traffic, TickCounts}
use Rattle.fb_types.proofs.Common.{get_or, lookup, slice_set, All-push, timer_change}
use Rattle.fb_types.specs.declared.run.Target.{Target}
use Rattle.fb_types.specs.States as model
use Rattle.fb_types.proofs.lemmas.events.KeyLaws.{same_key_from, same_key_is}
use Rattle.fb_types.specs.declared.run.Event.TheVariants.{Local}
use Rattle.fb_agenda.specs.declared.least.Least.{Least}
use Rattle.fb_net.specs.declared.outbox.Out.TheVariants as outs
use Rattle.fb_net.specs.declared.outbox.OutgoingMessage.{OutgoingMessage}
use Rattle.fb_resource.specs.Posts.{ArePosted, IsOneMessage, message_of}
use Rattle.fb_resource.specs.Takings.{IsEmptied, IsLone, IsSettled, MaySettle, Settles, with_next}
use Rattle.fb_resource.proofs.lemmas.PostLaws.{local_waits, message_is, one_message, order_put, posted_local}
use Rattle.fb_resource.proofs.lemmas.Posted.{none_before, only_of}

-- ---- On an agenda in addition

symmetric : (j k : Key) → same_key j k ≡ same_key k j
symmetric j k = go (same_key j k) (same_key k j) refl refl
  where
    go : (a b : Bool) → same_key j k ≡ a → same_key k j ≡ b → a ≡ b
    go true true there back = refl
    go false false there back = refl
    go true false there back = sym (same_key_from k j (sym (same_key_is j k there))) ∙ back
    go false true there back = sym (sym (same_key_from j k (sym (same_key_is k j back))) ∙ there)

pub with_put : (k : Key) (e : Event) (a : Contents) → IsPut a (with_event k e a) k e
with_put k e a j =
    ap (λ b. or_else (cond b (Some e) (lookup (same_key j) a.running)) (lookup (same_key j) a.later)) (symmetric j k) ∙ go (same_key k j)
  where
    go : (b : Bool) → or_else (cond b (Some e) (lookup (same_key j) a.running)) (lookup (same_key j) a.later)
        ≡ cond b (Some e) (or_else (lookup (same_key j) a.running) (lookup (same_key j) a.later))
    go true = refl
    go false = refl

-- an event in addition changes no timers
pub due_next : (b : Bool) (k : Key) (e : Event) (a : Contents) → (with_next b k e a).due ≡ a.due
due_next true k e a = refl
due_next false k e a = refl

pub raised_lone :
    (k : Key) (t : Target) (a : Contents) (before after : ℕ) (from to : Outbox) → from.outs.items ≡ outs.Local t ∷ [] → from.timer ≡ Keep → after ≡ before + 1 → IsEmptied from to
    → IsLone k t a (with_event (local_key k.tick k.resource before) (Local t) a) before after from to
raised_lone k t a before after from to alone keeps counted emptied = record {
  alone = alone;
  keeps = keeps;
  put = with_put (local_key k.tick k.resource before) (Local t) a;
  due = refl;
  counted = counted;
  emptied = emptied;
}

-- ---- Where it waits

module _ (i : Inputs) (k : Key) (t : Target) (old new : Contents) (before after : ℕ) (from to : Outbox) (lone : IsLone k t old new before after from to) (sent : Vec ℕ) (mail : Vec Message) where
  -- it is settled as the model settles it
  pub lone_settled : (p : Path) (counts : ℕ → ℕ) → CountsAre sent.items counts
      → IsSettled i k p from.timer (post_all (system_of i) k (map (out_of (system_of i)) from.outs.items) (record { locals = before; sent = counts; raised = []; messages = [] }))
      (record { agenda = old; sent = sent; mail = mail; outbox = from }) (record { agenda = new; sent = sent; mail = mail; outbox = to }) after
  lone_settled p counts are =
      let start : Posts = record { locals = before; sent = counts; raised = []; messages = [] } in
      let posts : List Out → Posts = λ os. post_all (system_of i) k (map (out_of (system_of i)) os) start in
      let starting : ArePosted i start old old mail.items mail.items before sent.items = record { agenda = λ j. refl; mail = sym (append-nil (map (arriving i) mail.items)); counted = refl; sends = are } in
      let one = posted_local i k old old new mail.items mail.items start before sent.items t starting lone.put in
      record {
        mid = old;
        set = λ j. subst (λ (a : TimerAsk). meaning i old j ≡ changed_to (timer_change (system_of i) k.resource p a j) (meaning i old j)) (sym lone.keeps) refl;
        posted =
            subst (λ (n : ℕ). ArePosted i (posts from.outs.items) old new mail.items mail.items n sent.items) (sym lone.counted)
            (subst (λ (os : List Out). ArePosted i (posts os) old new mail.items mail.items (before + 1) sent.items) (sym lone.alone) one);
      }

  -- and events may be taken again
  pub lone_ready : (x : Outbox) → k.resource < length (system_of i).resource_names → All (IsPostable (system_of i) k.resource) from.outs.items → All (BelongsTo (system_of i)) from.lines.items
      → AreReady i k.tick (record { agenda = old; sent = sent; mail = mail; outbox = x }) → AreReady i k.tick (record { agenda = new; sent = sent; mail = mail; outbox = to })
  lone_ready x named postable belong had = record {
    order = order_put i k.tick old new (local_key k.tick k.resource before) (Local t) lone.put (λ one. omega (arith, one))
        (local_waits i k before t (subst (λ (os : List Out). All (IsPostable (system_of i) k.resource) os) lone.alone postable 0 (outs.Local t) (omega arith)) named) lone.due had.order;
    due = ap length lone.due ∙ had.due;
    counted = had.counted;
    mail = had.mail;
    lines = subst (All (BelongsTo (system_of i))) (sym lone.emptied.lines) belong;
    none = lone.emptied.none;
    keeps = lone.emptied.keeps;
  }

-- ---- Where nothing was put out, or one message

-- nothing changes
pub still_settles : (i : Inputs) (l : Least) (n : ℕ) (q : Traffic) → MaySettle i l q → q.outbox.outs.items ≡ [] → q.outbox.timer ≡ Keep → Settles i l n q n q
still_settles i l n q may none keeps = record {
  settled = λ counts are.
      let start : Posts = record { locals = n; sent = counts; raised = []; messages = [] } in
      record {
        mid = q.agenda;
        set = λ j. subst (λ (a : TimerAsk). meaning i q.agenda j ≡ changed_to (timer_change (system_of i) l.key.resource (path_of (event_of i l.event)) a j) (meaning i q.agenda j)) (sym keeps) refl;
        posted =
            subst (λ (os : List Out). ArePosted i (post_all (system_of i) l.key (map (out_of (system_of i)) os) start) q.agenda q.agenda q.mail.items q.mail.items n q.sent.items) (sym none)
            (record { agenda = λ j. refl; mail = sym (append-nil (map (arriving i) q.mail.items)); counted = refl; sends = are });
      };
  ready = record { order = may.order; due = may.due; counted = may.counted; mail = may.mail; lines = may.lines; none = none; keeps = keeps };
  later = λ all. all;
  few = omega arith;
  lines = refl;
}

-- the message is posted
pub message_settles : (i : Inputs) (l : Least) (n link : ℕ) (old : Traffic) (sent : Vec ℕ) (mail : Vec Message) (left : Vec Out)
    → MaySettle i l old → IsOneMessage link old.outbox.outs.items → old.outbox.timer ≡ Keep
    → ((s : OutgoingMessage) → old.outbox.outs.items ≡ outs.Send s ∷ []
    → mail.items ≡ old.mail.items ++ message_of (system_of i) l.key s (slice_index old.sent.items link) ∷ [])
    → sent.items ≡ slice_set old.sent.items link (slice_index old.sent.items link + 1) → l.key.tick < (system_of i).arrival link l.key.tick → left.items ≡ []
    → Settles i l n old n (record { agenda = old.agenda; sent = sent; mail = mail; outbox = record old.outbox { outs = left } })
message_settles i l n link old sent mail left may one keeps put counted later none =
    let sys = system_of i in
    let k = l.key in
    let s = one.message in
    let number = slice_index old.sent.items s.link in
    let sendable : IsSendable sys k.resource s = subst (All (IsPostable sys k.resource)) one.is may.outs 0 (outs.Send s) (omega arith) in
    let pushed : mail.items ≡ old.mail.items ++ message_of sys k s number ∷ [] =
    subst (λ (m : ℕ). mail.items ≡ old.mail.items ++ message_of sys k s (slice_index old.sent.items m) ∷ []) one.over (put s one.is) in
    let more : sent.items ≡ slice_set old.sent.items s.link (number + 1) =
    subst (λ (m : ℕ). sent.items ≡ slice_set old.sent.items m (slice_index old.sent.items m + 1)) one.over counted in
    let after : k.tick < sys.arrival s.link k.tick = subst (λ (m : ℕ). k.tick < sys.arrival m k.tick) one.over later in
    let there = sendable.there in
    let counts_are = may.counted in
    let within : s.link < length old.sent.items = omega (arith, there, counts_are) in
    record {
      settled = λ counts are.
          let start : Posts = record { locals = n; sent = counts; raised = []; messages = [] } in
          let starting : ArePosted i start old.agenda old.agenda old.mail.items old.mail.items n old.sent.items =
          record { agenda = λ j. refl; mail = sym (append-nil (map (arriving i) old.mail.items)); counted = refl; sends = are } in
          record {
            mid = old.agenda;
            set = λ j. subst (λ (a : TimerAsk). meaning i old.agenda j ≡ changed_to (timer_change sys k.resource (path_of (event_of i l.event)) a j) (meaning i old.agenda j)) (sym keeps) refl;
            posted =
                subst (λ (os : List Out). ArePosted i (post_all sys k (map (out_of sys) os) start) old.agenda old.agenda old.mail.items mail.items n sent.items) (sym one.is)
                (one_message i k old.agenda old.agenda old.mail.items old.mail.items mail.items start (outs.Send s) n old.sent.items sent.items s refl more starting sendable within pushed);
          };
      ready = record {
        order = may.order;
        due = may.due;
        counted = ap length counted ∙ length-set old.sent.items link _ ∙ may.counted;
        mail = subst (All (IsMessage i)) (sym pushed) (All-push (IsMessage i) old.mail.items (message_of sys k s number) may.mail (message_is i k number s sendable));
        lines = may.lines;
        none = none;
        keeps = keeps;
      };
      later = λ all. subst (All (λ m. k.tick < m.arrives)) (sym pushed) (All-push (λ m. k.tick < m.arrives) old.mail.items (message_of sys k s number) all after);
      few = omega arith;
      lines = refl;
    }

-- ---- The only message

module _ (link : ℕ) (os first : List Out) (x : Out) (one : IsOneMessage link os) (popped : os ≡ first ++ x ∷ []) where
  few : length os ≤ 1
  few = let count = ap length one.is in omega (arith, count)

  -- it leaves nothing
  pub left_none : first ≡ []
  left_none = none_before os first x popped few

  pub not_local : (t : Target) → x ≡ outs.Local t → ⊥
  not_local t local =
      let both : outs.Local t ∷ [] ≡ outs.Send one.message ∷ [] = ap (λ z. z ∷ []) (sym local) ∙ sym (only_of os first x popped few) ∙ one.is in
      cc

pub not_none : (link : ℕ) (os : List Out) → IsOneMessage link os → os ≡ [] → ⊥
not_none link os one none =
    let count = ap length (sym none ∙ one.is) in
    omega (arith, count)

-- it comes after the mail
pub mailed : (i : Inputs) (k : Key) (link number : ℕ) (os first : List Out) (x : Out) (left s : OutgoingMessage) (old new : List Message)
    → IsOneMessage link os → os ≡ first ++ x ∷ [] → x ≡ outs.Send left → os ≡ outs.Send s ∷ []
    → new ≡ old ++ message_of (system_of i) k (record left { link = link }) number ∷ []
    → new ≡ old ++ message_of (system_of i) k s number ∷ []
mailed i k link number os first x left s old new one popped came is pushed =
    let both : outs.Send left ∷ [] ≡ outs.Send s ∷ [] = ap (λ z. z ∷ []) (sym came) ∙ sym (only_of os first x popped (few link os first x one popped)) ∙ is in
    let same : left ≡ s = cc in
    let its : outs.Send one.message ∷ [] ≡ outs.Send s ∷ [] = sym one.is ∙ is in
    let that : one.message ≡ s = cc in
    let linked : link ≡ s.link = one.over ∙ ap (λ (m : OutgoingMessage). m.link) that in
    pushed
    ∙ ap (λ (m : OutgoingMessage). old ++ message_of (system_of i) k (record m { link = link }) number ∷ []) same
    ∙ ap (λ (l : ℕ). old ++ message_of (system_of i) k (record s { link = l }) number ∷ []) linked

-- one event that was put out, where there is no other
pub lone_out : (os : List Out) (x d : Out) → length os ≡ 1 → x ≡ get_or os 0 d → os ≡ x ∷ []
lone_out [] x d one at = absurd (omega (arith, one))
lone_out (y ∷ []) x d one at = ap (λ (z : Out). z ∷ []) (sym at)
lone_out (y ∷ z ∷ os) x d one at = absurd (omega (arith, one))

pub nothing_out : (os : List Out) → length os < 1 → os ≡ []
nothing_out [] none = refl
nothing_out (x ∷ os) none = absurd (omega (arith, none))

-- ---- Put after all

-- what waits alike is in order alike
order_alike : (i : Inputs) (tick : ℕ) (a b : Contents) → ((j : Key) → waiting b j ≡ waiting a j) → b.due ≡ a.due → IsInOrder i tick a → IsInOrder i tick b
order_alike i tick a b same due order = record {
  waits = λ j e is. order.waits j e (sym (same j) ∙ is);
  timed = λ j s n e is timer. rw due (order.timed j s n e (sym (same j) ∙ is) timer);
  home = λ j e is one. order.home j e (sym (same j) ∙ is) one;
}

pub ready_alike : (i : Inputs) (tick : ℕ) (q : Traffic) (b : Contents) → ((j : Key) → waiting b j ≡ waiting q.agenda j) → b.due ≡ q.agenda.due
    → AreReady i tick q → AreReady i tick (record q { agenda = b })
ready_alike i tick q b same due had = record {
  order = order_alike i tick q.agenda b same due had.order;
  due = ap length due ∙ had.due;
  counted = had.counted;
  mail = had.mail;
  lines = had.lines;
  none = had.none;
  keeps = had.keeps;
}

pub taken_alike : (i : Inputs) (limit : ℕ) (s : State) (k : Key) (e : model.Event) (stop : Option Reason) (from : ℕ) (t : Forest) (x : TickCounts) (old q : Traffic) (b : Contents)
    → ((j : Key) → waiting b j ≡ waiting q.agenda j) → IsTakenHere i limit s k e stop from t x old q → IsTakenHere i limit s k e stop from t x old (record q { agenda = b })
taken_alike i limit s k e stop from t x old q b same had = record {
  effect = had.effect;
  takes = had.takes;
  stops = had.stops;
  here = had.here;
  counts = had.counts;
  agenda = λ j. ap (option_map (event_of i)) (same j) ∙ had.agenda j;
  mail = had.mail;
  lines = had.lines;
}
