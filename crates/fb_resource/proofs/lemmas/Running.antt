-- A run of a resource in code has the result of a run of what represents it.
use Rattle.fb_resource.proofs.lemmas.Common.{◌≡◌, ◌<◌, ◌≤◌, ℕ, List, [], map, Option, Some, None, refl, sym, ap, subst, ◌∙◌, arith, Vec, option_map, unwrap_or, Inputs, system_of, Local, machine, State, Key, Message, Reason, Contents, waiting, Event, event_of, IsMetered, meter_of, arriving, AreReady, IsHere, IsTakenHere, Traffic, IsOf, Represents, TickCounts}
use Rattle.fb_types.proofs.Common.{Item, Run, TakesAlone, end, line_of, count_of, IsAtResource}
use Rattle.fb_types.specs.declared.run.Line.{Line}
use Rattle.fb_types.specs.declared.run.StopMark.{StopMark}
use Rattle.fb_types.specs.Machines.{after}
use Rattle.fb_types.specs.States as model
use Rattle.fb_types.proofs.lemmas.lists.Lookups.{none_some}
use Rattle.fb_laws.specs.Sound.{IsSound}
use Rattle.fb_resource.specs.Counts.{IsUnused}
use Rattle.fb_resource.specs.Takings.{IsEmpty}
use Rattle.fb_resource.specs.Resources.{HasRun, RanTo, mark_of}
use Rattle.fb_resource.specs.Runs.{ComesTo, HasEnded, IsRunning, Running, RepresentsRunning, at_rest, in_run, with_traffic}
use Rattle.fb_resource.specs.declared.resource.Resource.{Resource}
use Rattle.fb_resource.specs.declared.resource.WindowDone.TheVariants.{Ran}
use Rattle.fb_resource.proofs.lemmas.Begins.{ready_empty}
use Rattle.fb_resource.proofs.lemmas.Comes.{come_more, come_rest, come_stop}
use Rattle.fb_resource.proofs.lemmas.Lone.{ready_alike}
use Rattle.fb_resource.proofs.lemmas.Meters.{alike_unused, here_later, unused_alike}
use Rattle.fb_resource.proofs.lemmas.Standing.{HasLeft, home_after, item_at, stands_after, takes_alone}

-- ---- What is ready

not_less : (a b : ℕ) → ¬ (a < b) → b ≤ a
not_less a b h = omega (arith, h)

-- where nothing waits below a tick, its traffic are ready from there on
ready_to : (i : Inputs) (t to : ℕ) (q : Traffic) → AreReady i t q → ((j : Key) → j.tick < to → waiting q.agenda j ≡ None) → AreReady i to q
ready_to i t to q ready none = record {
  order = record {
    waits = λ j f h. let may = ready.order.waits j f h in record { event = may.event; resource = may.resource; later = not_less j.tick to (clash j f h); typed = may.typed; own = may.own };
    timed = ready.order.timed;
    home = ready.order.home;
  };
  due = ready.due;
  counted = ready.counted;
  mail = ready.mail;
  lines = ready.lines;
  none = ready.none;
  keeps = ready.keeps;
}
  where
    clash : (j : Key) (f : Event) → waiting q.agenda j ≡ Some f → j.tick < to → ⊥
    clash j f h lt = let gone = none j lt in absurd cc

-- ---- The beginning

module _ (i : Inputs) (limit : ℕ) (x : Resource) (m : TickCounts) (q : Traffic) (empty : IsEmpty q) where
  pub running_first : IsOf i (with_traffic x q) → IsMetered limit m → unwrap_or m.tick 0 ≤ x.clock → IsRunning i limit (in_run x m q)
  running_first of metered past = record {
    named = of.named;
    metered = metered;
    past = past;
    ready = ready_empty i x.clock q of.order of.due of.counted empty;
    home = of.home;
  }

  pub comes_first : (t : ℕ) (l : Local (machine (system_of i) limit)) → x.stopped ≡ None → IsUnused x.clock (meter_of m) → Represents i limit l (with_traffic x q)
      → ComesTo i limit x.tree.resource t l (in_run x m q)
  comes_first t l live unused represents = record {
    at = l;
    represents = record {
      state = represents.state;
      part = represents.part;
      here = record {
        blocks = represents.blocks;
        meter = alike_unused x.clock (represents.state.meters x.tree.resource) (meter_of m) (represents.unused live) unused;
        typed = represents.typed;
      };
      counts = represents.counts;
      own = represents.own;
      inbox = represents.inbox;
      waits = represents.waits;
      stop = represents.stop;
    };
    come = record {
      items = [];
      chain = tt;
      below = tt;
      ends = refl;
      clock = λ b. refl;
      lines = ap (map (line_of (system_of i))) empty.lines;
      sent = ap (map (arriving i)) empty.mail;
    };
  }

-- ---- Its traffic

-- to it come back the agenda and the counts that it had
pub traffic_back : (x : Resource) (q : Traffic) → q.agenda ≡ x.agenda → q.sent ≡ x.sent → with_traffic x q ≡ x
traffic_back x q agenda sent = ap (λ (a : Contents). record x { agenda = a; sent = q.sent }) agenda ∙ ap (λ (v : Vec ℕ). record x { sent = v }) sent

-- the agenda and the counts that its run left come back to it
pub run_back :
    (i : Inputs) (limit : ℕ) (x y : Resource) (q r : Traffic) (to : ℕ) (a : Contents) (sent : Vec ℕ) (lines : Vec Line) (mail : Vec Message) (stop : Option StopMark)
    → q.agenda ≡ x.agenda → q.sent ≡ x.sent → a ≡ r.agenda → sent ≡ r.sent → lines ≡ r.outbox.lines → mail ≡ r.mail
    → HasRun i limit (with_traffic x q) to (Ran (with_traffic y r) r.outbox.lines r.mail stop) → HasRun i limit x to (Ran (record y { agenda = a; sent = sent }) lines mail stop)
run_back i limit x y q r to a sent lines mail stop had_agenda had_sent agenda_is sent_is lines_are mail_is ran =
    subst (λ (z : Resource). HasRun i limit z to (Ran (record y { agenda = a; sent = sent }) lines mail stop)) (traffic_back x q had_agenda had_sent)
    (subst (λ (z : Contents). HasRun i limit (with_traffic x q) to (Ran (record y { agenda = z; sent = sent }) lines mail stop)) (sym agenda_is)
    (subst (λ (z : Vec ℕ). HasRun i limit (with_traffic x q) to (Ran (record y { agenda = r.agenda; sent = z }) lines mail stop)) (sym sent_is)
    (subst (λ (z : Vec Line). HasRun i limit (with_traffic x q) to (Ran (with_traffic y r) z mail stop)) (sym lines_are)
    (subst (λ (z : Vec Message). HasRun i limit (with_traffic x q) to (Ran (with_traffic y r) r.outbox.lines z stop)) (sym mail_is) ran))))

-- ---- One event

-- until it stops, no step of a tick from the clock on was used
abbrev pub Rests : Running → Type 0
Rests x = x.stopped ≡ None → IsUnused x.clock (meter_of x.meter)

stands_for : (i : Inputs) (limit : ℕ) (l : Local (machine (system_of i) limit)) (x : Running) → Rests x → RepresentsRunning i limit l x → Represents i limit l (at_rest x)
stands_for i limit l x rests s = record {
  state = s.state;
  part = s.part;
  blocks = s.here.blocks;
  typed = s.here.typed;
  unused = λ live. unused_alike x.clock (s.state.meters x.tree.resource) (meter_of x.meter) s.here.meter (rests live);
  counts = s.counts;
  own = s.own;
  inbox = s.inbox;
  waits = s.waits;
  stop = s.stop;
}

ran_of : (i : Inputs) (limit r t : ℕ) (from at : Local (machine (system_of i) limit)) (x : Running) → x.tree.resource ≡ r → Rests x → RepresentsRunning i limit at x
    → HasEnded (machine (system_of i) limit) r t from at x.clock (map (line_of (system_of i)) x.traffic.outbox.lines.items) (map (arriving i) x.traffic.mail.items)
    → RanTo i limit from t (at_rest x) x.traffic.outbox.lines.items x.traffic.mail.items
ran_of i limit r t from at x here rests represents h = record {
  items = h.items;
  run = subst (λ q. Run (machine (system_of i) limit) q from t h.items) (sym here) h.run;
  represents = subst (λ l. Represents i limit l (at_rest x)) (sym h.ends) (stands_for i limit at x rests represents);
  clock = h.clock;
  lines = h.lines;
  sent = h.sent;
}

-- its blocks and counts, from the tick of a key of its own on
pub here_at : (i : Inputs) (s : State) (k : Key) (x : Running) → k.resource ≡ x.tree.resource → x.clock ≤ k.tick → IsHere i s x.tree.resource x.clock x.tree x.meter
    → IsHere i s k.resource k.tick x.tree x.meter
here_at i s k x mine le here =
    subst (λ r. IsHere i s r k.tick x.tree x.meter) (sym mine) (here_later i s x.tree.resource x.clock k.tick x.tree x.meter le here)

-- The resource has taken the least of its events, which left a as its agenda.
module _ (i : Inputs) (limit : ℕ) (old new : Running) (k : Key) (e : Event) (a : Contents) (sound : IsSound (system_of i))
    (same : new.tree.resource ≡ old.tree.resource) (mine : k.resource ≡ old.tree.resource) (live : old.stopped ≡ None)
    (fits : IsAtResource (system_of i) k (event_of i e)) (gone : HasLeft k e old.traffic.agenda a) where
  abbrev Taken : State → Type 0
  Taken s = IsTakenHere i limit s k (event_of i e) new.stopped new.clock new.tree new.meter (record old.traffic { agenda = a }) new.traffic

  pub running_more : IsRunning i limit old → (s : State) → Taken s → IsMetered limit new.meter → unwrap_or new.meter.tick 0 ≤ new.clock
      → AreReady i new.clock new.traffic → IsRunning i limit new
  running_more running s t metered past ready = record {
    named = subst (λ r. r < count_of (system_of i)) (sym same) running.named;
    metered = metered;
    past = past;
    ready = ready;
    home = home_after i limit new.tree.resource s k e t.effect old.traffic.agenda a new.traffic.agenda sound (mine ∙ sym same) fits t.takes gone t.agenda
        (λ j f h. running.home j f h ∙ sym same);
  }

  module _ (r to : ℕ) (from : Local (machine (system_of i) limit)) (c : ComesTo i limit r to from old) (here : old.tree.resource ≡ r) (below : k.tick < to) (t : Taken c.represents.state) where
    abbrev item : Item (machine (system_of i) limit)
    item = item_at i limit k (event_of i e) t.effect

    takes : TakesAlone (machine (system_of i) limit) r c.at item
    takes = takes_alone i limit r c.at old c.represents k e a t.effect here (mine ∙ here) live fits gone t.takes

    represents : RepresentsRunning i limit (after (machine (system_of i) limit) c.at item) new
    represents = stands_after i limit c.at old new c.represents k e (record old.traffic { agenda = a }) new.stopped sound same mine refl fits gone t

    abbrev before_lines : List model.Line
    before_lines = map (line_of (system_of i)) old.traffic.outbox.lines.items

    abbrev before_sent : List (Key × model.Event)
    before_sent = map (arriving i) old.traffic.mail.items

    -- the event lets the resource go on
    pub comes_more : new.stopped ≡ None → ComesTo i limit r to from new
    comes_more going =
        let h = come_more (machine (system_of i) limit) r to from c.at before_lines before_sent c.come item takes below (t.stops ∙ going) in
        record {
          at = after (machine (system_of i) limit) c.at item;
          represents = represents;
          come = record {
            items = h.items;
            chain = h.chain;
            below = h.below;
            ends = h.ends;
            clock = h.clock;
            lines = t.lines ∙ h.lines;
            sent = t.mail ∙ h.sent;
          };
        }

    -- the event stops the resource
    pub ran_stop : (reason : Reason) → new.stopped ≡ Some reason → new.clock ≡ k.tick → RanTo i limit from to (at_rest new) new.traffic.outbox.lines.items new.traffic.mail.items
    ran_stop reason stops clock =
        let h = come_stop (machine (system_of i) limit) r to from c.at before_lines before_sent c.come item takes below reason (t.stops ∙ stops) in
        ran_of i limit r to from (after (machine (system_of i) limit) c.at item) new (same ∙ here) (λ going. absurd (none_some new.stopped reason going stops)) represents (record {
          items = h.items;
          run = h.run;
          ends = h.ends;
          clock = clock ∙ h.clock;
          lines = t.lines ∙ h.lines;
          sent = t.mail ∙ h.sent;
        })

-- ---- The end

-- Nothing waits below the tick, and the clock is turned to it. What waits is the same as before.
module _ (i : Inputs) (limit : ℕ) (old : Running) (a : Contents) (to : ℕ) (same : (j : Key) → waiting a j ≡ waiting old.traffic.agenda j) (due : a.due ≡ old.traffic.agenda.due)
    (none : (j : Key) → j.tick < to → waiting old.traffic.agenda j ≡ None) (ahead : old.clock ≤ to) where
  abbrev turned : Running
  turned = record old { clock = to; traffic = record old.traffic { agenda = a } }

  pub running_rest : IsRunning i limit old → IsRunning i limit turned
  running_rest running =
      let past = running.past in
      record {
        named = running.named;
        metered = running.metered;
        past = omega (arith, past, ahead);
        ready = ready_alike i to old.traffic a same due (ready_to i old.clock to old.traffic running.ready none);
        home = λ j f h. running.home j f (sym (same j) ∙ h);
      }

  stands_turned : (l : Local (machine (system_of i) limit)) → RepresentsRunning i limit l old → RepresentsRunning i limit l turned
  stands_turned l s = record {
    state = s.state;
    part = s.part;
    here = here_later i s.state old.tree.resource old.clock to old.tree old.meter ahead s.here;
    counts = s.counts;
    own = s.own;
    inbox = s.inbox;
    waits = λ j here. s.waits j here ∙ sym (ap (option_map (event_of i)) (same j));
    stop = s.stop;
  }

  pub ran_rest : (r : ℕ) (from : Local (machine (system_of i) limit)) → ComesTo i limit r to from old → old.tree.resource ≡ r → IsUnused to (meter_of old.meter)
      → RanTo i limit from to (at_rest turned) old.traffic.outbox.lines.items old.traffic.mail.items
  ran_rest r from c here unused =
      ran_of i limit r to from c.at turned here (λ live. unused) (stands_turned c.at c.represents)
      (come_rest (machine (system_of i) limit) r to from c.at _ _ c.come (λ live j mine below. c.represents.waits j (mine ∙ sym here) ∙ ap (option_map (event_of i)) (none j below)))

-- ---- What is handed out

-- What represents a resource under one limit on steps does so under each: what it has is the same.
module _ (i : Inputs) (limit other : ℕ) (l : Local (machine (system_of i) limit)) where
  abbrev under : Local (machine (system_of i) other)
  under = record { part = l.part; own = l.own; inbox = l.inbox; stop = l.stop }

  stands_under : (x : Resource) → Represents i limit l x → Represents i other under x
  stands_under x s = record {
    state = s.state;
    part = s.part;
    blocks = s.blocks;
    typed = s.typed;
    unused = s.unused;
    counts = s.counts;
    own = s.own;
    inbox = s.inbox;
    waits = s.waits;
    stop = s.stop;
  }

pub has_run : (i : Inputs) (limit : ℕ) (old : Resource) (x : Running) (to : ℕ) (stop : Option StopMark) → IsOf i old → IsRunning i limit x → x.tree.resource ≡ old.tree.resource
    → ((l : Local (machine (system_of i) limit)) → Represents i limit l old → RanTo i limit l to (at_rest x) x.traffic.outbox.lines.items x.traffic.mail.items)
    → stop ≡ mark_of x.tree.resource x.clock x.stopped
    → HasRun i limit old to (Ran (at_rest x) x.traffic.outbox.lines x.traffic.mail stop)
has_run i limit old x to stop of running tree ran stops =
    let first = of.represents limit in
    let its = ran first.0 first.1 in
    let last : Local (machine (system_of i) limit) = end (machine (system_of i) limit) first.0 its.items in (
      record {
        named = running.named;
        order = running.ready.order;
        due = running.ready.due;
        counted = running.ready.counted;
        home = running.home;
        represents = λ other. (under i limit other last, stands_under i limit other last (at_rest x) its.represents);
      },
      tree,
      running.ready.lines,
      running.ready.mail,
      stops,
      ran,
    )

-- the mark of a stop that the least event's key names
pub marked : (k : Key) (r : ℕ) (o : Option Reason) (reason : Reason) → k.resource ≡ r → o ≡ Some reason
    → Some (record { tick = k.tick; resource = k.resource; reason = reason }) ≡ mark_of r k.tick o
marked k r o reason mine stops = ap (λ n. mark_of n k.tick (Some reason)) mine ∙ ap (mark_of r k.tick) (sym stops)
