-- The copies after an event, and where it stops.
use Rattle.fb_types.proofs.Common.{◌≡◌, ◌≢◌, ℕ, zero, suc, ◌<◌, ⊎_elim, Bool, true, false, cond, List, [], ◌∷◌, length, map, Option, Some, None, refl, sym, ap, subst, ◌∙◌, arith, IfNone, IfSome, slice_get, slice_set, cases_eq, length-set, same_Some, slice_get_within, Basic, Composite, Event, Kind, bound, inputs_with, Inputs, system_of, Port, ChartReacts, event_at, line_of, path_at, port_of, ports_at, Block, Meter, State, System, Effect, Takes, agenda_after, begun}
use Rattle.fb_types.specs.declared.library.EventPort.{EventPort}
use Rattle.fb_types.specs.declared.library.Ports.{Ports}
use Rattle.fb_types.specs.declared.value.Reason.TheVariants.{Steps}
use Rattle.fb_types.specs.declared.key.Key.{Key}
use Rattle.fb_types.specs.declared.library.BasicType.{BasicType}
use Rattle.fb_types.specs.declared.run.Line.{Line}
use Rattle.fb_types.specs.declared.run.Target.{Target}
use Rattle.fb_types.specs.declared.value.Reason.{Reason}
use Rattle.fb_types.proofs.lemmas.lists.ByIndex.{element_at}
use Rattle.fb_net.specs.Worlds.{BasicRepresents}
use Rattle.fb_net.proofs.lemmas.values.Sampling.{ports-of_kind}
use Rattle.fb_types.specs.States.{Event as AnEvent}
use Rattle.fb_types.specs.States as model
use Rattle.fb_ecc.specs.declared.state.BasicState.{BasicState}
use Rattle.fb_net.specs.declared.resource.Forest.{Forest}
use Rattle.fb_resource.specs.Counts.{meter_of}
use Rattle.fb_resource.specs.Takings.{IsHere}
use Rattle.fb_resource.specs.declared.tick_counts.TickCounts.{TickCounts}
use Rattle.fb_resource.proofs.lemmas.Lists.{set_apart, set_here}
use Rattle.fb_system.specs.Ports.{IsTarget, events_at}
use Rattle.fb_sim_machine.specs.Machines.{IsAt, IsTaken}
use Rattle.fb_sim_machine.specs.declared.machine.Machine.{Machine}
use Rattle.fb_stop.specs.Copies.{AreAllCopies, FollowsAt, HasLocated, HasStepped, IsCopy, IsFollowed, IsLocated, IsSiteBy, Stopping, begins_at}
use Rattle.fb_stop.specs.Found.{ArrivesAt, IsSite, StopsInBlock, port_in, start_at}
use Rattle.fb_stop.specs.declared.found.EventSite.{EventSite}
use Rattle.fb_stop.specs.declared.found.EventSite.TheVariants.{Timer, Port as AtPort}
use Rattle.fb_stop.specs.declared.found.StopSite.{StopSite}
use Rattle.fb_stop.specs.declared.found.StopSite.TheVariants.{InReaction}
use Rattle.fb_stop.specs.declared.replay.Replay.{Replay}
use Rattle.fb_stop.specs.declared.site.Site.{Site}
use Rattle.fb_stop.proofs.lemmas.copies.Following.{follows, never_rests, port_is, stops_there}
use Rattle.fb_stop.proofs.lemmas.runs.Takings.{AtBasic, BasicTaking, basic_taking, keeps_block, stopping_basic, stops_before}

-- the steps that are left for the reaction to an event, or that none is left for the event
abbrev pub IsLeft : (before : ℕ) → Option ℕ → Type 0
IsLeft before None = before ≡ zero
IsLeft before (Some left) = before ≡ suc left

pub left_is : (i : Inputs) (s : State) (r : ℕ) (t : Forest) (m : TickCounts) (limit tick : ℕ) → IsHere i s r 0 t m → (o : Option ℕ)
    → IfSome o (λ left. (begun limit tick (meter_of m)).left ≡ suc left) → IfNone o ((begun limit tick (meter_of m)).left ≡ zero) → IsLeft (begun limit tick (s.meters r)).left o
left_is i s r t m limit tick here (Some left) some none = ap (λ (z : Meter). z.left) (here.meter limit tick (omega arith)) ∙ some
left_is i s r t m limit tick here None some none = ap (λ (z : Meter). z.left) (here.meter limit tick (omega arith)) ∙ none

-- the port of a target is one of its instance
pub at_is : (sys : System) (t : Target) → (port_of sys t).at ≡ path_at sys t.instance
at_is sys t = go t.is_output
  where
    go : (b : Bool) → (port_of sys (record t { is_output = b })).at ≡ path_at sys t.instance
    go true = refl
    go false = refl

first_line : (i : Inputs) (lines : List Line) (l : model.Line) (rest : List model.Line) → map (line_of (system_of i)) lines ≡ l ∷ rest
    → (line : Line) × (others : List Line) × (lines ≡ line ∷ others) × (line_of (system_of i) line ≡ l)
first_line i [] l rest is = absurd (cc)
first_line i (line ∷ lines) l rest is = (line, lines, refl, cc)

first_is : (a b : model.Line) (as' bs : List model.Line) → a ∷ as' ≡ b ∷ bs → a ≡ b
first_is a b as' bs e = cc

module _ (i : Inputs) (numbered : (n : ℕ) → n < length (system_of i).paths → (system_of i).number (path_at (system_of i) n) ≡ n) (limit : ℕ) (s : State) (k : Key) (e : AnEvent) (x : Effect)
    (takes : Takes (system_of i) limit s k e x) (lines : List Line) (lines_are : map (line_of (system_of i)) lines ≡ x.lines) (copies : List (Option BasicState))
    (are : AreAllCopies i s copies) where
  abbrev sys : System
  sys = system_of i

  abbrev before : ℕ
  before = (begun limit k.tick (s.meters k.resource)).left

  -- ---- Instances at which the event does not arrive

  keeps : (n : ℕ) (copy : Option BasicState) → ((t : BasicType) → sys.kind (path_at sys n) ≡ Some (Basic t) → (q : Port) → port_in e ≡ Some q → ¬ (q.at ≡ path_at sys n))
      → IsCopy i n (s.blocks (path_at sys n)) copy → IsCopy i n (x.state.blocks (path_at sys n)) copy
  keeps n copy apart is t kind =
      let same : x.state.blocks (path_at sys n) ≡ s.blocks (path_at sys n) = keeps_block sys k s limit e x (path_at sys n) t kind (apart t kind) takes in
      let it = is t kind in
      (it.0, it.1, subst (λ (b : Block). BasicRepresents t it.0 b.memory b.variables) (sym same) it.2)

  all_keep : (new : List (Option BasicState)) → new ≡ copies
      → ((n : ℕ) (t : BasicType) → sys.kind (path_at sys n) ≡ Some (Basic t) → (q : Port) → port_in e ≡ Some q → ¬ (q.at ≡ path_at sys n)) → AreAllCopies i x.state new
  all_keep new same apart = record {
    counted = ap length same ∙ are.counted;
    each = λ n copy at. keeps n copy (apart n) (are.each n copy (sym (ap (λ (l : List (Option BasicState)). slice_get l n) same) ∙ at));
  }

  -- ---- A port

  module _ (t : Target) (target : IsTarget sys t) (port : port_in e ≡ Some (port_of sys t)) where
    port_at : (q : Port) → port_in e ≡ Some q → q.at ≡ path_at sys t.instance
    port_at q is = ap (λ (z : Port). z.at) (same_Some q (port_of sys t) (sym is ∙ port)) ∙ at_is sys t

    other_instance : (n : ℕ) → n < length sys.paths → n ≢ t.instance → (q : Port) → port_in e ≡ Some q → ¬ (q.at ≡ path_at sys n)
    other_instance n within other q is same =
        other (sym (numbered n within) ∙ ap sys.number (sym same ∙ port_at q is) ∙ numbered t.instance target.port.instance)

    no_basic : ((b : BasicType) → ¬ (sys.kind (path_at sys t.instance) ≡ Some (Basic b))) → (n : ℕ) (b : BasicType) → sys.kind (path_at sys n) ≡ Some (Basic b)
        → (q : Port) → port_in e ≡ Some q → ¬ (q.at ≡ path_at sys n)
    no_basic none n b kind q is same = none b (ap sys.kind (sym (port_at q is) ∙ same) ∙ kind)

    module _ (block : BasicType) (kind : sys.kind (path_at sys t.instance) ≡ Some (Basic block)) (left : ℕ) (counted : before ≡ suc left) where
      -- only the output of a composite is reached from inside
      input : t.is_output ≡ false
      input = go t.is_output refl
        where
          go : (b : Bool) → t.is_output ≡ b → b ≡ false
          go true is =
              let c = target.composite is in
              let both : Some (Basic block) ≡ Some (Composite c.0) = sym kind ∙ c.1 in
              absurd (let one : Basic block ≡ Composite c.0 = cc in cc)
          go false is = refl

      abbrev own : Port
      own = record { at = path_at sys t.instance; name = event_at block.ports.event_inputs t.event }

      own_is : port_of sys t ≡ own
      own_is = port_is i k s e t block kind input left

      pub taking : BasicTaking sys k s e own block left x
      taking = basic_taking sys k s limit e x own block left (port ∙ ap Some own_is) kind counted takes

      -- the line of the event
      abbrev shown : model.Line
      shown = record { key = k; taken = true; at = own.at; event = own.name; values = bound (inputs_with block.ports own.name) (start_at sys k s e block own left).vars }

      line_is : (l : Line) (rest : List Line) → lines ≡ l ∷ rest → line_of sys l ≡ shown
      line_is l rest is = first_is (line_of sys l) shown (map (line_of sys) rest) taking.rest (sym (ap (map (line_of sys)) is) ∙ lines_are ∙ taking.lines)

      -- ---- It has reacted

      followed_at : (line : Line) (rest : List Line) (new : List (Option BasicState)) → lines ≡ line ∷ rest → FollowsAt i t block left line copies new → AreAllCopies i x.state new
      followed_at line rest new lines_is h =
          let it = are.each t.instance h.before.copy h.before.at block kind in
          let after : IsCopy i t.instance (x.state.blocks (path_at sys t.instance)) h.after =
          follows i k s e t block kind input left line (line_is line rest lines_is) it.0 it.2 x taking h.before.copy h.after it.1 h.followed in
          record {
            counted = ap length h.is ∙ length-set copies t.instance h.after ∙ are.counted;
            each = λ n copy at.
                let at_set : slice_get (slice_set copies t.instance h.after) n ≡ Some copy = sym (ap (λ (l : List (Option BasicState)). slice_get l n) h.is) ∙ at in
                ⊎_elim
                (λ (same : n ≡ t.instance).
                let here : slice_get (slice_set copies t.instance h.after) t.instance ≡ Some copy = ap (slice_get (slice_set copies t.instance h.after)) (sym same) ∙ at_set in
                let is : h.after ≡ copy = set_here copies t.instance h.after copy (slice_get_within copies t.instance h.before.copy h.before.at) here in
                subst (λ (m : ℕ). IsCopy i m (x.state.blocks (path_at sys m)) copy) (sym same)
                (subst (λ (c : Option BasicState). IsCopy i t.instance (x.state.blocks (path_at sys t.instance)) c) is after))
                (λ (other : n ≢ t.instance).
                let was : slice_get copies n ≡ Some copy = set_apart copies t.instance n h.after copy other at_set in
                let within : n < length sys.paths = subst (λ (m : ℕ). n < m) are.counted (slice_get_within copies n copy was) in
                keeps n copy (λ u same. other_instance n within other) (are.each n copy was))
                (cases_eq n t.instance);
          }

      pub has_followed : (new : List (Option BasicState)) → IsFollowed i (AtPort t) (Some left) lines copies new → AreAllCopies i x.state new
      has_followed new h =
          let first = first_line i lines shown taking.rest (lines_are ∙ taking.lines) in
          let at = subst (λ (ls : List Line). IsFollowed i (AtPort t) (Some left) ls copies new) first.2 h in
          followed_at first.0 first.1 new first.2 (at.0 block kind)

      -- ---- It stops

      module _ (r : Reason) (stops : x.stop ≡ Some r) where
        pub stopping_here : Stopping i (AtPort t) left lines copies
        stopping_here =
            let within : t.instance < length copies = subst (λ (m : ℕ). t.instance < m) (sym are.counted) target.port.instance in
            let copy = element_at copies t.instance within in
            let it = are.each t.instance copy.0 copy.1 block kind in
            let first = first_line i lines shown taking.rest (lines_are ∙ taking.lines) in
            let events : events_at sys t ≡ block.ports.event_inputs =
            ap (λ (b : Bool). cond b (ports_at sys (path_at sys t.instance)).event_outputs (ports_at sys (path_at sys t.instance)).event_inputs) input
            ∙ ap (λ (z : Ports). z.event_inputs) (ports-of_kind sys (path_at sys t.instance) (Basic block) kind) in
            record {
              target = t;
              port = refl;
              instance = target.port.instance;
              block = block;
              event = subst (λ (ps : List EventPort). t.event < length ps) events target.port.event;
              here = record { kind = kind; copy = copy.0; at = copy.1 };
              whole = record { state = it.0; is = it.1; sound = it.2.sound; block = it.2.block };
              line = first.0;
              rest = first.1;
              lines_are = first.2;
              never_rests = λ y p is rests.
                  let same : Some it.0 ≡ Some y = sym it.1 ∙ is in
                  let one : it.0 ≡ y = cc in
                  never_rests i k s e t block kind input left first.0 first.3 it.0 it.2 x taking r stops p
                  (subst (λ (z : BasicState). ChartReacts block (event_at block.ports.event_inputs t.event) (begins_at block z t.event first.0.values left []) None p) (sym one) rests);
            }

        pub site_here : (line : Line) (rest : List Line) (copy : Option BasicState) (reason : Reason) (site : Site) → lines ≡ line ∷ rest → slice_get copies t.instance ≡ Some copy
            → HasLocated block t.event line.values left copy (Some (record { reason = reason; site = site })) → StopsInBlock sys limit s k e (port_of sys t) r site
        site_here line rest copy reason site lines_is at h =
            let it = are.each t.instance copy at block kind in
            stops_there i k s e t block kind input left line (line_is line rest lines_is) it.0 it.2 x taking limit r reason site copy stops it.1 counted h

  -- ---- Wherever it arrives

  no_change : (t : Target) (left : ℕ) (ls : List Line) (new : List (Option BasicState)) → ((b : BasicType) → ¬ (sys.kind (path_at sys t.instance) ≡ Some (Basic b)))
      → IsFollowed i (AtPort t) (Some left) ls copies new → new ≡ copies
  no_change t left [] new none h = h
  no_change t left (l ∷ ls) new none h = h.1 none

  followed_port : (t : Target) (left : ℕ) (new : List (Option BasicState)) → IsTarget sys t → port_in e ≡ Some (port_of sys t) → before ≡ suc left
      → IsFollowed i (AtPort t) (Some left) lines copies new → AreAllCopies i x.state new
  followed_port t left new target port counted h = go (sys.kind (path_at sys t.instance)) refl
    where
      other : ((b : BasicType) → ¬ (sys.kind (path_at sys t.instance) ≡ Some (Basic b))) → AreAllCopies i x.state new
      other none = all_keep new (no_change t left lines new none h) (no_basic t target port none)

      go : (o : Option Kind) → sys.kind (path_at sys t.instance) ≡ o → AreAllCopies i x.state new
      go None is = other (λ b kind. let e : None ≡ Some (Basic b) = sym is ∙ kind in cc)
      go (Some (Basic block)) is = has_followed t target port block is left counted new h
      go (Some (Event kind)) is = other (λ b same. let e : Some (Event kind) ≡ Some (Basic b) = sym is ∙ same in let f : Event kind ≡ Basic b = cc in cc)
      go (Some (Composite c)) is = other (λ b same. let e : Some (Composite c) ≡ Some (Basic b) = sym is ∙ same in let f : Composite c ≡ Basic b = cc in cc)

  -- the copies have followed an event that does not stop the run
  pub copies_after : (at : EventSite) (left : Option ℕ) (new : List (Option BasicState)) → ArrivesAt sys e at → IsLeft before left → x.stop ≡ None
      → IsFollowed i at left lines copies new → AreAllCopies i x.state new
  copies_after (Timer n) left new arrives counted goes h =
      all_keep new h (λ m t kind q port same. let none : None ≡ Some q = sym (ap port_in arrives.1) ∙ port in cc)
  copies_after (AtPort t) None new arrives counted goes h =
      absurd (let none : Some Steps ≡ None = sym (stops_before sys k s limit e x counted takes) ∙ goes in cc)
  copies_after (AtPort t) (Some left) new arrives counted goes h = followed_port t left new arrives.0 arrives.1 counted h

  module _ (r : Reason) (stops : x.stop ≡ Some r) (left : ℕ) (counted : before ≡ suc left) where
    abbrev basic : AtBasic sys k s e
    basic = stopping_basic sys k s limit e x left r counted stops takes

    kind_at : (t : Target) → IsTarget sys t → port_in e ≡ Some (port_of sys t) → sys.kind (path_at sys t.instance) ≡ Some (Basic basic.block)
    kind_at t target port = ap sys.kind (sym (port_at t target port basic.port basic.is)) ∙ basic.kind

    -- the event is at a basic block, whose copy stops too
    pub stopping_at : (at : EventSite) → ArrivesAt sys e at → Stopping i at left lines copies
    stopping_at (Timer n) arrives = absurd (let none : None ≡ Some basic.port = sym (ap port_in arrives.1) ∙ basic.is in cc)
    stopping_at (AtPort t) arrives = stopping_here t arrives.0 arrives.1 basic.block (kind_at t arrives.0 arrives.1) left counted r stops

    pub site_at : (at : EventSite) (site : Site) → ArrivesAt sys e at → IsLocated i at left lines copies site → IsSite sys limit s k e r at (InReaction site)
    site_at at site arrives h =
        let there = subst (λ (z : EventSite). ArrivesAt sys e z) h.port arrives in
        subst (λ (z : EventSite). IsSite sys limit s k e r z (InReaction site)) (sym h.port)
        (site_here h.target there.0 there.1 h.block h.here.kind left counted r stops h.line h.rest h.here.copy h.reason site h.lines_are h.here.at h.located)

  -- what gives the reason
  pub is_site : (r : Reason) → x.stop ≡ Some r → (at : EventSite) (left : Option ℕ) (site : StopSite) → IsLeft before left → ArrivesAt sys e at
      → IsSiteBy i at left lines copies site → IsSite sys limit s k e r at site
  is_site r stops at None site counted arrives is = subst (λ (z : StopSite). IsSite sys limit s k e r at z) (sym is) counted
  is_site r stops at (Some left) site counted arrives (found, is, located) =
      subst (λ (z : StopSite). IsSite sys limit s k e r at z) (sym is) (site_at r stops left counted at found arrives located)

  -- the reaction of the copy stops, where steps were left for it
  pub stopping_if : (r : Reason) → x.stop ≡ Some r → (at : EventSite) (left : Option ℕ) → IsLeft before left → ArrivesAt sys e at
      → IfSome left (λ n. Stopping i at n lines copies)
  stopping_if r stops at None counted arrives = tt
  stopping_if r stops at (Some left) counted arrives = stopping_at r stops left counted at arrives

-- the run has taken an event that does not stop it
pub has_stepped : (i : Inputs) (limit : ℕ) (s : State) (a : model.Agenda) (k : Key) (e : AnEvent) (o : Option Reason) (from : Machine) (mid : Machine) (new : Replay)
    → (t : IsTaken i limit s a k e o from mid) → o ≡ None → new.run ≡ mid → AreAllCopies i t.effect.state new.copies.items → HasStepped i limit s a k e new
has_stepped i limit s a k e o from mid new t none run copies = record {
  from = from;
  taken = record {
    effect = t.effect;
    takes = t.takes;
    stops = t.stops ∙ none;
    lines = ap (λ (r : Machine). map (line_of (system_of i)) r.traffic.outbox.lines.items) run ∙ t.lines;
    at = subst (λ (r : Machine). IsAt i t.effect.state (agenda_after k a t.effect) r) (sym run) t.at;
  };
  copies = copies;
}
