-- The reactions of a run are takings of a walk through its trace.
use Rattle.fb_inspect.proofs.lemmas.Common.{if◌then◌else◌, ◌≡◌, ℕ, ◌+◌, arith, Bool, true, false, cond, List, [], ◌∷◌, ◌++◌, map, Option, Some, None, refl, sym, ◌∙◌, ap, subst, inl, inr, Kind, Basic, Event, Composite, Emission, Bound, bound, inputs_with, is_event_input, outputs_with, ports_of, Position, Name, Path, same_path, Reacts, emissions, memory_of, state_of, with_values, Arrived, Expired, Raised, Stimulated, path_of, System, Values, EventKind, Key, BasicType, CompositeType, Ports, TimerAsk, Reason, Piece, ShowsReaction, IsTakingAt, Look, Seen, Taking, due_after, emissions_by, emits_pieces, memory_pieces, reacted, with_left, with_seen}
use Rattle.fb_types.proofs.Common.{ChartReacts, Port, Outcome, ReactsAt, World, answered, crossing_in, crossing_out, expires, from_inside, hold_all, remembered, sampled, settled, silent, start_of, taking, with_block, with_slots, Block, InState}
use Rattle.fb_types.specs.EventBlocks as blocks
use Rattle.fb_types.specs.Posted.{emission_line}
use Rattle.fb_types.specs.States.{Event as AnEvent, Line, Memory, Remembers}
use Rattle.fb_types.proofs.lemmas.names.PathLaws.{same_path_is, same_path_itself}
use Rattle.fb_types.proofs.lemmas.events.ReactionLaws.{emitted_all-left, emitted_all-lines, emitted_all-publishes, emitted_all-stop, emitted_all-timer, kept_at}
use Rattle.fb_net.proofs.lemmas.values.Sampling.{sampled-paired, sampled-wrote}
use Rattle.fb_inspect.specs.walk.RunTakings.{CanReact, GoesOff, IsLeaf, IsSeenIn, IsTakingOf, MayHaveMore, RunsAfter, due_before}
use Rattle.fb_inspect.proofs.lemmas.reactions.MoreReactions.{reaction_longer}
use Rattle.fb_inspect.proofs.lemmas.reactions.ShowingLaws.{reaction_shows}
use Rattle.fb_inspect.proofs.lemmas.reactions.TimerKept.{KeepsRunning, expiry_runs, reaction_runs}

-- ---- Blocks of a world

-- the part of a block, where one block is another
part_of : {X : Type 0} (part : Block → X) (t : Bool) (b c : Block) → part (cond t b c) ≡ cond t (part b) (part c)
part_of part true b c = refl
part_of part false b c = refl

-- a block in the place of one that was in that place
part_twice : {X : Type 0} (part : Block → X) (t : Bool) (a b c : Block) → part (cond t a (cond t b c)) ≡ cond t (part a) (part c)
part_twice part true a b c = refl
part_twice part false a b c = refl

-- the block that was put at a path
pub put_there : (p : Path) (b : Block) (w : World) → (with_block p b w).blocks p ≡ b
put_there p b w = ap (λ (t : Bool). cond t b (w.blocks p)) (same_path_itself p)

-- what is remembered at a path that was changed, and elsewhere
module _ (p : Path) (s : Seen) (look : Look) where
  pub seen_other : (q : Path) → same_path q p ≡ false → cond (same_path q p) s (look.blocks q) ≡ look.blocks q
  seen_other q e = ap (λ (t : Bool). cond t s (look.blocks q)) e

  pub seen_here : cond (same_path p p) s (look.blocks p) ≡ s
  seen_here = ap (λ (t : Bool). cond t s (look.blocks p)) (same_path_itself p)

-- a world in which a block was changed is seen so
module _ (sys : System) (look : Look) (w : World) (seen : IsSeenIn sys look w) (p : Path) (s : Seen) (after : Look) (v : World)
    (after_is : (q : Path) → after.blocks q ≡ cond (same_path q p) s (look.blocks q)) where
  leaf_at : (q : Path) (t : Bool) → same_path q p ≡ t → (x : Values) → s.variables ≡ x → IsLeaf (sys.kind q) → cond t s.variables (look.blocks q).variables ≡ cond t x (w.blocks q).variables
  leaf_at q true e x here leaf = here
  leaf_at q false e x here leaf = seen.variables q leaf

  seen_variables : (t : Bool) (q : Path) → (cond t s (look.blocks q)).variables ≡ cond t s.variables (look.blocks q).variables
  seen_variables true q = refl
  seen_variables false q = refl

  seen_memory : (t : Bool) (q : Path) (m : Memory) → s.memory ≡ m → (cond t s (look.blocks q)).memory ≡ cond t m (w.blocks q).memory
  seen_memory true q m here = here
  seen_memory false q m here = seen.memory q

  pub seen_after :
      (m : Memory) (x : Values) → s.memory ≡ m → s.variables ≡ x → ((q : Path) → (v.blocks q).memory ≡ cond (same_path q p) m (w.blocks q).memory)
      → ((q : Path) → (v.blocks q).variables ≡ cond (same_path q p) x (w.blocks q).variables) → IsSeenIn sys after v
  seen_after m x memory variables memories all =
      record {
        memory = λ q. ap (λ (z : Seen). z.memory) (after_is q) ∙ seen_memory (same_path q p) q m memory ∙ sym (memories q);
        variables = λ q leaf. ap (λ (z : Seen). z.variables) (after_is q) ∙ seen_variables (same_path q p) q ∙ leaf_at q (same_path q p) refl x variables leaf ∙ sym (all q);
      }

-- ---- Sampling

-- the variables that a line says, over those that were remembered
sampled_so : (sys : System) (r : ℕ) (w : World) (p : Path) (ns : List Name) (old : Values) → old ≡ (w.blocks p).variables → with_values (bound ns (sampled sys r w p ns)) old ≡ sampled sys r w p ns
sampled_so sys r w p ns old same =
    ap (with_values (bound ns (sampled sys r w p ns))) same
    ∙ ap (λ (bs : List Bound). with_values bs (w.blocks p).variables) (sym (sampled-wrote sys r w p ns))
    ∙ sampled-paired sys r w p ns

-- ---- Timers that run

basic_or_event : (t : BasicType) (kind : EventKind) → Some (Basic t) ≡ Some (Event kind) → ⊥
basic_or_event t kind same = cc

composite_or_event : (t : CompositeType) (kind : EventKind) → Some (Composite t) ≡ Some (Event kind) → ⊥
composite_or_event t kind same = cc

one_kind : (a b : EventKind) → Some (Event a) ≡ Some (Event b) → a ≡ b
one_kind a b same = cc

-- after a reaction of an event block
runs_so :
    (sys : System) (p : Path) (look : Look) (s : Seen) (kind : EventKind) (r : blocks.Reaction) (ask : TimerAsk) → sys.kind p ≡ Some (Event kind) → ask ≡ r.timer → memory_of s.memory ≡ r.memory
    → KeepsRunning kind (memory_of (look.blocks p).memory) r → (other : EventKind) → sys.kind p ≡ Some (Event other)
    → RunsAfter other (memory_of (look.blocks p).memory) (memory_of (cond (same_path p p) s (look.blocks p)).memory) ask
runs_so sys p look s kind r ask is asks memory runs other same =
    let old = memory_of (look.blocks p).memory in
    let new : memory_of (cond (same_path p p) s (look.blocks p)).memory ≡ r.memory = ap (λ (z : Seen). memory_of z.memory) (seen_here p s look) ∙ memory in
    subst (λ (z : EventKind). RunsAfter z old (memory_of (cond (same_path p p) s (look.blocks p)).memory) ask) (one_kind kind other (sym is ∙ same))
    (subst (λ (m : blocks.Memory). RunsAfter kind old m ask) (sym new) (subst (λ (a : TimerAsk). RunsAfter kind old r.memory a) (sym asks) runs))

-- ---- Basic blocks

module _ (sys : System) (k : Key) (w : World) (q : Port) (left more : ℕ) (look : Look) (seen : IsSeenIn sys look w) where
  -- the line of an event that is taken
  abbrev line_at : Ports → Line
  line_at ports = let ns = inputs_with ports q.name in record { key = k; taken = true; at = q.at; event = q.name; values = bound ns (sampled sys k.resource w q.at ns) }

  abbrev here : Seen
  here = look.blocks q.at

  -- a reaction that has more steps left, and is shown alike
  shown_longer :
      (t : BasicType) (e : Name) (p : Position) (stop : Option Reason) (c : Position) (ps : List Piece) → ShowsReaction t e p stop c ps → MayHaveMore more stop
      → ShowsReaction t e (record p { left = p.left + more }) stop (record c { left = c.left + more }) ps
  shown_longer t e p stop c ps h (inl none) =
      let first : p.left ≡ p.left + more = omega (arith, none) in
      let last : c.left ≡ c.left + more = omega (arith, none) in
      subst (λ (n : ℕ). ShowsReaction t e (record p { left = n }) stop (record c { left = c.left + more }) ps) first
      (subst (λ (n : ℕ). ShowsReaction t e p stop (record c { left = n }) ps) last h)
  shown_longer t e p stop c ps h (inr goes) = reaction_longer more t e p stop c ps h goes

  taking_of_chart :
      (t : BasicType) → sys.kind q.at ≡ Some (Basic t) → (o : Outcome) → ReactsAt sys k w q left (Some (Basic t)) o → MayHaveMore more o.stop → (x : Taking) × IsTakingOf sys k q.at left more look here.due o x
  taking_of_chart t kind o h may =
      let ns = inputs_with t.ports q.name in
      let vars = sampled sys k.resource w q.at ns in
      let begun = taking sys k w q t.ports left in
      let stop = h.0 in
      let c = h.1 in
      let first = line_at t.ports in
      let leaf : IsLeaf (sys.kind q.at) = subst IsLeaf (sym kind) tt in
      let there : begun.world.blocks q.at ≡ record (w.blocks q.at) { variables = vars } = put_there q.at (record (w.blocks q.at) { variables = vars }) w in
      let start : Position = record { state = state_of here.memory; vars = with_values first.values here.variables; left = left; emitted = [] } in
      let start_is : start_of begun q.at ≡ start =
      ap (λ (b : Block). record { state = state_of b.memory; vars = b.variables; left = left; emitted = [] }) there
      ∙ ap (λ (m : Memory). record { state = state_of m; vars = vars; left = left; emitted = [] }) (sym (seen.memory q.at))
      ∙ ap (λ (v : Values). record { state = state_of here.memory; vars = v; left = left; emitted = [] }) (sym (sampled_so sys k.resource w q.at ns here.variables (seen.variables q.at leaf)))
      in
      let shown = reaction_shows t q.name start stop c (subst (λ (p : Position). ChartReacts t q.name p stop c) start_is h.2) in
      let set : Outcome = settled q.at c stop begun in
      let stop_is : o.stop ≡ stop = ap (λ (y : Outcome). y.stop) h.3 ∙ emitted_all-stop sys k q.at c.emitted set in
      let longer = shown_longer t q.name start stop c shown.0 shown.1 (subst (MayHaveMore more) stop_is may) in
      let s : Seen = record here { memory = InState c.state; variables = c.vars } in
      let after : Look = with_seen q.at s (with_left k (c.left + more) look) in
      let x : Taking = record { first = first; emits = c.emitted; pieces = shown.0; stop = stop; after = after } in
      let b : Block = begun.world.blocks q.at in
      let all = emitted_all-publishes sys k q.at c.emitted set in
      let base = record (w.blocks q.at) { variables = vars } in
      let new : Block = record b { memory = InState c.state; variables = c.vars } in (
        x,
        record {
          key_is = refl;
          at_is = refl;
          lines_are = sym (ap (λ (y : Outcome). y.lines) h.3 ∙ emitted_all-lines sys k q.at c.emitted set);
          stop_is = sym stop_is;
          is_taking = subst (λ (o : Option Kind). IsTakingAt (left + more) look o x) (sym kind) (record { taken = refl; end = record c { left = c.left + more }; shown = longer; emitted = refl; is = refl });
          seen = seen_after sys look w seen q.at s after o.world (λ z. refl) (InState c.state) c.vars refl refl
              (λ z. ap (λ (y : Outcome). (y.world.blocks z).memory) h.3 ∙ all.memory z ∙ part_twice (λ (y : Block). y.memory) (same_path z q.at) new base (w.blocks z))
              (λ z. ap (λ (y : Outcome). (y.world.blocks z).variables) h.3 ∙ all.variables z ∙ part_twice (λ (y : Block). y.variables) (same_path z q.at) new base (w.blocks z));
          due_is = ap (λ (z : Seen). z.due) (seen_here q.at s look) ∙ ap (λ (a : TimerAsk). due_after a here.due) (sym (ap (λ (y : Outcome). y.timer) h.3 ∙ emitted_all-timer sys k q.at c.emitted set));
          others = seen_other q.at s look;
          steps_are = ap (λ (n : ℕ). (with_left k (n + more) look).steps) (sym (ap (λ (y : Outcome). y.left) h.3 ∙ emitted_all-left sys k q.at c.emitted set));
          asks = inl (ap (λ (y : Outcome). y.timer) h.3 ∙ emitted_all-timer sys k q.at c.emitted set);
          runs = λ other same. absurd (basic_or_event t other (sym kind ∙ same));
        },
      )

  -- ---- Event blocks

  abbrev reaction_here : EventKind → blocks.Reaction
  reaction_here kind = blocks.reaction kind (memory_of here.memory) q.name k.tick (with_values (line_at (ports_of (Event kind))).values here.variables)

  taking_of_event :
      (kind : EventKind) → sys.kind q.at ≡ Some (Event kind) → (o : Outcome) → ReactsAt sys k w q left (Some (Event kind)) o → (x : Taking) × IsTakingOf sys k q.at left more look here.due o x
  taking_of_event kind is o h =
      let ports = ports_of (Event kind) in
      let ns = inputs_with ports q.name in
      let vars = sampled sys k.resource w q.at ns in
      let begun = taking sys k w q ports left in
      let first = line_at ports in
      let leaf : IsLeaf (sys.kind q.at) = subst IsLeaf (sym is) tt in
      let base = record (w.blocks q.at) { variables = vars } in
      let there : begun.world.blocks q.at ≡ base = put_there q.at base w in
      let said = with_values first.values here.variables in
      let same : said ≡ vars = sampled_so sys k.resource w q.at ns here.variables (seen.variables q.at leaf) in
      let r = reaction_here kind in
      let r_is : blocks.reaction kind (memory_of (begun.world.blocks q.at).memory) q.name k.tick (begun.world.blocks q.at).variables ≡ r =
      ap (λ (b : Block). blocks.reaction kind (memory_of b.memory) q.name k.tick b.variables) there
      ∙ ap (λ (m : Memory). blocks.reaction kind (memory_of m) q.name k.tick vars) (sym (seen.memory q.at))
      ∙ ap (λ (v : Values). blocks.reaction kind (memory_of here.memory) q.name k.tick v) (sym same)
      in
      let o_is : o ≡ answered sys k q.at kind r begun = h ∙ ap (λ (y : blocks.Reaction). answered sys k q.at kind y begun) r_is in
      let es : List Emission = emissions_by kind r in
      let kept : Outcome = remembered q.at r begun in
      let all = emitted_all-publishes sys k q.at es kept in
      let s : Seen = reacted here r said here.due in
      let after : Look = with_seen q.at s (with_left k (left + more) look) in
      let x : Taking = record { first = first; emits = es; pieces = memory_pieces here s ++ emits_pieces es; stop = None; after = after } in
      let new : Block = record (begun.world.blocks q.at) { memory = Remembers r.memory } in (
        x,
        record {
          key_is = refl;
          at_is = refl;
          lines_are = sym (ap (λ (y : Outcome). y.lines) o_is ∙ emitted_all-lines sys k q.at es kept);
          stop_is = sym (ap (λ (y : Outcome). y.stop) o_is ∙ emitted_all-stop sys k q.at es kept);
          is_taking = subst (λ (o : Option Kind). IsTakingAt (left + more) look o x) (sym is) (inl (record { taken = refl; goes_on = refl; is = (refl, refl, refl) }));
          seen = seen_after sys look w seen q.at s after o.world (λ z. refl) (Remembers r.memory) vars refl same
              (λ z. ap (λ (y : Outcome). (y.world.blocks z).memory) o_is ∙ all.memory z ∙ part_twice (λ (y : Block). y.memory) (same_path z q.at) new base (w.blocks z))
              (λ z. ap (λ (y : Outcome). (y.world.blocks z).variables) o_is ∙ all.variables z ∙ part_twice (λ (y : Block). y.variables) (same_path z q.at) new base (w.blocks z)
              ∙ ap (λ (b : Block). cond (same_path z q.at) b.variables (w.blocks z).variables) there);
          due_is = ap (λ (z : Seen). z.due) (seen_here q.at s look) ∙ ap (λ (a : TimerAsk). due_after a here.due) (sym (ap (λ (y : Outcome). y.timer) o_is ∙ emitted_all-timer sys k q.at es kept));
          others = seen_other q.at s look;
          steps_are = ap (λ (n : ℕ). (with_left k (n + more) look).steps) (sym (ap (λ (y : Outcome). y.left) o_is ∙ emitted_all-left sys k q.at es kept));
          asks = inr (kind, is);
          runs = runs_so sys q.at look s kind r o.timer is (ap (λ (y : Outcome). y.timer) o_is ∙ emitted_all-timer sys k q.at es kept) refl
              (reaction_runs kind (memory_of here.memory) q.name k.tick said);
        },
      )

  -- ---- Composites

  composite_variables : (v : World) (b : Block) (t : CompositeType) → sys.kind q.at ≡ Some (Composite t) → ((z : Path) → v.blocks z ≡ cond (same_path z q.at) b (w.blocks z)) → (z : Path) → IsLeaf (sys.kind z) → (v.blocks z).variables ≡ (w.blocks z).variables
  composite_variables v b t is all z leaf = ap (λ (y : Block). y.variables) (all z) ∙ by (same_path z q.at) refl
    where
      by : (c : Bool) → same_path z q.at ≡ c → (cond c b (w.blocks z)).variables ≡ (w.blocks z).variables
      by true e = absurd (subst IsLeaf (ap sys.kind (same_path_is z q.at e) ∙ is) leaf)
      by false e = refl

  taking_of_composite :
      (t : CompositeType) → sys.kind q.at ≡ Some (Composite t) → (o : Outcome) (c : Bool) → o ≡ (if c then crossing_in sys k q (taking sys k w q t.ports left) else crossing_out sys k w q t.ports left)
      → (x : Taking) × IsTakingOf sys k q.at left more look here.due o x
  taking_of_composite t is o true h =
      let ns = inputs_with t.ports q.name in
      let base = record (w.blocks q.at) { variables = sampled sys k.resource w q.at ns } in
      let x : Taking = record { first = line_at t.ports; emits = []; pieces = []; stop = None; after = with_left k (left + more) look } in (
        x,
        record {
          key_is = refl;
          at_is = refl;
          lines_are = sym (ap (λ (y : Outcome). y.lines) h);
          stop_is = sym (ap (λ (y : Outcome). y.stop) h);
          is_taking = subst (λ (o : Option Kind). IsTakingAt (left + more) look o x) (sym is) (record { none = refl; silent = refl; goes_on = refl; is = refl });
          seen = record {
            memory = λ z. seen.memory z ∙ sym (ap (λ (y : Outcome). (y.world.blocks z).memory) h ∙ kept_at (λ (y : Block). y.memory) q.at base w.blocks refl z);
            variables = λ z leaf. seen.variables z leaf ∙ sym (composite_variables o.world base t is (λ (v : Path). ap (λ (y : Outcome). y.world.blocks v) h) z leaf);
          };
          due_is = ap (λ (a : TimerAsk). due_after a here.due) (sym (ap (λ (y : Outcome). y.timer) h));
          others = λ z e. refl;
          steps_are = ap (λ (n : ℕ). (with_left k (n + more) look).steps) (sym (ap (λ (y : Outcome). y.left) h));
          asks = inl (ap (λ (y : Outcome). y.timer) h);
          runs = λ other same. absurd (composite_or_event t other (sym is ∙ same));
        },
      )
  taking_of_composite t is o false h =
      let values = bound (outputs_with t.ports q.name) (from_inside sys k.resource w q.at) in
      let base = record (w.blocks q.at) { published = with_values values (w.blocks q.at).published } in
      let x : Taking =
      record { first = record { key = k; taken = false; at = q.at; event = q.name; values = values }; emits = []; pieces = []; stop = None; after = with_left k (left + more) look }
      in (
        x,
        record {
          key_is = refl;
          at_is = refl;
          lines_are = sym (ap (λ (y : Outcome). y.lines) h);
          stop_is = sym (ap (λ (y : Outcome). y.stop) h);
          is_taking = subst (λ (o : Option Kind). IsTakingAt (left + more) look o x) (sym is) (record { none = refl; silent = refl; goes_on = refl; is = refl });
          seen = record {
            memory = λ z. seen.memory z ∙ sym (ap (λ (y : Outcome). (y.world.blocks z).memory) h ∙ kept_at (λ (y : Block). y.memory) q.at base w.blocks refl z);
            variables = λ z leaf. seen.variables z leaf ∙ sym (ap (λ (y : Outcome). (y.world.blocks z).variables) h ∙ kept_at (λ (y : Block). y.variables) q.at base w.blocks refl z);
          };
          due_is = ap (λ (a : TimerAsk). due_after a here.due) (sym (ap (λ (y : Outcome). y.timer) h));
          others = λ z e. refl;
          steps_are = ap (λ (n : ℕ). (with_left k (n + more) look).steps) (sym (ap (λ (y : Outcome). y.left) h));
          asks = inl (ap (λ (y : Outcome). y.timer) h);
          runs = λ other same. absurd (composite_or_event t other (sym is ∙ same));
        },
      )

  -- an event at a port of an instance
  taking_of_port : (kind : Kind) → sys.kind q.at ≡ Some kind → (o : Outcome) → ReactsAt sys k w q left (Some kind) o → MayHaveMore more o.stop → (x : Taking) × IsTakingOf sys k q.at left more look here.due o x
  taking_of_port (Basic t) is o h may = taking_of_chart t is o h may
  taking_of_port (Event kind) is o h may = taking_of_event kind is o h
  taking_of_port (Composite t) is o h may = taking_of_composite t is o (is_event_input t.ports q.name) h

-- ---- Timers

module _ (sys : System) (k : Key) (w : World) (p : Path) (left more : ℕ) (look : Look) (seen : IsSeenIn sys look w) where
  taking_of_timer : (kind : EventKind) → sys.kind p ≡ Some (Event kind) → (o : Outcome) → o ≡ expires sys k w p left (Some (Event kind)) → GoesOff kind (look.blocks p) k.tick → (x : Taking) × IsTakingOf sys k p left more look None o x
  taking_of_timer kind is o h goes =
      let b = look.blocks p in
      let r = blocks.expiry kind (memory_of b.memory) k.tick in
      let ports = ports_of (Event kind) in
      let r_is : blocks.expiry kind (memory_of (w.blocks p).memory) k.tick ≡ r = ap (λ (m : Memory). blocks.expiry kind (memory_of m) k.tick) (sym (seen.memory p)) in
      let o_is : o ≡ answered sys k p kind r (silent w left) = h ∙ ap (λ (y : blocks.Reaction). answered sys k p kind y (silent w left)) r_is in
      let e : Emission = record { event = goes.first; values = bound (outputs_with ports goes.first) (blocks.output_of r.memory) } in
      let es : List Emission = emissions ports (blocks.output_of r.memory) goes.rest in
      let all_are : emissions_by kind r ≡ e ∷ es = ap (emissions ports (blocks.output_of r.memory)) goes.emits in
      let kept : Outcome = remembered p r (silent w left) in
      let all = emitted_all-publishes sys k p (emissions_by kind r) kept in
      let s : Seen = reacted b r b.variables None in
      let after : Look = with_seen p s (with_left k (left + more) look) in
      let x : Taking =
      record { first = record { key = k; taken = false; at = p; event = e.event; values = e.values }; emits = es; pieces = memory_pieces b s ++ emits_pieces es; stop = None; after = after }
      in
      let leaf : IsLeaf (sys.kind p) = subst IsLeaf (sym is) tt in
      let new : Block = record (w.blocks p) { memory = Remembers r.memory } in (
        x,
        record {
          key_is = refl;
          at_is = refl;
          lines_are = sym (ap (λ (y : Outcome). y.lines) o_is ∙ emitted_all-lines sys k p (emissions_by kind r) kept ∙ ap (map (emission_line k p)) all_are);
          stop_is = sym (ap (λ (y : Outcome). y.stop) o_is ∙ emitted_all-stop sys k p (emissions_by kind r) kept);
          is_taking = subst (λ (o : Option Kind). IsTakingAt (left + more) look o x) (sym is) (inr (record { emitted = refl; due = goes.due; goes_on = refl; is = (sym all_are, refl, refl) }));
          seen = seen_after sys look w seen p s after o.world (λ z. refl) (Remembers r.memory) (w.blocks p).variables refl (seen.variables p leaf)
              (λ z. ap (λ (y : Outcome). (y.world.blocks z).memory) o_is ∙ all.memory z ∙ part_of (λ (y : Block). y.memory) (same_path z p) new (w.blocks z))
              (λ z. ap (λ (y : Outcome). (y.world.blocks z).variables) o_is ∙ all.variables z ∙ part_of (λ (y : Block). y.variables) (same_path z p) new (w.blocks z));
          due_is = ap (λ (z : Seen). z.due) (seen_here p s look) ∙ ap (λ (a : TimerAsk). due_after a None) (sym (ap (λ (y : Outcome). y.timer) o_is ∙ emitted_all-timer sys k p (emissions_by kind r) kept));
          others = seen_other p s look;
          steps_are = ap (λ (n : ℕ). (with_left k (n + more) look).steps) (sym (ap (λ (y : Outcome). y.left) o_is ∙ emitted_all-left sys k p (emissions_by kind r) kept));
          asks = inr (kind, is);
          runs = runs_so sys p look s kind r o.timer is (ap (λ (y : Outcome). y.timer) o_is ∙ emitted_all-timer sys k p (emissions_by kind r) kept) refl
              (expiry_runs kind (memory_of b.memory) k.tick);
        },
      )

-- ---- Events

-- a world in which slots were set is seen so
slots_seen : (sys : System) (look : Look) (w : World) (p : Path) (bs : List Bound) → IsSeenIn sys look w → IsSeenIn sys look (with_slots p bs w)
slots_seen sys look w p bs seen =
    let b = record (w.blocks p) { slots = with_values bs (w.blocks p).slots } in
    record {
      memory = λ z. seen.memory z ∙ sym (kept_at (λ (y : Block). y.memory) p b w.blocks refl z);
      variables = λ z leaf. seen.variables z leaf ∙ sym (kept_at (λ (y : Block). y.variables) p b w.blocks refl z);
    }

pub reacts_taking :
    (sys : System) (k : Key) (w : World) (event : AnEvent) (left more : ℕ) (look : Look) (o : Outcome) → IsSeenIn sys look w → CanReact sys look k event → Reacts sys k w event left o
    → MayHaveMore more o.stop → (x : Taking) × IsTakingOf sys k (path_of event) left more look (due_before look event) o x
reacts_taking sys k w (Stimulated q bs) left more look o seen can h may =
    taking_of_port sys k (with_slots q.at bs w) q left more look (slots_seen sys look w q.at bs seen) can.0 can.1 o (subst (λ (kind : Option Kind). ReactsAt sys k (with_slots q.at bs w) q left kind o) can.1 h) may
reacts_taking sys k w (Expired p) left more look o seen can h may =
    taking_of_timer sys k w p left more look seen can.0 can.1 o (h ∙ ap (expires sys k w p left) can.1) can.2
reacts_taking sys k w (Arrived q cs) left more look o seen can h may =
    taking_of_port sys k (record w { held = hold_all cs w.held }) q left more look (record { memory = seen.memory; variables = seen.variables }) can.0 can.1 o
    (subst (λ (kind : Option Kind). ReactsAt sys k (record w { held = hold_all cs w.held }) q left kind o) can.1 h) may
reacts_taking sys k w (Raised q) left more look o seen can h may =
    taking_of_port sys k w q left more look seen can.0 can.1 o (subst (λ (kind : Option Kind). ReactsAt sys k w q left kind o) can.1 h) may
