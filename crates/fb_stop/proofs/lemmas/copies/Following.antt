-- A copy of a basic block reacts as the block itself.
use Rattle.fb_types.proofs.Common.{◌≡◌, ℕ, suc, Bool, true, false, cond, List, [], map, Option, Some, None, refl, sym, ap, subst, ◌∙◌, fun_ext, Basic, Bound, bound, inputs_with, outputs_with, ChartReacts, Position, Inputs, system_of, Name, Path, Port, event_at, line_of, pair_up, path_at, port_of, ports_at, World, state_of, with_values, InState, State, Stimulated, Expired, Arrived, Raised, System, Effect, begun, world_of, Values}
use Rattle.fb_types.specs.declared.key.Key.{Key}
use Rattle.fb_types.specs.declared.library.BasicType.{BasicType}
use Rattle.fb_types.specs.declared.library.Ports.{Ports}
use Rattle.fb_types.specs.declared.run.Line.{Line}
use Rattle.fb_types.specs.declared.run.Target.{Target}
use Rattle.fb_types.specs.declared.value.Reason.{Reason}
use Rattle.fb_types.specs.States.{Event as AnEvent}
use Rattle.fb_types.specs.States as model
use Rattle.fb_types.proofs.lemmas.determined.ChartLaws.{chart-one}
use Rattle.fb_types.proofs.lemmas.events.ReactionLaws.{kept_at}
use Rattle.fb_st.specs.Frames.{values_of}
use Rattle.fb_ecc.specs.Indexes.{index, state_at}
use Rattle.fb_ecc.specs.declared.state.BasicState.{BasicState}
use Rattle.fb_net.specs.Worlds.{BasicRepresents}
use Rattle.fb_net.proofs.lemmas.values.Sampling.{input_port, ports-of_kind, sample_at, sampled-paired, sampled-wrote}
use Rattle.fb_stop.specs.Copies.{HasFollowed, HasLocated, IsCopy, begins_at}
use Rattle.fb_stop.specs.Found.{StopsInBlock, start_at, world_at}
use Rattle.fb_stop.specs.Sites.{ReactionStops}
use Rattle.fb_stop.specs.declared.site.ReactionStop.{ReactionStop}
use Rattle.fb_stop.specs.declared.site.Site.{Site}
use Rattle.fb_stop.proofs.lemmas.copies.Stopping.{stops_reacts}
use Rattle.fb_stop.proofs.lemmas.runs.Takings.{BasicTaking}

-- what an event sets before it samples are no variables
world_keeps : (e : AnEvent) (w : World) (p : Path) → ((world_at e w).blocks p).variables ≡ (w.blocks p).variables
world_keeps (Stimulated q bs) w p = kept_at (λ b. b.variables) q.at _ w.blocks refl p
world_keeps (Expired r) w p = refl
world_keeps (Arrived q cs) w p = refl
world_keeps (Raised q) w p = refl

-- The event of a key arrives at an event input of a basic block.
module _ (i : Inputs) (k : Key) (s : State) (e : AnEvent) (t : Target) (block : BasicType) (kind : (system_of i).kind (path_at (system_of i) t.instance) ≡ Some (Basic block))
    (input : t.is_output ≡ false) (left : ℕ) where
  abbrev sys : System
  sys = system_of i

  abbrev p : Path
  p = path_at sys t.instance

  abbrev q : Port
  q = port_of sys t

  abbrev name : Name
  name = event_at block.ports.event_inputs t.event

  abbrev ns : List Name
  ns = inputs_with block.ports name

  ports : ports_at sys p ≡ block.ports
  ports = ports-of_kind sys p (Basic block) kind

  pub port_is : q ≡ record { at = p; name = name }
  port_is = input_port sys t input ∙ ap (λ (x : Ports). record { at = p; name = event_at x.event_inputs t.event }) ports

  abbrev start : Position
  start = start_at sys k s e block (record { at = p; name = name }) left

  abbrev from_state : Name → Values → Position
  from_state n vs = record { state = n; vars = vs; left = left; emitted = [] }

  -- the line of the event
  module _ (line : Line) (is : line_of sys line ≡ record { key = k; taken = true; at = p; event = name; values = bound ns start.vars }) where
    abbrev names_by : (taken : Bool) → Ports → Name → List Name
    names_by taken x n = cond taken (inputs_with x n) (outputs_with x n)

    -- the values are those of the variables WITH the event
    values_are : pair_up ns line.values ≡ bound ns start.vars
    values_are =
        let its : Ports = ports_at sys (path_at sys line.instance) in
        let n : Name = (line_of sys line).event in
        let taken : line.taken ≡ true = ap (λ (l : model.Line). l.taken) is in
        let at : path_at sys line.instance ≡ p = ap (λ (l : model.Line). l.at) is in
        let event : n ≡ name = ap (λ (l : model.Line). l.event) is in
        let here : its ≡ block.ports = ap (ports_at sys) at ∙ ports in
        sym (ap (λ (b : Bool). pair_up (names_by b its n) line.values) taken
        ∙ ap (λ (x : Ports). pair_up (inputs_with x n) line.values) here
        ∙ ap (λ (m : Name). pair_up (inputs_with block.ports m) line.values) event)
        ∙ ap (λ (l : model.Line). l.values) is

    samples : with_values (pair_up ns line.values) (s.blocks p).variables ≡ start.vars
    samples =
        let w : World = world_at e (world_of s k.resource) in
        ap (λ (bs : List Bound). with_values bs (s.blocks p).variables) (values_are ∙ sym (sampled-wrote sys k.resource w p ns))
        ∙ ap (λ (vs : Values). with_values (pair_up ns (map (sample_at sys k.resource w p) ns)) vs) (sym (world_keeps e (world_of s k.resource) p))
        ∙ sampled-paired sys k.resource w p ns

    -- the copy begins where the block does
    module _ (x : BasicState) (represents : BasicRepresents block x (s.blocks p).memory (s.blocks p).variables) where
      pub begins : begins_at block x t.event line.values left [] ≡ start
      begins =
          let vars : values_of x.frame ≡ (s.blocks p).variables = sym (fun_ext represents.variables) in
          let state : state_at block x.state ≡ state_of (s.blocks p).memory = sym (ap state_of represents.memory) in
          ap (λ (vs : Values). from_state (state_at block x.state) (with_values (pair_up ns line.values) vs)) vars
          ∙ ap (from_state (state_at block x.state)) samples
          ∙ ap (λ (n : Name). from_state n start.vars) state

      module _ (effect : Effect) (taking : BasicTaking sys k s e (record { at = p; name = name }) block left effect) where
        -- it remembers afterwards what the block does
        pub follows : (old new : Option BasicState) → old ≡ Some x → (h : HasFollowed block t.event line.values left old new) → IsCopy i t.instance (effect.state.blocks p) new
        follows old new was h u same =
            let one : Some h.before ≡ Some x = sym h.was ∙ was in
            let before : h.before ≡ x = cc in
            let own : Some (Basic u) ≡ Some (Basic block) = sym same ∙ kind in
            let type_is : u ≡ block = cc in
            let from : begins_at block h.before t.event line.values left [] ≡ start = ap (λ (z : BasicState). begins_at block z t.event line.values left []) before ∙ begins in
            let ends = chart-one block name start taking.stop h.stop taking.position (index block h.after.state h.after.frame h.rest h.emits) taking.reacts
            (subst (λ (z : Position). ChartReacts block name z h.stop (index block h.after.state h.after.frame h.rest h.emits)) from h.reacts) in (
              h.after,
              h.is,
              subst (λ (z : BasicType). BasicRepresents z h.after (effect.state.blocks p).memory (effect.state.blocks p).variables) (sym type_is)
                  (record {
                    sound = represents.sound;
                    block = h.block;
                    memory = taking.memory ∙ ap (λ (z : Position). InState z.state) ends.1;
                    variables = λ n. ap (λ (vs : Values). vs n) (taking.variables ∙ ap (λ (z : Position). z.vars) ends.1);
                  }),
            )

        -- where the block stops, the copy does not come to rest
        pub never_rests : (r : Reason) → effect.stop ≡ Some r → (z : Position) → ¬ (ChartReacts block name (begins_at block x t.event line.values left []) None z)
        never_rests r stops z rests =
            let ends = chart-one block name start taking.stop None taking.position z taking.reacts (subst (λ (y : Position). ChartReacts block name y None z) begins rests) in
            let both : Some r ≡ None = sym stops ∙ taking.stops ∙ ends.0 in
            cc

        -- the block stops where the copy does
        pub stops_there : (limit : ℕ) (r reason : Reason) (site : Site) (copy : Option BasicState) → effect.stop ≡ Some r → copy ≡ Some x
            → (begun limit k.tick (s.meters k.resource)).left ≡ suc left → HasLocated block t.event line.values left copy (Some (record { reason = reason; site = site }))
            → StopsInBlock sys limit s k e q r site
        stops_there limit r reason site copy stops was counted h =
            let one : Some h.state ≡ Some x = sym h.is ∙ was in
            let state : h.state ≡ x = cc in
            let from : begins_at block h.state t.event line.values left [] ≡ start = ap (λ (z : BasicState). begins_at block z t.event line.values left []) state ∙ begins in
            let found : ReactionStop = record { reason = reason; site = site } in
            let reacts : ReactionStops block name start found h.position = subst (λ (z : Position). ReactionStops block name z found h.position) from h.reacted in
            let ends = chart-one block name start taking.stop (Some reason) taking.position h.position taking.reacts (stops_reacts block name start h.position found reacts) in
            let both : Some reason ≡ Some r = sym (sym stops ∙ taking.stops ∙ ends.0) in
            let reason_is : reason ≡ r = cc in
            record {
              block = block;
              kind = ap (λ (z : Port). sys.kind z.at) port_is ∙ kind;
              left = left;
              counted = counted;
              position = h.position;
              stops = subst (λ (z : Port). ReactionStops block z.name (start_at sys k s e block z left) (record { reason = r; site = site }) h.position) (sym port_is)
                  (subst (λ (u : Reason). ReactionStops block name start (record { reason = u; site = site }) h.position) reason_is reacts);
            }
