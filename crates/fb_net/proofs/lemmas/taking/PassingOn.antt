-- Event blocks that only pass events on.
use Rattle.fb_net.proofs.lemmas.Common.{◌≡◌, ◌<◌, ℕ, List, [], ◌∷◌, length, map, Some, sym, ap, subst, ◌∙◌, Name, Emission, Event, inputs_with, ports_of_event_block, Inputs, system_of, emission_of, event_at, pair_up, path_at, ports_at, World, emissions, memory_of, sampled_from, System, Values, EventKind, Ports, Target, Value, block_in, with_instance, EventCame, taken_reaction, names_in, InForest, IsForest, Forest, IsEmission}
use Rattle.fb_types.proofs.Common.{bound, Reaction}
use Rattle.fb_types.specs.declared.run.TimerAsk.TheVariants.{Keep}
use Rattle.fb_types.specs.EventBlocks.{output_of}
use Rattle.fb_types.specs.States as model
use Rattle.fb_event.specs.Reactions.{PassesTo}
use Rattle.fb_net.specs.Emitting.{bare}
use Rattle.fb_net.specs.Samples.{AreSampled}
use Rattle.fb_net.proofs.lemmas.blocks.Changing.{changes_none}
use Rattle.fb_net.proofs.lemmas.blocks.EventBlockReactions.{there}
use Rattle.fb_net.proofs.lemmas.values.Sampling.{ports-of_kind}

-- the emission has no values
emitted_bare : (k : EventKind) (out : ℕ) → PassesTo k out → (vars : Values)
    → map (emission_of (ports_of_event_block k)) (bare out ∷ []) ≡ emissions (ports_of_event_block k) vars (event_at (ports_of_event_block k).event_outputs out ∷ [])
emitted_bare k out passes vars =
    let name = event_at (ports_of_event_block k).event_outputs out in
    let paired : List Name → List Emission = λ ns. record { event = name; values = pair_up ns [] } ∷ [] in
    let named : List Name → List Emission = λ ns. record { event = name; values = bound ns vars } ∷ [] in
    ap paired passes.no_outputs ∙ sym (ap named passes.no_outputs)

module _ (i : Inputs) (f : Forest) (kind : EventKind) (at : Target) (out : ℕ) (passes : PassesTo kind out) (is : (system_of i).kind (path_at (system_of i) at.instance) ≡ Some (Event kind)) where
  abbrev sys : System
  sys = system_of i

  ports : ports_at sys (path_at sys at.instance) ≡ ports_of_event_block kind
  ports = ports-of_kind sys (path_at sys at.instance) (Event kind) is

  -- no variable is WITH the event
  pub no_names : names_in sys at ≡ []
  no_names = ap (λ (its : Ports). inputs_with its (event_at its.event_inputs at.event)) ports ∙ passes.no_inputs _

  pub nothing_sampled : (values : List Value) → values ≡ [] → AreSampled i f at values
  nothing_sampled values none w stood lies =
      none ∙ sym (ap (map (λ n. sampled_from sys f.resource w (record { at = path_at sys at.instance; name = n }))) no_names)

  pub is_emission : IsEmission (ports_at sys (path_at sys at.instance)) (bare out)
  is_emission = subst (λ (its : Ports). IsEmission its (bare out)) (sym ports) (record { event = passes.well_formed.0; values = passes.well_formed.1 })

  -- the blocks stay as they are
  pub passed_came : at.instance < length sys.paths → (tick : ℕ) (w : World) → IsForest i f w → InForest i f at.instance
      → EventCame i at.instance kind (taken_reaction i kind at tick w) f Keep (bare out ∷ []) w
  passed_came number tick w stood lies =
      let b = block_in i w at.instance in
      let s = there i f at.instance kind is number w stood lies in
      let remembers = s.2.memory in
      let answers = passes.answers (memory_of b.memory) (event_at (ports_of_event_block kind).event_inputs at.event) tick b.variables in
      let kept : b.memory ≡ model.Remembers (taken_reaction i kind at tick w).memory =
      remembers ∙ sym (ap (λ m. model.Remembers (memory_of m)) remembers) ∙ sym (ap (λ (r : Reaction). model.Remembers r.memory) answers) in
      record {
        represents = subst (λ (m : model.Memory). IsForest i f (with_instance i at.instance (record b { memory = m }) w)) kept ((changes_none i f at.instance).represents w stood lies);
        timer = sym (ap (λ (r : Reaction). r.timer) answers);
        emitted =
            emitted_bare kind out passes (output_of (memory_of b.memory))
            ∙ sym (ap (λ (r : Reaction). emissions (ports_of_event_block kind) (output_of r.memory) r.emits) answers);
      }
