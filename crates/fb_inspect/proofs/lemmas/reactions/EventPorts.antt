-- In a system that was accepted events go to event ports of instances, actions emit event outputs, and indices of ports fit in 32 bits.
use Rattle.fb_types.proofs.Common.{◌≡◌, Bool, true, false, cond, List, [], ◌∷◌, ◌++◌, map, Option, Some, None, Contains, refl, sym, ap, subst, ◌∙◌, inl, inr, ◌&&◌, flat_map, option_and_then, list_all, and_parts, both_ways, All-contains, Contains-append_left, Contains-append_right, same_Some, BadStimulus, IsGood, Kind, Basic, Composite, Event, among, event_names, is_event_input, named, ports_of, actions_of, IsNarrow, events_inside, instance_in, kind_at, kind_of, kind_of_instance, network_at, pairs_in, parent, port_in, AreAccepted, Inputs, stimuli_of, system_of, TooHigh, Each, Name, Path, Port, same_port, OwnedNetwork, algorithm_names, basics, basics_in, interfaces, networks, stimulus_of, Required, all_of, data_ins, data_outs, ends_known, event_ins, event_outs, is_end, required, required_chart, required_deployment, required_parameters, required_types, required_withs}
use Rattle.fb_types.specs.declared.event_kind.EventKind.{EventKind}
use Rattle.fb_types.specs.declared.library.Action.{Action}
use Rattle.fb_types.specs.declared.library.BasicType.{BasicType}
use Rattle.fb_types.specs.declared.library.BlockType.{BlockType}
use Rattle.fb_types.specs.declared.library.CompositeType.{CompositeType}
use Rattle.fb_types.specs.declared.library.Connection.{Connection}
use Rattle.fb_types.specs.declared.library.Library.{Library}
use Rattle.fb_types.specs.declared.library.Network.{Network}
use Rattle.std.proofs.Common.{filter}
use Rattle.std.proofs.lemmas.Bool.{true_from_ne_false}
use Rattle.fb_types.specs.Accepted.{Applies, kind_of_stimulus}
use Rattle.fb_types.specs.Flat.{events_at}
use Rattle.fb_types.specs.Simulation.{Stimulus}
use Rattle.fb_types.specs.Unknown.{optional, required_actions, required_transition}
use Rattle.fb_types.specs.declared.deploy.Stimulus as deploy
use Rattle.fb_types.specs.declared.library.BlockType.TheVariants as block
use Rattle.fb_types.specs.declared.library.State.{State}
use Rattle.fb_types.proofs.lemmas.lists.EachLaws.{each_append, each_map}
use Rattle.fb_types.proofs.lemmas.lists.Elements.{Contains-flat_map, Contains-here, Contains-there}
use Rattle.fb_types.proofs.lemmas.events.EventCounts.{event_block_narrow}
use Rattle.fb_types.proofs.lemmas.names.NameLaws.{any_from_contains, named-Contains}
use Rattle.fb_laws.proofs.lemmas.typing.Declared.{IsDeclared, IsNetworkAt, kind-declared, network-declared}
use Rattle.fb_system.specs.Networks.{AreNarrow}
use Rattle.fb_inspect.specs.walk.RunTakings.{AreThere, IsThere}
use Rattle.fb_inspect.specs.walk.RunLines.{HasOutput, IsEventOf, IsEventPort}

event_there : (o : Option Kind) (n : Name) → IsEventOf o n → (kind : Kind) × (o ≡ Some kind)
event_there None n h = absurd h
event_there (Some k) n h = (k, refl)

input_event : (k : Kind) (n : Name) → among (event_ins (ports_of k)) n ≡ true → IsEventOf (Some k) n
input_event (Basic t) n h = h
input_event (Event k) n h = h
input_event (Composite t) n h = inl h

pub each_of : {A : Type 0} (P : A → Type 0) (xs : List A) → ((x : A) → Contains xs x → P x) → Each P xs
each_of P [] h = tt
each_of P (x ∷ xs) h = (h x (Contains-here x xs), each_of P xs (λ y c. h y (Contains-there x xs y c)))

module _ (i : Inputs) (accepted : AreAccepted i) where
  abbrev lib : Library
  lib = i.library

  pub low : TooHigh lib → ⊥
  low high = accepted 25 (inr (inr (inr (inr (inr (inl (refl, high)))))))

  abbrev GoesThere : Port × Port → Type 0
  GoesThere c = IsEventPort (system_of i) c.1

  known : (n : OwnedNetwork) → Contains (networks lib) n → ends_known lib n ≡ true
  known n among = by (ends_known lib n) refl
    where
      by : (b : Bool) → ends_known lib n ≡ b → ends_known lib n ≡ true
      by true e = e
      by false e = absurd (accepted 21 (inr (inl (refl, inr (inr (n, among, e))))))

  -- ---- Connections

  module _ (p : Path) (net : Network) (at : network_at lib p ≡ Some net) where
    here : IsNetworkAt lib p net
    here = network-declared lib p net at

    abbrev is_known : Connection → Bool
    is_known c = is_end lib (here.composite, net) event_outs event_ins c.from && is_end lib (here.composite, net) event_ins event_outs c.to

    abbrev is_data_known : Connection → Bool
    is_data_known c = is_end lib (here.composite, net) data_outs data_ins c.from && is_end lib (here.composite, net) data_ins data_outs c.to

    boundary_event : (n : Name) (o : Option CompositeType) → here.composite ≡ o → elim o [ None ↦ false | Some t ↦ among (event_outs t.ports) n ] ≡ true → IsEventOf (kind_at lib p) n
    boundary_event n None e h = absurd (cc)
    boundary_event n (Some t) e h = subst (λ (k : Option Kind). IsEventOf k n) (sym (here.around t e)) (inr h)

    component_event :
        (c n : Name) (o : Option Kind) → option_and_then (kind_of_instance lib) (instance_in net c) ≡ o → elim o [ None ↦ false | Some k ↦ among (event_ins (ports_of k)) n ] ≡ true
        → IsEventOf (kind_at lib (c ∷ p)) n
    component_event c n None e h = absurd (cc)
    component_event c n (Some k) e h =
        let kind : kind_at lib (c ∷ p) ≡ Some k = ap (λ (z : Option Network). option_and_then (kind_of_instance lib) (option_and_then (λ (net : Network). instance_in net c) z)) at ∙ e in
        subst (λ (z : Option Kind). IsEventOf z n) (sym kind) (input_event k n h)

    end_event : (c : Option Name) (n : Name) → is_end lib (here.composite, net) event_ins event_outs (record { component = c; port = n }) ≡ true → IsEventPort (system_of i) (port_in p (record { component = c; port = n }))
    end_event None n h = boundary_event n here.composite refl h
    end_event (Some c) n h = component_event c n (option_and_then (kind_of_instance lib) (instance_in net c)) refl h

    pairs_there : (cs : List Connection) → list_all is_known cs ≡ true → Each GoesThere (pairs_in p cs)
    pairs_there [] h = tt
    pairs_there (c ∷ cs) h =
        let both = and_parts (is_known c) (list_all is_known cs) h in
        let ends = and_parts (is_end lib (here.composite, net) event_outs event_ins c.from) (is_end lib (here.composite, net) event_ins event_outs c.to) both.0 in
        (end_event c.to.component c.to.port ends.1, pairs_there cs both.1)

    network_there : Each GoesThere (pairs_in p net.event_connections)
    network_there =
        pairs_there net.event_connections
        (and_parts (list_all is_known net.event_connections) (list_all is_data_known net.data_connections) (known (here.composite, net) here.declared)).0

  inside_there : (p : Path) → Each GoesThere (events_inside lib p)
  inside_there p = by (network_at lib p) refl
    where
      by : (o : Option Network) → network_at lib p ≡ o → Each GoesThere (elim o [ None ↦ [] | Some net ↦ pairs_in p net.event_connections ])
      by None e = tt
      by (Some net) e = network_there p net e

  chosen_there : (q : Port) (cs : List (Port × Port)) → Each GoesThere cs → Each (IsEventPort (system_of i)) (map (λ c. c.1) (filter (λ c. same_port c.0 q) cs))
  chosen_there q [] h = tt
  chosen_there q (c ∷ cs) h = by (same_port c.0 q) (chosen_there q cs h.1)
    where
      rest : List (Port × Port)
      rest = filter (λ (d : Port × Port). same_port d.0 q) cs

      by : (b : Bool) → Each (IsEventPort (system_of i)) (map (λ (d : Port × Port). d.1) rest) → Each (IsEventPort (system_of i)) (map (λ (d : Port × Port). d.1) (cond b (c ∷ rest) rest))
      by true more = (h.0, more)
      by false more = more

  -- Events go to event ports,
  pub targets_events : (q : Port) → Each (IsEventPort (system_of i)) ((system_of i).targets q)
  targets_events q = chosen_there q (events_at lib q.at) (each_append GoesThere (events_inside lib (parent q.at)) (events_inside lib q.at) (inside_there (parent q.at)) (inside_there q.at))

  -- Event ports to which events go are those of instances.
  pub targets_there : AreThere (system_of i)
  targets_there q =
      each_map (IsEventPort (system_of i)) (λ (t : Port). IsThere (system_of i) t.at) ((system_of i).targets q) (λ t e. event_there ((system_of i).kind t.at) t.name e) (targets_events q)

  -- ---- Stimuli

  none_or_some : (k : Kind) (o : Option Kind) → o ≡ None → o ≡ Some k → ⊥
  none_or_some k o a b = cc

  bad : BadStimulus lib i.stimuli → Applies 29 lib i.plan i.stimuli
  bad b = inr (inr (inr (inr (inr (inr (inr (inr (inr (inl (refl, b))))))))))

  stimulus_event : (s : deploy.Stimulus) → Contains i.stimuli s → IsEventPort (system_of i) (stimulus_of s).port
  stimulus_event s among = by (kind_of_stimulus lib s) refl
    where
      by : (o : Option Kind) → kind_of_stimulus lib s ≡ o → IsEventOf o s.event
      by None e = absurd (accepted 29 (bad (s, among, λ (good : IsGood lib s). none_or_some good.kind (kind_of_stimulus lib s) e good.of_kind)))
      by (Some k) e =
          input_event k s.event
          (true_from_ne_false (is_event_input (ports_of k) s.event) (λ no. accepted 29 (bad (
            s,
            among,
            λ (good : IsGood lib s).
                let same : good.kind ≡ k = same_Some good.kind k (sym good.of_kind ∙ e) in
                both_ways (is_event_input (ports_of k) s.event) no (subst (λ (z : Kind). is_event_input (ports_of z) s.event ≡ true) same good.is_event),
          ))))

  stimuli_in : (ss : List deploy.Stimulus) → ((s : deploy.Stimulus) → Contains ss s → Contains i.stimuli s) → Each (λ (s : Stimulus). IsEventPort (system_of i) s.port) (map stimulus_of ss)
  stimuli_in [] within = tt
  stimuli_in (s ∷ ss) within = (stimulus_event s (within s (Contains-here s ss)), stimuli_in ss (λ r h. within r (Contains-there s ss r h)))

  pub stimuli_events : Each (λ (s : Stimulus). IsEventPort (system_of i) s.port) (stimuli_of i)
  stimuli_events = stimuli_in i.stimuli (λ s h. h)

  pub stimuli_there : Each (λ (s : Stimulus). IsThere (system_of i) s.port.at) (stimuli_of i)
  stimuli_there =
      each_map (λ (s : Stimulus). IsEventPort (system_of i) s.port) (λ (s : Stimulus). IsThere (system_of i) s.port.at) (stimuli_of i)
      (λ s e. event_there ((system_of i).kind s.port.at) s.port.name e) stimuli_events

  -- ---- Actions

  module _ (t : BasicType) (declared : Contains (basics lib) t) where
    abbrev outputs : List Name
    outputs = event_names t.ports.event_outputs

    abbrev required_action : Action → List Required
    required_action a = all_of (optional a.algorithm) (algorithm_names t) ++ all_of (optional a.output) outputs

    required_there : (s : State) (a : Action) (w : Required) → Contains t.states s → Contains s.actions a → Contains (required_action a) w → Contains (required lib i.plan) w
    required_there s a w state action c =
        let types = flat_map (λ (n : OwnedNetwork). required_types lib n.1) (networks lib) in
        let withs = flat_map required_withs (interfaces lib) in
        let charts = flat_map required_chart (basics lib) in
        let parameters = flat_map (λ (n : OwnedNetwork). flat_map (required_parameters lib) n.1.instances) (networks lib) in
        let front = (types ++ withs) ++ charts in
        let chart : Contains (required_chart t) w =
        Contains-append_right (flat_map (required_transition t) t.transitions) (flat_map (required_actions t) t.states) w
        (Contains-flat_map (required_actions t) t.states s w state (Contains-flat_map required_action s.actions a w action c))
        in
        Contains-append_left (front ++ parameters) (required_deployment lib i.plan) w
        (Contains-append_left front parameters w (Contains-append_right (types ++ withs) charts w (Contains-flat_map required_chart (basics lib) t w declared chart)))

    output_known : (s : State) (a : Action) (o : Option Name) → a.output ≡ o → Contains t.states s → Contains s.actions a → HasOutput t o
    output_known s a None e state action = tt
    output_known s a (Some n) e state action =
        let w : Required = (n, outputs) in
        let own : Contains (required_action a) w =
        Contains-append_right (all_of (optional a.algorithm) (algorithm_names t)) (all_of (optional a.output) outputs) w
        (subst (λ (o : Option Name). Contains (all_of (optional o) outputs) w) (sym e) (Contains-here w []))
        in
        true_from_ne_false (among outputs n)
        (λ no. accepted 21 (inr (inl (refl, inl (w, required_there s a w state action own, λ has. both_ways (among outputs n) no (any_from_contains n outputs has))))))

    actions_known : (s : Name) → Each (λ (a : Action). HasOutput t a.output) (actions_of t s)
    actions_known s = by (named (λ (x : State). x.name) s t.states) refl
      where
        by : (o : Option State) → named (λ (x : State). x.name) s t.states ≡ o → Each (λ (a : Action). HasOutput t a.output) (elim o [ None ↦ [] | Some x ↦ x.actions ])
        by None e = tt
        by (Some x) e =
            each_of (λ (a : Action). HasOutput t a.output) x.actions
            (λ a c. output_known x a a.output refl (named-Contains (λ (x : State). x.name) s t.states x e) c)

  basic_declared : (t : BasicType) → IsDeclared lib (Basic t) → Contains (basics lib) t
  basic_declared t (inl e) = absurd (other e.0 e.1)
    where
      other : (k : EventKind) → Basic t ≡ Event k → ⊥
      other k h = cc
  basic_declared t (inr b) = go b.0 b.1 b.2
    where
      go : (b : BlockType) → Contains lib.blocks b → Basic t ≡ kind_of b → Contains (basics lib) t
      go (block.Basic s) c h =
          let same : s ≡ t = cc in
          Contains-flat_map basics_in lib.blocks (block.Basic s) t c (subst (λ (z : BasicType). Contains (s ∷ []) z) same (Contains-here s []))
      go (block.Composite s) c h = absurd (cc)

  -- The actions of each chart emit event outputs of its type.
  pub outputs_known : (p : Path) (t : BasicType) → kind_at lib p ≡ Some (Basic t) → (s : Name) → Each (λ (a : Action). HasOutput t a.output) (actions_of t s)
  outputs_known p t h = actions_known t (basic_declared t (kind-declared lib p (Basic t) h))

-- ---- Indices

pub kind_narrow : (lib : Library) → AreNarrow lib.blocks → (p : Path) (k : Kind) → kind_at lib p ≡ Some k → IsNarrow (ports_of k)
kind_narrow lib narrow p k h = by (kind-declared lib p k h)
  where
    by : IsDeclared lib k → IsNarrow (ports_of k)
    by (inl e) = subst (λ (z : Kind). IsNarrow (ports_of z)) (sym e.1) (event_block_narrow e.0)
    by (inr b) = subst (λ (z : Kind). IsNarrow (ports_of z)) (sym b.2) (All-contains (λ (t : BlockType). IsNarrow (ports_of (kind_of t))) lib.blocks b.0 narrow b.1)
