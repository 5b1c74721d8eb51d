-- The lines that a reaction gives are those of its instance, with values of the types of the variables WITH their events.
use Rattle.fb_types.proofs.Common.{◌≡◌, ◌⊎◌, ℕ, Bool, true, false, List, [], ◌∷◌, map, Option, Some, None, refl, sym, subst, inl, inr, if◌then◌else◌, both_ways, Basic, Composite, Emission, Event, Kind, among, inputs_with, is_event_input, ports_of, actions_of, variables_in, Each, Name, Path, Port, Outcome, Reacts, ReactsAt, World, crossing_in, crossing_out, emissions, emitted_all, expires, from_inside, hold_all, memory_of, remembered, sampled, settled, shown, silent, start_of, taking, with_slots, Arrived, Block, Expired, Raised, Stimulated, System, event_ins, event_outs, fits}
use Rattle.fb_types.specs.declared.key.Key.{Key}
use Rattle.fb_types.specs.declared.library.Action.{Action}
use Rattle.fb_types.specs.declared.library.BasicType.{BasicType}
use Rattle.fb_types.specs.declared.library.CompositeType.{CompositeType}
use Rattle.fb_types.specs.EventBlocks as blocks
use Rattle.fb_types.specs.Posted.{emission_line}
use Rattle.fb_types.specs.States.{Event as AnEvent, Line}
use Rattle.fb_types.proofs.lemmas.lists.EachLaws.{each_append}
use Rattle.fb_types.proofs.lemmas.names.PathLaws.{same_path_itself}
use Rattle.fb_types.proofs.lemmas.events.ReactionLaws.{emitted_all-lines}
use Rattle.fb_laws.specs.Typed.{AllFit, AreTyped, IsTypedEvent, IsTypedSystem}
use Rattle.fb_laws.proofs.lemmas.typing.EventBlocks.{expiry-typed, reaction-typed}
use Rattle.fb_laws.proofs.lemmas.typing.ReactionTypes.{held_typed, slots_typed, taking_typed}
use Rattle.fb_laws.proofs.lemmas.typing.Values.{input-found, output-found, port-found}
use Rattle.fb_laws.proofs.lemmas.typing.Worlds.{shown-fits}
use Rattle.fb_inspect.specs.walk.RunLines.{HasOutput, IsEventOf, IsEventPort, IsGiven}
use Rattle.fb_inspect.proofs.lemmas.reactions.Emissions.{IsEmitted, chart_emits, emissions_emitted, expiry_known, reaction_known}

-- An event may come under a key: to an event port in the resource of the key.
abbrev pub Comes : System → Key → AnEvent → Type 0
Comes sys k (Stimulated q bs) = IsEventPort sys q × (k.resource ≡ sys.resource q.at)
Comes sys k (Expired p) = k.resource ≡ sys.resource p
Comes sys k (Arrived q cs) = IsEventPort sys q × (k.resource ≡ sys.resource q.at)
Comes sys k (Raised q) = IsEventPort sys q × (k.resource ≡ sys.resource q.at)

module _ (sys : System) (sound : IsTypedSystem sys)
    (known : (p : Path) (t : BasicType) → sys.kind p ≡ Some (Basic t) → (s : Name) → Each (λ (a : Action). HasOutput t a.output) (actions_of t s)) (k : Key) where
  abbrev Given : Line → Type 0
  Given = IsGiven sys k

  emissions_given :
      (p : Path) (kind : Kind) → sys.kind p ≡ Some kind → k.resource ≡ sys.resource p → (es : List Emission) → Each (IsEmitted (ports_of kind)) es → Each Given (map (emission_line k p) es)
  emissions_given p kind is home [] h = tt
  emissions_given p kind is home (e ∷ es) h =
      (record { key_is = refl; kind = kind; kind_is = is; event = h.0.event; vars = h.0.vars; values = h.0.values; fit = h.0.fit; home = home }, emissions_given p kind is home es h.1)

  emitted_given :
      (p : Path) (kind : Kind) → sys.kind p ≡ Some kind → k.resource ≡ sys.resource p → (es : List Emission) (o : Outcome) → Each (IsEmitted (ports_of kind)) es → Each Given o.lines
      → Each Given (emitted_all sys k p es o).lines
  emitted_given p kind is home es o emitted lines =
      subst (Each Given) (sym (emitted_all-lines sys k p es o)) (each_append Given o.lines (map (emission_line k p) es) lines (emissions_given p kind is home es emitted))

  -- ---- A line of an event that is taken

  module _ (w : World) (typed : AreTyped sys w) (q : Port) (left : ℕ) (home : k.resource ≡ sys.resource q.at) where
    sampled_fits : (kind : Kind) → sys.kind q.at ≡ Some kind → AllFit (variables_in kind) (sampled sys k.resource w q.at (inputs_with (ports_of kind) q.name))
    sampled_fits kind is =
        let b : Block = w.blocks q.at in
        let new : Block = record b { variables = sampled sys k.resource w q.at (inputs_with (ports_of kind) q.name) } in
        subst (λ (same : Bool). AllFit (variables_in kind) (if same then new else b).variables) (same_path_itself q.at)
        ((taking_typed sys sound k w typed q kind is left).blocks q.at kind is).variables

    taken_given : (kind : Kind) → sys.kind q.at ≡ Some kind → among (event_ins (ports_of kind)) q.name ≡ true → Each Given (taking sys k w q (ports_of kind) left).lines
    taken_given kind is input = (
      record {
        key_is = refl;
        kind = kind;
        kind_is = is;
        event = input;
        vars = sampled sys k.resource w q.at (inputs_with (ports_of kind) q.name);
        values = refl;
        fit = λ n x h. sampled_fits kind is n x (port-found kind n x (input-found kind n x h));
        home = home;
      },
      tt,
    )

    -- ---- Composites

    from_inside_fits : (t : CompositeType) → sys.kind q.at ≡ Some (Composite t) → AllFit t.ports.outputs (from_inside sys k.resource w q.at)
    from_inside_fits t is n x h = by (sys.source (record { at = q.at; name = n })) refl
      where
        by : (o : Option Port) → sys.source (record { at = q.at; name = n }) ≡ o → fits x.ty (elim o [ None ↦ (w.blocks q.at).published n | Some s ↦ shown sys k.resource w s ]) ≡ true
        by None e = (typed.blocks q.at (Composite t) is).published n x h
        by (Some s) e = shown-fits sys sound k.resource w typed (record { at = q.at; name = n }) s e (Composite t) x is (output-found sys sound q.at (Composite t) n x is h)

    crossing_given :
        (t : CompositeType) → sys.kind q.at ≡ Some (Composite t) → (among (event_ins t.ports) q.name ≡ true) ⊎ (among (event_outs t.ports) q.name ≡ true) → (inward : Bool) → is_event_input t.ports q.name ≡ inward
        → Each Given (if inward then crossing_in sys k q (taking sys k w q t.ports left) else crossing_out sys k w q t.ports left).lines
    crossing_given t is named true e = taken_given (Composite t) is e
    crossing_given t is (inl input) false e = absurd (both_ways (is_event_input t.ports q.name) e input)
    crossing_given t is (inr output) false e = (
      record {
        key_is = refl;
        kind = Composite t;
        kind_is = is;
        event = output;
        vars = from_inside sys k.resource w q.at;
        values = refl;
        fit = from_inside_fits t is;
        home = home;
      },
      tt,
    )

    -- ---- The reaction to an event

    at_given : (kind : Option Kind) → sys.kind q.at ≡ kind → IsEventOf kind q.name → (o : Outcome) → ReactsAt sys k w q left kind o → Each Given o.lines
    at_given None is named o h = absurd named
    at_given (Some (Basic t)) is named o h =
        let begun = taking sys k w q t.ports left in
        let world = taking_typed sys sound k w typed q (Basic t) is left in
        let emitted = chart_emits t (λ vars fit n x out. fit n x (sound.outputs q.at (Basic t) n x is out)) (known q.at t is) q.name (start_of begun q.at) h.0 h.1 h.2
        (world.blocks q.at (Basic t) is).variables refl
        in
        subst (λ (z : Outcome). Each Given z.lines) (sym h.3)
        (emitted_given q.at (Basic t) is home h.1.emitted (settled q.at h.1 h.0 begun) emitted (taken_given (Basic t) is named))
    at_given (Some (Event kind)) is named o h =
        let begun = taking sys k w q (ports_of (Event kind)) left in
        let world = taking_typed sys sound k w typed q (Event kind) is left in
        let b = begun.world.blocks q.at in
        let r = blocks.reaction kind (memory_of b.memory) q.name k.tick b.variables in
        subst (λ (z : Outcome). Each Given z.lines) (sym h)
        (emitted_given q.at (Event kind) is home (emissions (ports_of (Event kind)) (blocks.output_of r.memory) r.emits) (remembered q.at r begun)
        (emissions_emitted kind r.memory (reaction-typed kind b.memory q.name k.tick b.variables (world.blocks q.at (Event kind) is).memory) r.emits (reaction_known kind (memory_of b.memory) q.name k.tick b.variables))
        (taken_given (Event kind) is named))
    at_given (Some (Composite t)) is named o h =
        subst (λ (z : Outcome). Each Given z.lines) (sym h) (crossing_given t is named (is_event_input t.ports q.name) refl)

  -- ---- Timers

  expires_given : (w : World) → AreTyped sys w → (p : Path) (left : ℕ) → k.resource ≡ sys.resource p → (kind : Option Kind) → sys.kind p ≡ kind → Each Given (expires sys k w p left kind).lines
  expires_given w typed p left home None is = tt
  expires_given w typed p left home (Some (Basic t)) is = tt
  expires_given w typed p left home (Some (Event kind)) is =
      let r = blocks.expiry kind (memory_of (w.blocks p).memory) k.tick in
      emitted_given p (Event kind) is home (emissions (ports_of (Event kind)) (blocks.output_of r.memory) r.emits) (remembered p r (silent w left))
      (emissions_emitted kind r.memory (expiry-typed kind (w.blocks p).memory k.tick (typed.blocks p (Event kind) is).memory) r.emits (expiry_known kind (memory_of (w.blocks p).memory) k.tick))
      tt
  expires_given w typed p left home (Some (Composite t)) is = tt

  -- ---- The reaction

  pub reacts_given : (w : World) (event : AnEvent) (left : ℕ) (o : Outcome) → AreTyped sys w → IsTypedEvent sys event → Comes sys k event → Reacts sys k w event left o → Each Given o.lines
  reacts_given w (Stimulated q bs) left o typed event comes h =
      at_given (with_slots q.at bs w) (slots_typed sys w typed q bs event) q left comes.1 (sys.kind q.at) refl comes.0 o h
  reacts_given w (Expired p) left o typed event comes h =
      subst (λ (z : Outcome). Each Given z.lines) (sym h) (expires_given w typed p left comes (sys.kind p) refl)
  reacts_given w (Arrived q cs) left o typed event comes h =
      at_given (record w { held = hold_all cs w.held }) (held_typed sys w typed cs event) q left comes.1 (sys.kind q.at) refl comes.0 o h
  reacts_given w (Raised q) left o typed event comes h = at_given w typed q left comes.1 (sys.kind q.at) refl comes.0 o h
