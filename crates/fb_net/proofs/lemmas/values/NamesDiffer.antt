-- The names of the variables of an accepted declaration's type differ: those of the data inputs, those of the data outputs, and the ones from the others.
use Rattle.fb_types.proofs.Common.{◌≡◌, List, [], ◌∷◌, ◌++◌, append_assoc, map, false, Contains, refl, sym, subst, inl, false_from_ne_true, Contains-append_left, Option, Some, None, option_map, option_and_then, flat_map, Name, Path, Kind, Event, among, event_blocks, event_names, named, ports_of, variable_names, kind_of, kind_at, kind_of_instance, instance_at, resource_names_of, type_name, NameTwice, OwnedNetwork, Twice, algorithm_names, basics, block_type_names, instance_names, interfaces, internals_of, networks, parameter_lists, port_names, state_names, with_lists}
use Rattle.fb_types.specs.declared.deploy.Plan.{Plan}
use Rattle.fb_types.specs.declared.event_kind.EventKind.{EventKind}
use Rattle.fb_types.specs.declared.library.BlockType.{BlockType}
use Rattle.fb_types.specs.declared.library.Instance.{Instance}
use Rattle.fb_types.specs.declared.library.Library.{Library}
use Rattle.fb_types.proofs.lemmas.lists.TwiceLaws.{Twice-append_left, Twice-both, Twice-append_right}
use Rattle.fb_types.proofs.lemmas.names.NameLaws.{contains_from_any, named-Contains}
use Rattle.fb_types.proofs.lemmas.lists.Elements.{Contains-there, Contains-map}
use Rattle.fb_types.proofs.lemmas.events.EventNames.{variables_once}

-- Each name of a data input or of a data output is once.
pub record Differ (k : Kind) : Type 0 where
  pub inputs : ¬ (Twice (variable_names (ports_of k).inputs))
  pub outputs : ¬ (Twice (variable_names (ports_of k).outputs))
  pub apart : (n : Name) → Contains (variable_names (ports_of k).outputs) n → among (variable_names (ports_of k).inputs) n ≡ false

differ : (k : Kind) → ¬ (Twice (variable_names (ports_of k).inputs ++ variable_names (ports_of k).outputs)) → Differ k
differ k once =
    let ins = variable_names (ports_of k).inputs in
    let outs = variable_names (ports_of k).outputs in
    record {
      inputs = λ t. once (Twice-append_left ins outs t);
      outputs = λ t. once (Twice-append_right ins outs t);
      apart = λ n out. false_from_ne_true (among ins n) (λ e. once (Twice-both ins outs n (contains_from_any n ins e) out));
    }

-- ---- The event blocks

event_apart : (k : EventKind) → Differ (Event k)
event_apart k =
    differ (Event k) (variables_once k)

-- ---- The types of a declaration

module _ (lib : Library) (plan : Plan) (once : ¬ (NameTwice lib plan)) where
  ports_once : (b : BlockType) → Contains lib.blocks b → ¬ (Twice (port_names b))
  ports_once b c twice =
      let types : List (List Name) = block_type_names lib ∷ map port_names lib.blocks in
      let algorithms : List (List Name) = map algorithm_names (basics lib) in
      let states : List (List Name) = map state_names (basics lib) in
      let instances : List (List Name) = map (λ (n : OwnedNetwork). instance_names n.1) (networks lib) in
      let withs : List (List Name) = flat_map with_lists (interfaces lib) in
      let parameters : List (List Name) = flat_map (λ (n : OwnedNetwork). parameter_lists n.1) (networks lib) in
      let ns : List Name = port_names b in
      once (inl (
        ns,
        Contains-append_left (types ++ algorithms ++ states ++ instances ++ withs ++ parameters) (resource_names_of plan ∷ []) ns
            (Contains-append_left (types ++ algorithms ++ states ++ instances ++ withs) parameters ns
            (Contains-append_left (types ++ algorithms ++ states ++ instances) withs ns
            (Contains-append_left (types ++ algorithms ++ states) instances ns
            (Contains-append_left (types ++ algorithms) states ns
            (Contains-append_left types algorithms ns
            (Contains-there (block_type_names lib) (map port_names lib.blocks) ns (Contains-map port_names lib.blocks b c))))))),
        twice,
      ))

  block_apart : (b : BlockType) → Contains lib.blocks b → Differ (kind_of b)
  block_apart b c =
      let p = ports_of (kind_of b) in
      let events = event_names p.event_inputs ++ event_names p.event_outputs in
      let ins = variable_names p.inputs in
      let outs = variable_names p.outputs in
      differ (kind_of b)
      (λ t. ports_once b c
      (Twice-append_left ((events ++ ins) ++ outs) (variable_names (internals_of (kind_of b)))
      (subst (λ (ns : List Name). Twice ns) (sym (append_assoc events ins outs)) (Twice-append_right events (ins ++ outs) t))))

  by_block : (n : Name) (k : Kind) (o : Option BlockType) → named type_name n lib.blocks ≡ o → option_map kind_of o ≡ Some k → Differ k
  by_block n k None is h = cc
  by_block n k (Some b) is h = subst Differ (same (kind_of b) k h) (block_apart b (named-Contains type_name n lib.blocks b is))
    where
      same : (a b : Kind) → Some a ≡ Some b → a ≡ b
      same a b e = cc

  by_event : (n : Name) (k : Kind) (o : Option (Name × EventKind)) →
      elim o [ Some e ↦ Some (Event e.1) | None ↦ option_map kind_of (named type_name n lib.blocks) ] ≡ Some k → Differ k
  by_event n k None h = by_block n k (named type_name n lib.blocks) refl h
  by_event n k (Some e) h = subst Differ (same (Event e.1) k h) (event_apart e.1)
    where
      same : (a b : Kind) → Some a ≡ Some b → a ≡ b
      same a b e = cc

  by_instance : (k : Kind) (o : Option Instance) → option_and_then (kind_of_instance lib) o ≡ Some k → Differ k
  by_instance k None h = cc
  by_instance k (Some i) h = by_event i.block_type k (named (λ e. e.0) i.block_type event_blocks) h

  pub kind_apart : (p : Path) (k : Kind) → kind_at lib p ≡ Some k → Differ k
  kind_apart p k h = by_instance k (instance_at lib p) h
