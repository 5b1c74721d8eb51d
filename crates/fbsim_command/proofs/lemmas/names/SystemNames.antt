-- The names of a system are those of its declaration and its deployment.
use Rattle.std.proofs.Common.{◌≡◌, ◌<◌, ◌≤◌, ℕ, zero, suc, Bool, true, false, cond, List, [], ◌∷◌, ◌++◌, map, length, Option, Some, None, Ok, Err, Result, refl, sym, ap, subst, ◌∙◌, inl, inr, arith}
use Rattle.std.specs.Prelude.{Contains, option_and_then, option_map, nat_le, not, ◌&&◌}
use Rattle.toml.specs.Data.{Data, Members, as_str}
use Rattle.fb_types.proofs.Common.{and_parts, list_all}
use Rattle.fb_types.specs.Blocks.{Basic, Composite, Event, Kind, event_blocks, event_names, named, ports, ports_of, ports_of_event_block, variable_names}
use Rattle.fb_types.specs.Flat.{inside, instance_at, kind_at, kind_of, kind_of_instance, network_of, paths_inside, paths_of, resource_names_of, type_name, type_named}
use Rattle.fb_types.specs.Headline.{Inputs, system_of}
use Rattle.fb_types.specs.Limits.{single}
use Rattle.fb_types.specs.Names.{Name, Path, same_name}
use Rattle.fb_types.specs.Numbers.{ports_at}
use Rattle.fb_types.specs.Systems.{System}
use Rattle.fb_types.specs.declared.deploy.Plan.{Plan}
use Rattle.fb_types.specs.declared.deploy.ResourceEntry.{ResourceEntry}
use Rattle.fb_types.specs.declared.event_kind.EventKind.{EventKind}
use Rattle.fb_types.specs.declared.event_kind.EventKind.TheVariants as kind
use Rattle.fb_types.specs.declared.library.BlockType.{BlockType}
use Rattle.fb_types.specs.declared.library.BlockType.TheVariants as block_type
use Rattle.fb_types.specs.declared.library.EventPort.{EventPort}
use Rattle.fb_types.specs.declared.library.Instance.{Instance}
use Rattle.fb_types.specs.declared.library.Library.{Library}
use Rattle.fb_types.specs.declared.library.Network.{Network}
use Rattle.fb_types.specs.declared.library.Ports.{Ports}
use Rattle.fb_types.specs.declared.library.Variable.{Variable}
use Rattle.fb_read.specs.Whole.{IsLibraryText}
use Rattle.fb_inputs.specs.declared.document.PlanDraft.{PlanDraft}
use Rattle.fb_inputs.specs.declared.deploy_location.DeployKey.TheVariants as key
use Rattle.fb_inputs.specs.DeployDocuments.{AreRead, IsTable}
use Rattle.fb_inputs.specs.DeployLocations.{InDocument, numbered}
use Rattle.fb_inputs.specs.DeployTables.{IsResource}
use Rattle.fb_inputs.specs.Deployments.{deploy_of, deployment, deployment_of, document, judged, most_bytes, plan_of}
use Rattle.fb_inputs.specs.Documents.{draft, name_of}
use Rattle.fb_inputs.specs.Refusals.{and_then, over_limit}
use Rattle.fb_inputs.specs.Words.{Text, in_upper, is_identifier, is_keyword, name}
use Rattle.fb_inputs.proofs.lemmas.deployments.DeployTableLaws.{and_then-ok}
use Rattle.fb_inputs.proofs.lemmas.deployments.DeployDocumentLaws.{reads-documents}
use Rattle.fb_inputs.proofs.lemmas.deployments.DeployNumberLaws.{judges-numbers}
use Rattle.fb_wave.specs.Named as spec
use Rattle.fbsim_command.proofs.lemmas.names.GrammarNames.{Every, HasBlockNames, HasEventName, HasInstanceName, HasInstanceNames, HasLibraryNames, HasPortNames, HasVariableName, every-append, every-flat, every-map, grammar-named}
use Rattle.fbsim_command.proofs.lemmas.names.NameTokens.{identifier-name, tokens-named}

abbrev IsNameOf : Name → Type 0
IsNameOf n = spec.is_name n ≡ true

some-is : {A : Type 0} (x y : A) → Some x ≡ Some y → x ≡ y
some-is x y e = cc

-- ---- deployments

name-named : (z n : Text) → name z ≡ Some n → IsNameOf n
unfolding name
name-named z n h = go (is_identifier z && not (is_keyword (in_upper z))) refl h
  where
    go : (b : Bool) → (is_identifier z && not (is_keyword (in_upper z))) ≡ b → cond b (Some (in_upper z)) None ≡ Some n → IsNameOf n
    go true e h = subst IsNameOf (some-is (in_upper z) n h) (identifier-name z (and_parts (is_identifier z) (not (is_keyword (in_upper z))) e).0)
    go false e h = absurd cc

value-named : (d : Data) (n : Text) → name_of d ≡ Some n → IsNameOf n
value-named d n h = go (as_str d) h
  where
    go : (o : Option Text) → option_and_then name o ≡ Some n → IsNameOf n
    go None h = absurd cc
    go (Some z) h = name-named z n h

abbrev pub HasResourceName : ResourceEntry → Type 0
HasResourceName r = IsNameOf r.name

entry-named : (d : Data) (r : ResourceEntry) → IsTable IsResource d r → HasResourceName r
entry-named d r (keys, there, is) = value-named is.its_name.0 r.name is.its_name.2

entries-named : (ds : List Data) (rs : List ResourceEntry) → AreRead (IsTable IsResource) ds rs → Every HasResourceName rs
entries-named [] [] h = tt
entries-named [] (r ∷ rs) h = absurd h
entries-named (d ∷ ds) [] h = absurd h
entries-named (d ∷ ds) (r ∷ rs) (first, rest) = (entry-named d r first, entries-named ds rs rest)

numbered-ok : (o : InDocument Plan) (plan : Plan) → numbered o ≡ Ok plan → o ≡ Ok plan
numbered-ok (Ok x) plan h = let same : x ≡ plan = cc in ap (λ p. Ok p) same
numbered-ok (Err p) plan h = absurd cc

document-read : (bytes : Text) (plan : Plan) → deploy_of bytes ≡ Ok plan → (keys : Members) × (deployment keys ≡ Ok plan)
unfolding deploy_of
document-read bytes plan h = go (nat_le (length bytes) most_bytes) (document bytes) h
  where
    go : (b : Bool) (o : Option Members) → cond b (deployment_of o) (Err over_limit) ≡ Ok plan → (keys : Members) × (deployment keys ≡ Ok plan)
    go false o h = absurd cc
    go true None h = absurd cc
    go true (Some keys) h = (keys, numbered-ok (deployment keys) plan h)

deployed : (keys : Members) (plan : Plan) → deployment keys ≡ Ok plan → (d : PlanDraft) × (draft keys ≡ Ok d) × (judged d ≡ Ok plan)
unfolding deployment
deployed keys plan h = and_then-ok (draft keys) judged plan h

pub plan-named : (bytes : Text) (plan : Plan) → deploy_of bytes ≡ Ok plan → Every HasResourceName plan.resources
plan-named bytes plan h =
    let k = document-read bytes plan h in
    let d = deployed k.0 plan k.1 in
    let is = ((reads-documents k.0).0 d.0).0 d.1 in
    let same : plan ≡ plan_of d.0 = (((judges-numbers d.0).0 plan).0 d.2).1 in
    let array = is.its_resources.2 in
    subst (λ (p : Plan). Every HasResourceName p.resources) (sym same) (entries-named _ d.0.resources array.2)

-- ---- block types

tested : {A : Type 0} (test : A → Bool) (xs : List A) → list_all test xs ≡ true → Every (λ x. test x ≡ true) xs
tested test [] h = tt
tested test (x ∷ xs) h = let p = and_parts (test x) (list_all test xs) h in (p.0, tested test xs p.1)

abbrev event_test : EventPort → Bool
event_test e = spec.is_name e.name

abbrev variable_test : Variable → Bool
variable_test v = spec.is_name v.name

ports-tested : (p : Ports) → spec.are_ports_named p ≡ true → HasPortNames p
ports-tested p h =
    let a = and_parts (list_all event_test p.event_inputs) (list_all event_test p.event_outputs && (list_all variable_test p.inputs && list_all variable_test p.outputs)) h in
    let b = and_parts (list_all event_test p.event_outputs) (list_all variable_test p.inputs && list_all variable_test p.outputs) a.1 in
    let c = and_parts (list_all variable_test p.inputs) (list_all variable_test p.outputs) b.1 in
    record {
      event_inputs = tested event_test p.event_inputs a.0;
      event_outputs = tested event_test p.event_outputs b.0;
      inputs = tested variable_test p.inputs c.0;
      outputs = tested variable_test p.outputs c.1;
    }

event_block-named : (k : EventKind) → spec.are_ports_named (ports_of_event_block k) ≡ true
event_block-named kind.Restart = refl
event_block-named kind.Split = refl
event_block-named kind.Merge = refl
event_block-named kind.Rendezvous = refl
event_block-named kind.Permit = refl
event_block-named kind.Select = refl
event_block-named kind.Switch = refl
event_block-named kind.Delay = refl
event_block-named kind.Cycle = refl
event_block-named kind.SetReset = refl
event_block-named kind.DataLatch = refl
event_block-named kind.RisingEdge = refl
event_block-named kind.FallingEdge = refl
event_block-named kind.CountUp = refl

-- the ports of a type and the instances inside it have names
abbrev HasKindNames : Kind → Type 0
HasKindNames (Basic t) = HasPortNames t.ports
HasKindNames (Event k) = HasPortNames (ports_of_event_block k)
HasKindNames (Composite t) = HasPortNames t.ports × HasInstanceNames t.network

kind-ports : (k : Kind) → HasKindNames k → HasPortNames (ports_of k)
kind-ports (Basic t) h = h
kind-ports (Event k) h = h
kind-ports (Composite t) h = h.0

block-kind : (b : BlockType) → HasBlockNames b → HasKindNames (kind_of b)
block-kind (block_type.Basic t) h = h
block-kind (block_type.Composite t) h = h

found-named : {A : Type 0} (P : A → Type 0) (name_of : A → Name) (n : Name) (xs : List A) (x : A) → Every P xs → named name_of n xs ≡ Some x → P x
found-named P name_of n [] x all h = absurd cc
found-named {A} P name_of n (y ∷ ys) x (first, rest) h = go (same_name (name_of y) n) (λ e. found-named P name_of n ys x rest e) h
  where
    go : (b : Bool) → (named name_of n ys ≡ Some x → P x) → cond b (Some y) (named name_of n ys) ≡ Some x → P x
    go true later h = subst P (some-is y x h) first
    go false later h = later h

module _ (lib : Library) (has : HasLibraryNames lib) where
  declared-named : (n : Name) (k : Kind) → option_map kind_of (named type_name n lib.blocks) ≡ Some k → HasKindNames k
  declared-named n k h = go (named type_name n lib.blocks) refl h
    where
      go : (o : Option BlockType) → named type_name n lib.blocks ≡ o → option_map kind_of o ≡ Some k → HasKindNames k
      go None e h = absurd cc
      go (Some b) e h = subst HasKindNames (some-is (kind_of b) k h) (block-kind b (found-named HasBlockNames type_name n lib.blocks b has.blocks e))

  type-names : (n : Name) (k : Kind) → type_named lib n ≡ Some k → HasKindNames k
  type-names n k h = go (named (λ (e : Name × EventKind). e.0) n event_blocks) h
    where
      go : (o : Option (Name × EventKind)) → (elim o [ Some e ↦ Some (Event e.1) | None ↦ option_map kind_of (named type_name n lib.blocks) ]) ≡ Some k → HasKindNames k
      go None h = declared-named n k h
      go (Some e) h = subst HasKindNames (some-is (Event e.1) k h) (ports-tested (ports_of_event_block e.1) (event_block-named e.1))

  kind-names : (p : Path) (k : Kind) → kind_at lib p ≡ Some k → HasKindNames k
  kind-names p k h = go (instance_at lib p) h
    where
      go : (o : Option Instance) → option_and_then (kind_of_instance lib) o ≡ Some k → HasKindNames k
      go None h = absurd cc
      go (Some i) h = type-names i.block_type k h

  inner-named : (i : Instance) (net : Network) → inside lib i ≡ Some net → HasInstanceNames net
  inner-named i net h = go (kind_of_instance lib i) refl h
    where
      of : (k : Kind) → HasKindNames k → network_of k ≡ Some net → HasInstanceNames net
      of (Basic t) names h = absurd cc
      of (Event k) names h = absurd cc
      of (Composite t) names h = subst HasInstanceNames (some-is t.network net h) names.1

      go : (o : Option Kind) → kind_of_instance lib i ≡ o → option_and_then network_of o ≡ Some net → HasInstanceNames net
      go None e h = absurd cc
      go (Some k) e h = of k (type-names i.block_type k e) h

  -- ---- paths

  abbrev HasPathNames : Path → Type 0
  HasPathNames p = Every IsNameOf p

  abbrev under : (depth : ℕ) → Path → Instance → List Path
  under d p i = (i.name ∷ p) ∷ elim (inside lib i) [ None ↦ [] | Some inner ↦ paths_inside d lib (i.name ∷ p) inner ]

  paths-named : (depth : ℕ) (p : Path) (net : Network) → HasPathNames p → HasInstanceNames net → Every HasPathNames (paths_inside depth lib p net)
  paths-named zero p net named_so names = tt
  paths-named (suc d) p net named_so names =
      every-flat (under d p) HasPathNames net.instances (each (λ q inner x y. paths-named d q inner x y) net.instances names)
    where
      deeper : ((q : Path) (inner : Network) → HasPathNames q → HasInstanceNames inner → Every HasPathNames (paths_inside d lib q inner)) → (i : Instance) → HasInstanceName i → (o : Option Network) → inside lib i ≡ o
          → Every HasPathNames (elim o [ None ↦ [] | Some inner ↦ paths_inside d lib (i.name ∷ p) inner ])
      deeper later i own None e = tt
      deeper later i own (Some inner) e = later (i.name ∷ p) inner (own, named_so) (inner-named i inner e)

      each : ((q : Path) (inner : Network) → HasPathNames q → HasInstanceNames inner → Every HasPathNames (paths_inside d lib q inner)) → (is : List Instance) → Every HasInstanceName is
          → Every (λ i. Every HasPathNames (under d p i)) is
      each later [] own = tt
      each later (i ∷ is) (first, rest) = (((first, named_so), deeper later i first (inside lib i) refl), each later is rest)

  all-paths : Every HasPathNames (paths_of lib)
  all-paths = paths-named 17 [] lib.application.network tt has.instances

-- ---- all of a system

contained : {A : Type 0} (P : A → Type 0) (xs : List A) (x : A) → Every P xs → Contains xs x → P x
contained P [] x all (k, low, is) = absurd (omega (arith, low))
contained P (y ∷ ys) x (first, rest) (zero, low, is) = subst P is first
contained P (y ∷ ys) x (first, rest) (suc k, low, is) = contained P ys x rest (k, omega (arith, low), is)

port-names : (p : Ports) → HasPortNames p → Every IsNameOf (spec.port_names p)
port-names p h =
    let a = every-map (λ (e : EventPort). e.name) IsNameOf p.event_inputs h.event_inputs in
    let b = every-map (λ (e : EventPort). e.name) IsNameOf p.event_outputs h.event_outputs in
    let c = every-map (λ (v : Variable). v.name) IsNameOf p.inputs h.inputs in
    let d = every-map (λ (v : Variable). v.name) IsNameOf p.outputs h.outputs in
    every-append IsNameOf (event_names p.event_inputs ++ event_names p.event_outputs ++ variable_names p.inputs) (variable_names p.outputs)
    (every-append IsNameOf (event_names p.event_inputs ++ event_names p.event_outputs) (variable_names p.inputs)
    (every-append IsNameOf (event_names p.event_inputs) (event_names p.event_outputs) a b) c) d

ports-at : (i : Inputs) → HasLibraryNames i.library → (p : Path) → Every IsNameOf (spec.port_names (ports_at (system_of i) p))
ports-at i has p = go (kind_at i.library p) refl
  where
    go : (o : Option Kind) → kind_at i.library p ≡ o → Every IsNameOf (spec.port_names (elim o [ None ↦ ports [] [] [] [] | Some k ↦ ports_of k ]))
    go None e = tt
    go (Some k) e = port-names (ports_of k) (kind-ports k (kind-names i.library has p k e))

pub library-named : (text : Text) (lib : Library) → IsLibraryText text lib → HasLibraryNames lib
library-named text lib is = grammar-named lib is.derived.tokens [] is.derived.derived is.fits (tokens-named is.derived.tokens _ is.derived.read)

pub system-named : (i : Inputs) → HasLibraryNames i.library → Every HasResourceName i.plan.resources → spec.HasNames (system_of i)
system-named i has resources = record {
  resources = λ n c. contained IsNameOf (resource_names_of i.plan) n (every-map (λ (r : ResourceEntry). r.name) IsNameOf i.plan.resources resources) c;
  paths = λ p c n d. contained IsNameOf p n (contained (HasPathNames i.library has) (paths_of i.library) p (all-paths i.library has) c) d;
  ports = λ p c n d. contained IsNameOf (spec.port_names (ports_at (system_of i) p)) n (ports-at i has p) d;
}
