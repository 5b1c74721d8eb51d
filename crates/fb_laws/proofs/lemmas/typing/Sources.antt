-- In an accepted declaration sources fit what they feed, and the name of an output is that of no other variable.
use Rattle.fb_types.proofs.Common.{◌≡◌, ◌⊎◌, inl, inr, ⊎_elim, refl, sym, subst, ap, ◌∙◌, Bool, true, false, cond, ◌&&◌, List, [], ◌∷◌, ◌++◌, Option, Some, None, Contains, codes, option_map, list_all, and_parts, both_ways, Contains-append_right, Name, Path, Port, same_name, fits, Kind, ports_of, ports_of_event_block, event_names, variable_names, port_in, kind_of, kind_at, source_of, variables_in, OutOfRange, Twice, OwnedNetwork, networks, NameTwice, is_end, data_ins, data_outs, event_ins, event_outs, ends_known, none-some}
use Rattle.fb_types.specs.declared.event_kind.EventKind.{EventKind}
use Rattle.fb_types.specs.declared.event_kind.EventKind.TheVariants.{SetReset, DataLatch, CountUp}
use Rattle.fb_types.specs.declared.library.Library.{Library}
use Rattle.fb_types.specs.declared.library.BlockType.{BlockType}
use Rattle.fb_types.specs.declared.library.Connection.{Connection}
use Rattle.fb_types.specs.declared.library.PortName.{PortName}
use Rattle.fb_types.specs.declared.library.Ports.{Ports}
use Rattle.fb_types.specs.declared.library.Variable.{Variable}
use Rattle.fb_types.specs.declared.deploy.Plan.{Plan}
use Rattle.std.proofs.lemmas.Bool.{true_from_ne_false}
use Rattle.fb_types.specs.Blocks.{variable}
use Rattle.fb_types.specs.Flat.{flat}
use Rattle.fb_types.specs.Joined.{type_among, type_at_end}
use Rattle.fb_types.specs.declared.library.BlockType.TheVariants as block
use Rattle.fb_types.specs.declared.value.Ty.TheVariants.{Uint, Bool as Boolean}
use Rattle.fb_types.proofs.lemmas.lists.TwiceLaws.{Twice-append_left, Twice-both}
use Rattle.fb_types.proofs.lemmas.lists.Elements.{Contains-map}
use Rattle.fb_types.proofs.lemmas.names.NameLaws.{same_from_same_name, named-Contains}
use Rattle.fb_check_names.proofs.lemmas.twice.NameTwice.{block_twice}
use Rattle.fb_check_names.specs.GivenTwice.{BlockTwice, names_of_ports}
use Rattle.fb_laws.specs.Typed.{variable_named, IsFitting}
use Rattle.fb_types.proofs.lemmas.lists.ListTests.{passes_at}
use Rattle.fb_laws.proofs.lemmas.typing.DeclaredVariables.{IsNamed, named-among, named-front, named-back}
use Rattle.fb_laws.proofs.lemmas.typing.Values.{kind_one, port_variables, port-found}
use Rattle.fb_laws.proofs.lemmas.typing.Declared.{IsDeclared, kind-declared, IsNetworkAt, network-declared, named-name}
use Rattle.fb_laws.proofs.lemmas.typing.ConnectionEnds.{IsLed, source-led, IsEnd, is-end}

-- ---- Sources

named-either : (vs ws : List Variable) (n : Name) → IsNamed vs n ⊎ IsNamed ws n → IsNamed (vs ++ ws) n
named-either vs ws n (inl x) = (x.0, named-front vs ws n x.0 x.1)
named-either vs ws n (inr x) = go (variable_named n vs) refl
  where
    go : (o : Option Variable) → variable_named n vs ≡ o → IsNamed (vs ++ ws) n
    go None e = (x.0, named-back vs ws n e ∙ x.1)
    go (Some y) e = (y, named-front vs ws n y e)

port-name : (p : Path) (c : Option Name) (n : Name) → (port_in p (record { component = c; port = n })).name ≡ n
port-name p None n = refl
port-name p (Some c) n = refl

type-found : (its : Ports) (e : PortName) (x : Variable) → variable_named e.port (its.inputs ++ its.outputs) ≡ Some x → type_among its e ≡ Some x.ty
type-found its e x h = ap (option_map (λ (v : Variable). v.ty)) h

pub source-fitting : (lib : Library) (plan : Plan) → ((n : OwnedNetwork) → Contains (networks lib) n → ends_known lib n ≡ true) → (OutOfRange lib → ⊥)
    → (q s : Port) (k : Kind) (x : Variable) → source_of lib q ≡ Some s → kind_at lib q.at ≡ Some k
    → variable_named q.name (port_variables k) ≡ Some x → IsFitting (flat lib plan) x s
source-fitting lib plan known within q s k x h is named = record {
  kind = from.kind;
  is_kind = ap (λ (z : Port). kind_at lib z.at) (sym l.from) ∙ from.there;
  variable = y.0;
  is_variable = subst (λ (z : Name). variable_named z (port_variables from.kind) ≡ Some y.0) from_name y.1;
  within = λ v fit. true_from_ne_false (fits x.ty v) (λ no.
      within (
        net,
        l.connection,
        y.0.ty,
        x.ty,
        a.declared,
        l.known,
        from_type,
        to_type,
        λ holds. both_ways (fits x.ty v) no (holds v fit),
      ));
}
  where
    l : IsLed lib s q
    l = source-led lib q s h

    a : IsNetworkAt lib l.path l.network
    a = network-declared lib l.path l.network l.there

    net : OwnedNetwork
    net = (a.composite, l.network)

    ends :
        (is_end lib net data_outs data_ins l.connection.from ≡ true) × (is_end lib net data_ins data_outs l.connection.to ≡ true)
    ends =
        and_parts (is_end lib net data_outs data_ins l.connection.from) (is_end lib net data_ins data_outs l.connection.to)
        (passes_at (λ (c : Connection). is_end lib net data_outs data_ins c.from && is_end lib net data_ins data_outs c.to)
        l.network.data_connections l.connection
        (and_parts
        (list_all (λ (c : Connection). is_end lib net event_outs event_ins c.from && is_end lib net event_ins event_outs c.to) l.network.event_connections)
        (list_all (λ (c : Connection). is_end lib net data_outs data_ins c.from && is_end lib net data_ins data_outs c.to) l.network.data_connections)
        (known net a.declared)).1 l.known)

    from : IsEnd lib l.path l.network a.composite data_outs data_ins l.connection.from
    from = is-end lib l.path l.network l.there a.composite a.around data_outs data_ins l.connection.from.component l.connection.from.port ends.0

    to : IsEnd lib l.path l.network a.composite data_ins data_outs l.connection.to
    to = is-end lib l.path l.network l.there a.composite a.around data_ins data_outs l.connection.to.component l.connection.to.port ends.1

    from_name : l.connection.from.port ≡ s.name
    from_name = sym (port-name l.path l.connection.from.component l.connection.from.port) ∙ ap (λ (z : Port). z.name) l.from

    to_name : l.connection.to.port ≡ q.name
    to_name = sym (port-name l.path l.connection.to.component l.connection.to.port) ∙ ap (λ (z : Port). z.name) l.to

    y : IsNamed (port_variables from.kind) l.connection.from.port
    y =
        named-either (ports_of from.kind).inputs (ports_of from.kind).outputs l.connection.from.port
        (⊎_elim (λ e. inr (named-among (ports_of from.kind).outputs l.connection.from.port e))
        (λ e. inl (named-among (ports_of from.kind).inputs l.connection.from.port e)) from.named)

    from_type : type_at_end lib net l.connection.from ≡ Some y.0.ty
    from_type = from.type ∙ type-found (ports_of from.kind) l.connection.from y.0 y.1

    to_type : type_at_end lib net l.connection.to ≡ Some x.ty
    to_type =
        let there : kind_at lib q.at ≡ Some to.kind = ap (λ (z : Port). kind_at lib z.at) (sym l.to) ∙ to.there in
        let same : k ≡ to.kind = kind_one (kind_at lib q.at) k to.kind is there in
        (to).type ∙ type-found (ports_of to.kind) l.connection.to x
        (subst (λ (z : Kind). variable_named l.connection.to.port (port_variables z) ≡ Some x) same
        (subst (λ (z : Name). variable_named z (port_variables k) ≡ Some x) (sym to_name) named))

-- ---- Outputs

Contains-name : (vs : List Variable) (n : Name) (x : Variable) → variable_named n vs ≡ Some x → Contains (variable_names vs) n
Contains-name vs n x h =
    subst (λ (z : Name). Contains (variable_names vs) z) (named-name (λ v. v.name) n vs x h)
    (Contains-map (λ (v : Variable). v.name) vs x (named-Contains (λ v. v.name) n vs x h))

output-following : (k : Kind) (n : Name) (x : Variable) → (IsNamed (ports_of k).inputs n → ⊥) → variable_named n (ports_of k).outputs ≡ Some x
    → variable_named n (variables_in k) ≡ Some x
output-following k n x apart h = go (variable_named n (ports_of k).inputs) refl
  where
    go : (o : Option Variable) → variable_named n (ports_of k).inputs ≡ o → variable_named n (variables_in k) ≡ Some x
    go None e = port-found k n x (named-back (ports_of k).inputs (ports_of k).outputs n e ∙ h)
    go (Some y) e = absurd (apart (y, e))

only-name : (v x : Variable) (n : Name) → variable_named n (v ∷ []) ≡ Some x → n ≡ v.name
only-name v x n h = go (same_name v.name n) refl h
  where
    go : (b : Bool) → same_name v.name n ≡ b → cond b (Some v) None ≡ Some x → n ≡ v.name
    go true e h = sym (same_from_same_name v.name n e)
    go false e h = absurd (none-some x h)

-- the inputs of event blocks have other names than their outputs
event-apart : (e : EventKind) (n : Name) (x : Variable) → variable_named n (ports_of_event_block e).outputs ≡ Some x
    → IsNamed (ports_of_event_block e).inputs n → ⊥
event-apart SetReset n x h i = none-some i.0 i.1
event-apart DataLatch n x h i =
    none-some x
    (subst (λ (z : Name). variable_named z (variable (codes "Q") Boolean ∷ []) ≡ Some x) (only-name (variable (codes "D") Boolean) i.0 n i.1) h)
event-apart CountUp n x h i =
    none-some x
    (subst (λ (z : Name). variable_named z (variable (codes "Q") Boolean ∷ variable (codes "CV") Uint ∷ []) ≡ Some x)
    (only-name (variable (codes "PV") Uint) i.0 n i.1) h)
event-apart _ n x h i = none-some x h

-- a name that is that of an input and of an output is there twice
ports-twice : (p : Ports) (vs : List Variable) (n : Name) → Contains (variable_names p.inputs) n → Contains (variable_names p.outputs) n
    → Twice (names_of_ports p vs)
ports-twice p vs n i o =
    let events = event_names p.event_inputs ++ event_names p.event_outputs in
    Twice-append_left (events ++ variable_names p.inputs ++ variable_names p.outputs) (variable_names vs)
    (Twice-both (events ++ variable_names p.inputs) (variable_names p.outputs) n
    (Contains-append_right events (variable_names p.inputs) n i) o)

both-twice : (b : BlockType) (n : Name) → Contains (variable_names (ports_of (kind_of b)).inputs) n
    → Contains (variable_names (ports_of (kind_of b)).outputs) n → BlockTwice b
both-twice (block.Basic t) n i o = inl (inl (ports-twice t.ports t.internals n i o))
both-twice (block.Composite t) n i o = inl (inl (ports-twice t.ports [] n i o))

kind-apart : (lib : Library) (plan : Plan) → (NameTwice lib plan → ⊥) → (k : Kind) → IsDeclared lib k → (n : Name) (x : Variable)
    → variable_named n (ports_of k).outputs ≡ Some x → IsNamed (ports_of k).inputs n → ⊥
kind-apart lib plan once k (inl e) n x =
    subst (λ (z : Kind). variable_named n (ports_of z).outputs ≡ Some x → IsNamed (ports_of z).inputs n → ⊥) (sym e.1) (event-apart e.0 n x)
kind-apart lib plan once k (inr b) n x =
    subst (λ (z : Kind). variable_named n (ports_of z).outputs ≡ Some x → IsNamed (ports_of z).inputs n → ⊥) (sym b.2)
    (λ h i. once (block_twice lib plan b.0 b.1 (both-twice b.0 n (Contains-name (ports_of (kind_of b.0)).inputs n i.0 i.1)
    (Contains-name (ports_of (kind_of b.0)).outputs n x h))))

pub output-first : (lib : Library) (plan : Plan) → (NameTwice lib plan → ⊥) → (p : Path) (k : Kind) (n : Name) (x : Variable) → kind_at lib p ≡ Some k
    → variable_named n (ports_of k).outputs ≡ Some x → variable_named n (variables_in k) ≡ Some x
output-first lib plan once p k n x is h = output-following k n x (kind-apart lib plan once k (kind-declared lib p k is) n x h) h
