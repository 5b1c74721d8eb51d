-- Parts of a declaration and a deployment that give nothing twice.
use Rattle.fb_types.proofs.Common.{◌≡◌, ◌⊎◌, ◌||◌, Bool, true, false, not, List, [], ◌∷◌, ◌++◌, map, Some, Contains, refl, sym, ◌∙◌, ap, subst, inl, inr, All, is_some, option_map, cond, list_any, list_all, true≢false, All-contains, Contains-append_cases, Name, same_name, event_blocks, event_block_named, named, resource_names_of, type_name, Twice, NameTwice, algorithm_names, event_pairs, instance_names, link_pairs, state_names}
use Rattle.fb_types.specs.declared.library.BlockType.{BlockType}
use Rattle.fb_types.specs.declared.library.BasicType.{BasicType}
use Rattle.fb_types.specs.declared.library.CompositeType.{CompositeType}
use Rattle.fb_types.specs.declared.library.EventPort.{EventPort}
use Rattle.fb_types.specs.declared.library.Instance.{Instance}
use Rattle.fb_types.specs.declared.library.Library.{Library}
use Rattle.fb_types.specs.declared.library.Network.{Network}
use Rattle.fb_types.specs.declared.library.Ports.{Ports}
use Rattle.fb_types.specs.declared.library.Variable.{Variable}
use Rattle.fb_types.specs.declared.deploy.Plan.{Plan}
use Rattle.std.proofs.lemmas.List.Sums.{AllPass-from_list_all}
use Rattle.fb_types.specs.declared.library.BlockType.TheVariants as block
use Rattle.fb_check_names.specs.GivenTwice.{BlockTwice, NetworkTwice, PortTwice, TypeTwice, names_of_ports}
use Rattle.fb_types.proofs.lemmas.names.NameLaws.{any_from_contains, same_name-flip}
use Rattle.fb_types.proofs.lemmas.lists.Elements.{Contains-here, Contains-there, map-Contains}
use Rattle.fb_check_names.proofs.lemmas.twice.NameTwice.{name_once}
use Rattle.fb_check_names.proofs.lemmas.twice.TwiceIn.{map-TwiceIn}
use Rattle.fb_check_names.specs.declared.twice.InBlock.{InBlock}
use Rattle.fb_check_names.specs.declared.twice.InBlock.TheVariants.{Port, WithInput, WithOutput, State, Algorithm, Inside}
use Rattle.fb_check_names.specs.Twice.{IsTwiceInBlock, IsTwiceInPorts, is_own_name, parameter_names}

-- ---- Ports

abbrev pub IsWithOnce : EventPort → Type 0
IsWithOnce e = ¬ (Twice e.with)

pub ports_once :
    (p : Ports) (vs : List Variable) → ¬ (Twice (names_of_ports p vs)) → All IsWithOnce p.event_inputs → All IsWithOnce p.event_outputs → ¬ (PortTwice p vs)
ports_once p vs names a b (inl t) = names t
ports_once p vs names a b (inr w) =
    let r = map-TwiceIn (λ (e : EventPort). e.with) (p.event_inputs ++ p.event_outputs) w in
    elim (Contains-append_cases p.event_inputs p.event_outputs r.0 r.1) [
      | inl c ↦ All-contains IsWithOnce p.event_inputs r.0 a c r.2
      | inr c ↦ All-contains IsWithOnce p.event_outputs r.0 b c r.2
    ]

-- ---- Networks

abbrev pub IsInstanceOnce : Instance → Type 0
IsInstanceOnce i = ¬ (Twice (parameter_names i))

pub network_once : (net : Network) → ¬ (Twice (instance_names net)) → All IsInstanceOnce net.instances → ¬ (Twice (event_pairs net)) → ¬ (NetworkTwice net)
network_once net names parameters pairs (inl t) = names t
network_once net names parameters pairs (inr (inl p)) =
    let r = map-TwiceIn parameter_names net.instances p in
    All-contains IsInstanceOnce net.instances r.0 parameters r.1 r.2
network_once net names parameters pairs (inr (inr c)) = pairs c

-- ---- Block types

pub basic_once : (t : BasicType) → ¬ (PortTwice t.ports t.internals) → ¬ (Twice (state_names t)) → ¬ (Twice (algorithm_names t)) → ¬ (BlockTwice (block.Basic t))
basic_once t ports states algorithms (inl p) = ports p
basic_once t ports states algorithms (inr (inl s)) = states s
basic_once t ports states algorithms (inr (inr a)) = algorithms a

pub composite_once : (t : CompositeType) → ¬ (PortTwice t.ports []) → ¬ (NetworkTwice t.network) → ¬ (BlockTwice (block.Composite t))
composite_once t ports network (inl p) = ports p
composite_once t ports network (inr n) = network n

-- what ports give twice is given twice by the block type
pub basic_ports : (t : BasicType) (b : InBlock) → IsTwiceInPorts t.ports t.internals b → IsTwiceInBlock (block.Basic t) b
basic_ports t (Port r) h = h
basic_ports t (WithInput k r) h = h
basic_ports t (WithOutput k r) h = h
basic_ports t (State r) h = absurd h
basic_ports t (Algorithm r) h = absurd h
basic_ports t (Inside n) h = absurd h

pub composite_ports : (t : CompositeType) (b : InBlock) → IsTwiceInPorts t.ports [] b → IsTwiceInBlock (block.Composite t) b
composite_ports t (Port r) h = h
composite_ports t (WithInput k r) h = h
composite_ports t (WithOutput k r) h = h
composite_ports t (State r) h = absurd h
composite_ports t (Algorithm r) h = absurd h
composite_ports t (Inside n) h = absurd h

abbrev pub IsBlockOnce : BlockType → Type 0
IsBlockOnce t = ¬ (BlockTwice t)

-- ---- Names of block types

Twice-cases : {A : Type 0} (xs ys : List A) → Twice (xs ++ ys) → Twice xs ⊎ Twice ys ⊎ ((z : A) × Contains xs z × Contains ys z)
Twice-cases [] ys t = inr (inl t)
Twice-cases (x ∷ xs) ys t =
    elim t [
      | inl c ↦ elim (Contains-append_cases xs ys x c) [
        | inl a ↦ inl (inl a)
        | inr b ↦ inr (inr (x, Contains-here x xs, b))
      ]
      | inr rest ↦ elim (Twice-cases xs ys rest) [
        | inl a ↦ inl (inr a)
        | inr b ↦ elim b [
          | inl y ↦ inr (inl y)
          | inr z ↦ inr (inr (z.0, Contains-there x xs z.0 z.1, z.2))
        ]
      ]
    ]

-- whether a name occurs twice
unfoldable repeats : List Name → Bool
repeats [] = false
repeats (n ∷ ns) = list_any (same_name n) ns || repeats ns

repeats_from_twice : (ns : List Name) → Twice ns → repeats ns ≡ true
unfolding repeats
repeats_from_twice [] h = absurd h
repeats_from_twice (n ∷ ns) h =
    elim h [
      | inl c ↦ ap (λ b. b || repeats ns) (any_from_contains n ns c)
      | inr t ↦ ap (λ b. list_any (same_name n) ns || b) (repeats_from_twice ns t)
          ∙ (elim (list_any (same_name n) ns) as (λ b. (b || true) ≡ true) [ true ↦ refl | false ↦ refl ])
    ]

abbrev pub event_type_names : List Name
event_type_names = map (λ e. e.0) event_blocks

event_blocks_once : ¬ (Twice event_type_names)
unfolding repeats
event_blocks_once t = true≢false (sym (repeats_from_twice event_type_names t))

pub is_some-named : {A B : Type 0} (f : A → Name) (g : A → B) (n : Name) (xs : List A) → is_some (option_map g (named f n xs)) ≡ list_any (same_name n) (map f xs)
is_some-named f g n [] = refl
is_some-named f g n (x ∷ xs) =
    elim (same_name n (f x)) as (λ b. same_name n (f x) ≡ b → is_some (option_map g (cond (same_name (f x) n) (Some x) (named f n xs))) ≡ (b || list_any (same_name n) (map f xs))) [
      | true ↦ λ e. rw (same_name-flip (f x) n ∙ e) refl
      | false ↦ λ e. rw (same_name-flip (f x) n ∙ e) (is_some-named f g n xs)
    ] refl

types_once : (ts : List BlockType) → list_all is_own_name ts ≡ true → ¬ (Twice (map type_name ts)) → ¬ (TypeTwice ts)
types_once ts own once t =
    elim (Twice-cases event_type_names (map type_name ts) t) [
      | inl a ↦ event_blocks_once a
      | inr b ↦ elim b [
        | inl y ↦ once y
        | inr z ↦
            let r = map-Contains type_name ts z.0 z.2 in
            let c : Contains event_type_names (type_name r.0) = subst (λ (n : Name). Contains event_type_names n) (sym r.2) z.1 in
            let is : is_some (event_block_named (type_name r.0)) ≡ true =
            is_some-named (λ e. e.0) (λ e. e.1) (type_name r.0) event_blocks ∙ any_from_contains (type_name r.0) event_type_names c in
            let mine : is_own_name r.0 ≡ true = All-contains (λ (t : BlockType). is_own_name t ≡ true) ts r.0 (AllPass-from_list_all is_own_name ts own) r.1 in
            true≢false (sym mine ∙ ap not is)
      ]
    ]

-- ---- All of a declaration and a deployment

pub all_once :
    (lib : Library) (plan : Plan) → list_all is_own_name lib.blocks ≡ true → ¬ (Twice (map type_name lib.blocks)) → All IsBlockOnce lib.blocks
    → ¬ (NetworkTwice lib.application.network) → ¬ (Twice (resource_names_of plan)) → ¬ (Twice (link_pairs plan)) → ¬ (NameTwice lib plan)
all_once lib plan own names each network locations joined =
    name_once lib plan (record {
      types = types_once lib.blocks own names;
      blocks = λ t c. All-contains IsBlockOnce lib.blocks t each c;
      network = network;
      deployment = λ t. elim t [ inl r ↦ locations r | inr l ↦ joined l ];
    })
