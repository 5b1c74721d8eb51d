-- Tests that show that an example without composites and algorithms is accepted.
use Rattle.fb_types.proofs.Common.{◌≡◌, inl, inr, refl, sym, ap, subst, ◌∙◌, List, [], ◌∷◌, ◌++◌, map, length, Bool, true, false, not, ◌&&◌, ◌||◌, ◌==◌, Option, Some, None, nat_le, arith, true≢false, Contains, is_some, list_all, list_any, and_parts, eqb-true, leb-true, Name, same_name, same_path, Port, same_port, fits, Kind, among, ports_of, outputs_with, is_event_input, pairs_in, kind_of, variables_in, kind_at, resource_of, paths_of, body_of, Twice, NameTwice, name_spaces, OwnedNetwork, networks, basics, event_pairs, link_pairs, Required, required, mentioned, is_known, ends_known, NameUnknown, KindWrong, is_condition, context_in, declared_right, OutOfRange, TooHigh, NoLink, IsGood, BadStimulus, Library, BlockType, BasicType, Instance, Connection, Plan, Stimulus, Ty}
use Rattle.fb_types.specs.Flat.{link_between}
use Rattle.fb_types.specs.Unknown.{guards_of}
use Rattle.fb_types.specs.Kinds.{body_right, parameters_right}
use Rattle.fb_types.specs.Joined.{type_at_end, TwoSources}
use Rattle.fb_types.specs.Mapped.{mapped, NotMapped, event_pairs_of, data_pairs_of, IsServed, NoEvent}
use Rattle.fb_types.specs.Accepted.{IsAccepted, OverLimit, set_names, kind_of_stimulus, is_held}
use Rattle.fb_types.specs.declared.library.BlockType.TheVariants as block
use Rattle.fb_types.specs.declared.value.Ty.TheVariants.{Bool as Boolean}
use Rattle.fb_types.proofs.lemmas.names.NameLaws.{same_from_same_name, same_name-itself}
use Rattle.fb_types.proofs.lemmas.lists.ListTests.{passes_at, passes_somewhere}
use Rattle.fb_types.proofs.lemmas.names.PathLaws.{same_path_is, same_path_itself}

-- ---- Lists

no : {A : Type 0} (b : Bool) → b ≡ true → b ≡ false → A
no b holds fails = absurd (true≢false (sym holds ∙ fails))

among-contains : (ns : List Name) (n : Name) → among ns n ≡ true → Contains ns n
among-contains ns n h =
    let r = passes_somewhere (same_name n) ns h in subst (λ (m : Name). Contains ns m) (sym (same_from_same_name n r.0 r.2)) r.1

-- no two are the same
abbrev pub apart : {A : Type 0} → (A → A → Bool) → List A → Bool
apart same [] = true
apart same (x ∷ xs) = list_all (λ y. not (same x y)) xs && apart same xs

once : {A : Type 0} (same : A → A → Bool) → ((x : A) → same x x ≡ true) → (xs : List A) → apart same xs ≡ true → ¬ (Twice xs)
once same itself [] h t = absurd t
once same itself (x ∷ xs) h t =
    let parts = and_parts (list_all (λ y. not (same x y)) xs) (apart same xs) h in
    elim t [
      | inl again ↦ no (not (same x x)) (passes_at (λ y. not (same x y)) xs x parts.0 again) (ap not (itself x))
      | inr later ↦ once same itself xs parts.1 later
    ]

port_itself : (q : Port) → same_port q q ≡ true
port_itself q = rw (same_path_itself q.at, same_name-itself q.name) refl

abbrev pub same_ports : Port × Port → Port × Port → Bool
same_ports c d = same_port c.0 d.0 && same_port c.1 d.1

ports_itself : (c : Port × Port) → same_ports c c ≡ true
ports_itself c = rw (port_itself c.0, port_itself c.1) refl

abbrev pub same_names : Name × Name → Name × Name → Bool
same_names c d = same_name c.0 d.0 && same_name c.1 d.1

names_itself : (c : Name × Name) → same_names c c ≡ true
names_itself c = rw (same_name-itself c.0, same_name-itself c.1) refl

-- ---- The tests, by the numbers of the refusals

-- E20
pub record NamesOnce (lib : Library) (plan : Plan) : Type 0 where
  pub spaces : list_all (apart same_name) (name_spaces lib plan) ≡ true
  pub events : list_all (λ n. apart same_ports (event_pairs n.1)) (networks lib) ≡ true
  pub links : apart same_names (link_pairs plan) ≡ true

names-once : (lib : Library) (plan : Plan) → NamesOnce lib plan → ¬ (NameTwice lib plan)
names-once lib plan h (inl r) =
    once same_name same_name-itself r.0 (passes_at (apart same_name) (name_spaces lib plan) r.0 h.spaces r.1) r.2
names-once lib plan h (inr (inl r)) =
    once same_ports ports_itself (event_pairs r.0.1) (passes_at (λ (n : OwnedNetwork). apart same_ports (event_pairs n.1)) (networks lib) r.0 h.events r.1) r.2
names-once lib plan h (inr (inr t)) = once same_names names_itself (link_pairs plan) h.links t

-- E21
pub record NamesKnown (lib : Library) (plan : Plan) : Type 0 where
  pub names : list_all (λ w. among w.1 w.0) (required lib plan) ≡ true
  pub mentions : list_all (λ t. list_all (is_known t) (mentioned t)) (basics lib) ≡ true
  pub ends : list_all (ends_known lib) (networks lib) ≡ true

names-known : (lib : Library) (plan : Plan) → NamesKnown lib plan → ¬ (NameUnknown lib plan)
names-known lib plan h (inl r) =
    r.2 (among-contains r.0.1 r.0.0 (passes_at (λ (w : Required). among w.1 w.0) (required lib plan) r.0 h.names r.1))
names-known lib plan h (inr (inl r)) =
    no (is_known r.0 r.1)
    (passes_at (is_known r.0) (mentioned r.0) r.1 (passes_at (λ (t : BasicType). list_all (is_known t) (mentioned t)) (basics lib) r.0 h.mentions r.2) r.3) r.4
names-known lib plan h (inr (inr r)) = no (ends_known lib r.0) (passes_at (ends_known lib) (networks lib) r.0 h.ends r.1) r.2

-- E22
pub record KindsRight (lib : Library) : Type 0 where
  pub guards : list_all (λ t. list_all (is_condition (context_in t)) (guards_of t)) (basics lib) ≡ true
  pub bodies : list_all (λ t. list_all (body_right (context_in t)) (map (λ a. body_of a.body) t.algorithms)) (basics lib) ≡ true
  pub declared : list_all (λ t. list_all declared_right (variables_in (kind_of t))) lib.blocks ≡ true
  pub parameters : list_all (λ n. list_all (parameters_right lib) n.1.instances) (networks lib) ≡ true

kinds-right : (lib : Library) → KindsRight lib → ¬ (KindWrong lib)
kinds-right lib h (inl (t, c, inl r)) =
    no (is_condition (context_in t) r.0)
    (
    passes_at (is_condition (context_in t)) (guards_of t) r.0
    (passes_at (λ (t : BasicType). list_all (is_condition (context_in t)) (guards_of t)) (basics lib) t h.guards c) r.1
    )
    r.2
kinds-right lib h (inl (t, c, inr r)) =
    no (body_right (context_in t) r.0)
    (
    passes_at (body_right (context_in t)) (map (λ a. body_of a.body) t.algorithms) r.0
    (passes_at (λ (t : BasicType). list_all (body_right (context_in t)) (map (λ a. body_of a.body) t.algorithms)) (basics lib) t h.bodies c) r.1
    )
    r.2
kinds-right lib h (inr (inl r)) =
    no (declared_right r.1)
    (
    passes_at declared_right (variables_in (kind_of r.0)) r.1
    (passes_at (λ (t : BlockType). list_all declared_right (variables_in (kind_of t))) lib.blocks r.0 h.declared r.2) r.3
    )
    r.4
kinds-right lib h (inr (inr r)) =
    no (parameters_right lib r.1)
    (
    passes_at (parameters_right lib) r.0.1.instances r.1
    (passes_at (λ (n : OwnedNetwork). list_all (parameters_right lib) n.1.instances) (networks lib) r.0 h.parameters r.2) r.3
    )
    r.4

-- E23, if data connections join BOOL with BOOL
abbrev pub is_boolean : Option Ty → Bool
is_boolean (Some Boolean) = true
is_boolean _ = false

boolean_is : (t : Ty) → is_boolean (Some t) ≡ true → t ≡ Boolean
boolean_is Boolean h = refl
boolean_is _ h = absurd (true≢false (sym h))

abbrev pub joins_booleans : Library → OwnedNetwork → Connection → Bool
joins_booleans lib n c = is_boolean (type_at_end lib n c.from) && is_boolean (type_at_end lib n c.to)

abbrev pub InRange : Library → Type 0
InRange lib = list_all (λ n. list_all (joins_booleans lib n) n.1.data_connections) (networks lib) ≡ true

in-range : (lib : Library) → InRange lib → ¬ (OutOfRange lib)
in-range lib h r =
    let joined =
    passes_at (joins_booleans lib r.0) r.0.1.data_connections r.1
    (passes_at (λ (n : OwnedNetwork). list_all (joins_booleans lib n) n.1.data_connections) (networks lib) r.0 h r.4) r.5 in
    let parts = and_parts (is_boolean (type_at_end lib r.0 r.1.from)) (is_boolean (type_at_end lib r.0 r.1.to)) joined in
    let s : r.2 ≡ Boolean = boolean_is r.2 (subst (λ (o : Option Ty). is_boolean o ≡ true) r.6 parts.0) in
    let t : r.3 ≡ Boolean = boolean_is r.3 (subst (λ (o : Option Ty). is_boolean o ≡ true) r.7 parts.1) in
    r.8 (λ v fit. subst (λ (u : Ty). fits u v ≡ true) (s ∙ sym t) fit)

-- E24
abbrev pub OneSource : Library → Type 0
OneSource lib = list_all (λ n. apart same_port (map (λ c. c.1) (pairs_in [] n.1.data_connections))) (networks lib) ≡ true

one-source : (lib : Library) → OneSource lib → ¬ (TwoSources lib)
one-source lib h r =
    once same_port port_itself (map (λ c. c.1) (pairs_in [] r.0.1.data_connections))
    (passes_at (λ (n : OwnedNetwork). apart same_port (map (λ c. c.1) (pairs_in [] n.1.data_connections))) (networks lib) r.0 h r.1) r.2

-- E25, if no type is a composite
abbrev pub is_basic : BlockType → Bool
is_basic (block.Basic t) = true
is_basic (block.Composite t) = false

abbrev pub NoComposite : Library → Type 0
NoComposite lib = list_all is_basic lib.blocks ≡ true

not-high : (lib : Library) → NoComposite lib → ¬ (TooHigh lib)
not-high lib h r = absurd (true≢false (sym (passes_at is_basic lib.blocks (block.Composite r.0) h r.2)))

-- E26
pub record AreMapped (lib : Library) (plan : Plan) : Type 0 where
  pub each : list_all (λ i. among (mapped lib plan) i.name) lib.application.network.instances ≡ true
  pub once : apart same_name (mapped lib plan) ≡ true

are-mapped : (lib : Library) (plan : Plan) → AreMapped lib plan → ¬ (NotMapped lib plan)
are-mapped lib plan h (inl r) =
    r.2 (among-contains (mapped lib plan) r.0.name (passes_at (λ (i : Instance). among (mapped lib plan) i.name) lib.application.network.instances r.0 h.each r.1))
are-mapped lib plan h (inr t) = once same_name same_name-itself (mapped lib plan) h.once t

-- E27
abbrev pub is_near : Plan → Port × Port → Bool
is_near plan c = resource_of plan c.0.at == resource_of plan c.1.at

abbrev pub is_linked : Plan → Port × Port → Bool
is_linked plan c = is_near plan c || is_some (link_between plan (resource_of plan c.0.at) (resource_of plan c.1.at))

abbrev pub AreLinked : Library → Plan → Type 0
AreLinked lib plan = list_all (is_linked plan) (event_pairs_of lib ++ data_pairs_of lib) ≡ true

are-linked : (lib : Library) (plan : Plan) → AreLinked lib plan → ¬ (NoLink lib plan)
are-linked lib plan h r =
    by (is_near plan r.0) refl (passes_at (is_linked plan) (event_pairs_of lib ++ data_pairs_of lib) r.0 h r.1)
  where
    by : (b : Bool) → is_near plan r.0 ≡ b
        → (b || is_some (link_between plan (resource_of plan r.0.0.at) (resource_of plan r.0.1.at))) ≡ true → ⊥
    by true e g = r.2 (eqb-true (resource_of plan r.0.0.at) (resource_of plan r.0.1.at) e)
    by false e g = no (is_some (link_between plan (resource_of plan r.0.0.at) (resource_of plan r.0.1.at))) g (ap is_some r.3)

-- E28
abbrev pub emits_it : Option Kind → Name → Name → Bool
emits_it None e v = false
emits_it (Some k) e v = among (outputs_with (ports_of k) e) v

abbrev pub serves : Library → Plan → Port × Port → Port × Port → Bool
serves lib plan c e =
    same_path e.0.at c.0.at && emits_it (kind_at lib c.0.at) e.0.name c.0.name && resource_of plan e.1.at == resource_of plan c.1.at

abbrev pub is_near_or_served : Library → Plan → Port × Port → Bool
is_near_or_served lib plan c = is_near plan c || list_any (serves lib plan c) (event_pairs_of lib)

abbrev pub AreServed : Library → Plan → Type 0
AreServed lib plan = list_all (is_near_or_served lib plan) (data_pairs_of lib) ≡ true

served : (lib : Library) (plan : Plan) (c e : Port × Port) (k : Option Kind) → kind_at lib c.0.at ≡ k → Contains (event_pairs_of lib) e
    → (same_path e.0.at c.0.at && emits_it k e.0.name c.0.name && resource_of plan e.1.at == resource_of plan c.1.at) ≡ true → IsServed lib plan c
served lib plan c e None is there h =
    let first = and_parts (same_path e.0.at c.0.at && false) (resource_of plan e.1.at == resource_of plan c.1.at) h in
    no false ((and_parts (same_path e.0.at c.0.at) false first.0).1) refl
served lib plan c e (Some k) is there h =
    let first =
    and_parts (same_path e.0.at c.0.at && emits_it (Some k) e.0.name c.0.name) (resource_of plan e.1.at == resource_of plan c.1.at) h in
    let second = and_parts (same_path e.0.at c.0.at) (emits_it (Some k) e.0.name c.0.name) first.0 in (
      e,
      k,
      there,
      same_path_is e.0.at c.0.at second.0,
      is,
      among-contains (outputs_with (ports_of k) e.0.name) c.0.name second.1,
      eqb-true (resource_of plan e.1.at) (resource_of plan c.1.at) first.1,
    )

are-served : (lib : Library) (plan : Plan) → AreServed lib plan → ¬ (NoEvent lib plan)
are-served lib plan h r =
    by (is_near plan r.0) refl (passes_at (is_near_or_served lib plan) (data_pairs_of lib) r.0 h r.1)
  where
    by : (b : Bool) → is_near plan r.0 ≡ b → (b || list_any (serves lib plan r.0) (event_pairs_of lib)) ≡ true → ⊥
    by true e g = r.2 (eqb-true (resource_of plan r.0.0.at) (resource_of plan r.0.1.at) e)
    by false e g =
        let x = passes_somewhere (serves lib plan r.0) (event_pairs_of lib) g in
        r.3 (served lib plan r.0 x.0 (kind_at lib r.0.0.at) refl x.1 x.2)

-- E29, if stimuli set nothing
abbrev pub sets_nothing : Stimulus → Bool
sets_nothing s = elim s.settings [ [] ↦ true | x ∷ xs ↦ false ]

abbrev pub names_event : Option Kind → Name → Bool
names_event None e = false
names_event (Some k) e = is_event_input (ports_of k) e

abbrev pub is_fit : Library → Stimulus → Bool
is_fit lib s = sets_nothing s && names_event (kind_of_stimulus lib s) s.event

abbrev pub AreFit : Library → List Stimulus → Type 0
AreFit lib stimuli = list_all (is_fit lib) stimuli ≡ true

-- ---- All of them

pub record Passes (lib : Library) (plan : Plan) (stimuli : List Stimulus) : Type 0 where
  pub once : NamesOnce lib plan
  pub known : NamesKnown lib plan
  pub right : KindsRight lib
  pub ranges : InRange lib
  pub sources : OneSource lib
  pub height : NoComposite lib
  pub placed : AreMapped lib plan
  pub linked : AreLinked lib plan
  pub served : AreServed lib plan
  pub fit : AreFit lib stimuli
  pub instances : nat_le (length (paths_of lib)) 4096 ≡ true
  pub rows : nat_le (length stimuli) 100000 ≡ true

good : (lib : Library) (s : Stimulus) (k : Option Kind) → kind_of_stimulus lib s ≡ k → (settings : _) → s.settings ≡ settings
    → (elim settings as (λ _. Bool) [ [] ↦ true | x ∷ xs ↦ false ]) ≡ true → names_event k s.event ≡ true → IsGood lib s
good lib s None is settings e g h = absurd (true≢false (sym h))
good lib s (Some k) is (x ∷ xs) e g h = absurd (true≢false (sym g))
good lib s (Some k) is [] e g h =
    let none : set_names s ≡ [] = ap (λ xs. map (λ x. x.variable) xs) e in
    record {
      kind = k;
      of_kind = is;
      is_event = h;
      once = subst (λ (ns : List Name). ¬ (Twice ns)) (sym none) (λ t. t);
      with_event = λ x c. absurd (nothing x (subst (λ (ns : List Name). Contains ns x) none c));
      unconnected = λ x c. absurd (nothing x (subst (λ (ns : List Name). Contains ns x) none c));
      held = subst (λ xs. list_all (is_held (ports_of k)) xs ≡ true) (sym e) refl;
    }
  where
    nothing : (n : Name) → ¬ (Contains [] n)
    nothing n c = omega (arith, c.1)

are-fit : (lib : Library) (stimuli : List Stimulus) → AreFit lib stimuli → ¬ (BadStimulus lib stimuli)
are-fit lib stimuli h r =
    let parts = and_parts (sets_nothing r.0) (names_event (kind_of_stimulus lib r.0) r.0.event) (passes_at (is_fit lib) stimuli r.0 h r.1) in
    r.2 (good lib r.0 (kind_of_stimulus lib r.0) refl r.0.settings refl parts.0 parts.1)

within-limits : (lib : Library) (stimuli : List Stimulus) → nat_le (length (paths_of lib)) 4096 ≡ true → nat_le (length stimuli) 100000 ≡ true
    → ¬ (OverLimit lib stimuli)
within-limits lib stimuli few short (inl over) = omega (arith, over, leb-true (length (paths_of lib)) 4096 few)
within-limits lib stimuli few short (inr over) = omega (arith, over, leb-true (length stimuli) 100000 short)

pub accepted : (lib : Library) (plan : Plan) (stimuli : List Stimulus) → Passes lib plan stimuli → IsAccepted lib plan stimuli
accepted lib plan stimuli h n (inl a) = names-once lib plan h.once a.1
accepted lib plan stimuli h n (inr (inl a)) = names-known lib plan h.known a.1
accepted lib plan stimuli h n (inr (inr (inl a))) = kinds-right lib h.right a.1
accepted lib plan stimuli h n (inr (inr (inr (inl a)))) = in-range lib h.ranges a.1
accepted lib plan stimuli h n (inr (inr (inr (inr (inl a))))) = one-source lib h.sources a.1
accepted lib plan stimuli h n (inr (inr (inr (inr (inr (inl a)))))) = not-high lib h.height a.1
accepted lib plan stimuli h n (inr (inr (inr (inr (inr (inr (inl a))))))) = are-mapped lib plan h.placed a.1
accepted lib plan stimuli h n (inr (inr (inr (inr (inr (inr (inr (inl a)))))))) = are-linked lib plan h.linked a.1
accepted lib plan stimuli h n (inr (inr (inr (inr (inr (inr (inr (inr (inl a))))))))) = are-served lib plan h.served a.1
accepted lib plan stimuli h n (inr (inr (inr (inr (inr (inr (inr (inr (inr (inl a)))))))))) = are-fit lib stimuli h.fit a.1
accepted lib plan stimuli h n (inr (inr (inr (inr (inr (inr (inr (inr (inr (inr a)))))))))) = within-limits lib stimuli h.instances h.rows a.1
