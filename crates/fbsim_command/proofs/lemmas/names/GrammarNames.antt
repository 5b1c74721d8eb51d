-- The names that the grammar reads from tokens are names, where those of the tokens are.
use Rattle.std.proofs.Common.{◌≡◌, ℕ, true, List, [], ◌∷◌, ◌++◌, map, Option, sym, ap, subst, ◌∙◌}
use Rattle.std.specs.Prelude.{flat_map}
use Rattle.fb_types.proofs.Common.{and_parts, list_all, list_all-append}
use Rattle.fb_types.specs.Names.{Name}
use Rattle.fb_types.specs.declared.value.Value.{Value}
use Rattle.fb_types.specs.declared.value.Ty.{Ty}
use Rattle.fb_types.specs.declared.library.EventPort.{EventPort}
use Rattle.fb_types.specs.declared.library.Variable.{Variable}
use Rattle.fb_types.specs.declared.library.Ports.{Ports}
use Rattle.fb_types.specs.declared.library.Parameter.{Parameter}
use Rattle.fb_types.specs.declared.library.PortName.{PortName}
use Rattle.fb_types.specs.declared.library.Connection.{Connection}
use Rattle.fb_types.specs.declared.library.Instance.{Instance}
use Rattle.fb_types.specs.declared.library.Network.{Network}
use Rattle.fb_types.specs.declared.library.BasicType.{BasicType}
use Rattle.fb_types.specs.declared.library.BlockType.{BlockType}
use Rattle.fb_types.specs.declared.library.BlockType.TheVariants as block_type
use Rattle.fb_types.specs.declared.library.Application.{Application}
use Rattle.fb_types.specs.declared.library.Library.{Library}
use Rattle.fb_read.specs.declared.token.Mark.{Mark}
use Rattle.fb_read.specs.declared.token.Mark.TheVariants as mark
use Rattle.fb_read.specs.declared.token.Token.{Token}
use Rattle.fb_read.specs.declared.token.Token.TheVariants as token
use Rattle.fb_read.specs.declared.ports.Declaration.{Declaration}
use Rattle.fb_read.specs.Tokens.{Tokens}
use Rattle.fb_read.specs.Ports.{variables_of}
use Rattle.fb_read.specs.Grammar.{AreAll, AreMany, AreSeparated, IsMark, IsName, IsSection, IsTime, IsType, IsWhole, and_more, and_next, is_mark, is_name, is_section, is_time, is_type, is_whole, last, no_more, no_section, none, one_more}
use Rattle.fb_read.specs.PortsGrammar.{ArePorts, AreVariables, AreWith, IsDeclaration, IsEvent, IsInitial, are_ports, are_variables, is_declaration, is_event, no_initial, no_with, some_initial, some_with}
use Rattle.fb_read.specs.NetworkGrammar.{AreParameters, IsApplication, IsConnection, IsConstant, IsInstance, IsNetwork, IsParameter, IsPort, is_application, is_connection, is_duration, is_false, is_instance, is_negative, is_network, is_number, is_parameter, is_true, no_parameters, of_boundary, of_component, some_parameters}
use Rattle.fb_read.specs.BlocksGrammar.{IsBasic, IsBlock, IsBody, IsLibrary, is_basic, is_block, is_library, of_basic, of_composite}
use Rattle.fb_read.specs.Fits.{fits_block, fits_library}
use Rattle.fb_read.proofs.lemmas.rules.Lists.{picked}
use Rattle.fb_read.proofs.lemmas.lookahead.OneTokenAhead.{IsLeft}
use Rattle.fb_read.proofs.lemmas.lookahead.LocalLibrary.{local-block}
use Rattle.fb_read.proofs.lemmas.declarations.BlocksComplete.{block-complete}
use Rattle.fb_wave.specs.Named as named

-- ---- lists

-- This holds of each element.
abbrev pub Every : {A : Type 0} → (A → Type 0) → List A → Type 0
Every P [] = Unit {0}
Every P (x ∷ xs) = P x × Every P xs

pub every-append : {A : Type 0} (P : A → Type 0) (xs ys : List A) → Every P xs → Every P ys → Every P (xs ++ ys)
every-append P [] ys a b = b
every-append P (x ∷ xs) ys (first, rest) b = (first, every-append P xs ys rest b)

pub every-map : {A B : Type 0} (f : A → B) (P : B → Type 0) (xs : List A) → Every (λ x. P (f x)) xs → Every P (map f xs)
every-map f P [] a = tt
every-map f P (x ∷ xs) (first, rest) = (first, every-map f P xs rest)

pub every-flat : {A B : Type 0} (f : A → List B) (P : B → Type 0) (xs : List A) → Every (λ x. Every P (f x)) xs → Every P (flat_map f xs)
every-flat f P [] a = tt
every-flat f P (x ∷ xs) (first, rest) = every-append P (f x) (flat_map f xs) first (every-flat f P xs rest)

-- ---- tokens

-- A token that is a name is one in upper case.
abbrev pub IsNamed : Token → Type 0
IsNamed (token.Name n) = named.is_name n ≡ true
IsNamed _ = Unit {0}

abbrev pub AreNamed : Tokens → Type 0
AreNamed ts = Every IsNamed ts

-- an end of such tokens is one
pub left-named : (rest ts : Tokens) → IsLeft rest ts → AreNamed ts → AreNamed rest
left-named rest ts w n = go w.before (subst AreNamed (sym w.joined) n)
  where
    go : (before : Tokens) → AreNamed (before ++ rest) → AreNamed rest
    go [] n = n
    go (t ∷ before) n = go before n.1

-- ---- the rules

abbrev IsNameOf : Name → Type 0
IsNameOf n = named.is_name n ≡ true

mark-named : {k : Mark} {ts rest : Tokens} → IsMark k ts rest → AreNamed ts → AreNamed rest
mark-named is_mark n = n.1

name-named : {x : Name} {ts rest : Tokens} → IsName x ts rest → AreNamed ts → IsNameOf x × AreNamed rest
name-named is_name n = n

whole-named : {x : ℕ} {ts rest : Tokens} → IsWhole x ts rest → AreNamed ts → AreNamed rest
whole-named is_whole n = n.1

constant-named : {v : Value} {ts rest : Tokens} → IsConstant v ts rest → AreNamed ts → AreNamed rest
constant-named (is_true k) n = mark-named k n
constant-named (is_false k) n = mark-named k n
constant-named (is_number w) n = whole-named w n
constant-named (is_negative k w) n = whole-named w (mark-named k n)
constant-named (is_duration is_time) n = n.1

type-named : {t : Ty} {ts rest : Tokens} → IsType t ts rest → AreNamed ts → AreNamed rest
type-named (is_type e k) n = mark-named k n

-- A rule reads items of which this holds, and leaves tokens that are named.
abbrev Keeps : {A : Type 0} → (A → Tokens → Tokens → Type 0) → (A → Type 0) → Type 0
Keeps {A} R P = (x : A) (ts rest : Tokens) → R x ts rest → AreNamed ts → P x × AreNamed rest

module _ {A : Type 0} (R : A → Tokens → Tokens → Type 0) (P : A → Type 0) (keeps : Keeps R P) where
  many-named : (end : Mark) (xs : List A) (ts rest : Tokens) → AreMany R end xs ts rest → AreNamed ts → Every P xs × AreNamed rest
  many-named end [] ts rest (no_more k) n = (tt, mark-named k n)
  many-named end (x ∷ xs) ts rest (one_more {mid = mid} r l) n =
      let one = keeps x ts mid r n in
      let more = many-named end xs mid rest l one.1 in
      ((one.0, more.0), more.1)

  separated-named : (xs : List A) (ts rest : Tokens) → AreSeparated R xs ts rest → AreNamed ts → Every P xs × AreNamed rest
  separated-named [] ts rest l n = elim l [ ]
  separated-named (x ∷ []) ts rest (last r) n = let one = keeps x ts rest r n in ((one.0, tt), one.1)
  separated-named (x ∷ xs) ts rest (and_next {before = before} {following = following} r k l) n =
      let one = keeps x ts before r n in
      let more = separated-named xs following rest l (mark-named k one.1) in
      ((one.0, more.0), more.1)

  section-named : (begin end : Mark) (xs : List A) (ts rest : Tokens) → IsSection R begin end xs ts rest → AreNamed ts → Every P xs × AreNamed rest
  section-named begin end [] ts rest no_section n = (tt, n)
  section-named begin end xs ts rest (is_section {a = a} k l) n = many-named end xs a rest l (mark-named k n)

-- ---- interfaces

names-named : (ns : List Name) (ts rest : Tokens) → AreSeparated IsName ns ts rest → AreNamed ts → Every IsNameOf ns × AreNamed rest
names-named = separated-named IsName IsNameOf (λ x ts rest r n. name-named r n)

with-named : (ns : List Name) (ts rest : Tokens) → AreWith ns ts rest → AreNamed ts → AreNamed rest
with-named ns ts rest no_with n = n
with-named ns ts rest (some_with {a = a} k l) n = (names-named ns a rest l (mark-named k n)).1

abbrev pub HasEventName : EventPort → Type 0
HasEventName e = IsNameOf e.name

abbrev pub HasVariableName : Variable → Type 0
HasVariableName v = IsNameOf v.name

event-named : Keeps IsEvent HasEventName
event-named x ts rest (is_event {ns = ns} {a = a} {b = b} r w k) n =
    let one = name-named r n in
    (one.0, mark-named k (with-named ns a b w one.1))

initial-named : {v : Option Value} {ts rest : Tokens} → IsInitial v ts rest → AreNamed ts → AreNamed rest
initial-named no_initial n = n
initial-named (some_initial k c) n = constant-named c (mark-named k n)

abbrev HasNamesOf : Declaration → Type 0
HasNamesOf d = Every HasVariableName (variables_of d)

declaration-named : Keeps IsDeclaration HasNamesOf
declaration-named x ts rest (is_declaration {ns = ns} {t = t} {v = v} {a = a} l k o i e) n =
    let names = names-named ns ts a l n in
    (every-map (λ (m : Name). record { name = m; ty = t; initial = v }) HasVariableName ns names.0, mark-named e (initial-named i (type-named o (mark-named k names.1))))

variables-named : (k : Mark) (xs : List Variable) (ts rest : Tokens) → AreVariables k xs ts rest → AreNamed ts → Every HasVariableName xs × AreNamed rest
variables-named k xs ts rest (are_variables {ds = ds} l) n =
    let all = section-named IsDeclaration HasNamesOf declaration-named k mark.EndVar ds ts rest l n in
    (every-flat variables_of HasVariableName ds all.0, all.1)

-- All ports of an interface have names.
pub record HasPortNames (p : Ports) : Type 0 where
  pub event_inputs : Every HasEventName p.event_inputs
  pub event_outputs : Every HasEventName p.event_outputs
  pub inputs : Every HasVariableName p.inputs
  pub outputs : Every HasVariableName p.outputs

ports-named : Keeps ArePorts HasPortNames
ports-named x ts rest (are_ports {is = is} {os = os} {xs = xs} {ys = ys} {a = a} {b = b} {c = c} i o v w) n =
    let ins = section-named IsEvent HasEventName event-named mark.EventInput mark.EndEvent is ts a i n in
    let outs = section-named IsEvent HasEventName event-named mark.EventOutput mark.EndEvent os a b o ins.1 in
    let takes = variables-named mark.VarInput xs b c v outs.1 in
    let gives = variables-named mark.VarOutput ys c rest w takes.1 in
    (record { event_inputs = ins.0; event_outputs = outs.0; inputs = takes.0; outputs = gives.0 }, gives.1)

-- ---- networks

abbrev pub HasInstanceName : Instance → Type 0
HasInstanceName i = IsNameOf i.name

abbrev Anything : Parameter → Type 0
Anything x = Unit {0}

parameter-named : Keeps IsParameter Anything
parameter-named x ts rest (is_parameter r k c) n = (tt, constant-named c (mark-named k (name-named r n).1))

parameters-named : (xs : List Parameter) (ts rest : Tokens) → AreParameters xs ts rest → AreNamed ts → AreNamed rest
parameters-named xs ts rest no_parameters n = n
parameters-named xs ts rest (some_parameters {a = a} {b = b} k l e) n = mark-named e (separated-named IsParameter Anything parameter-named xs a b l (mark-named k n)).1

instance-named : Keeps IsInstance HasInstanceName
instance-named x ts rest (is_instance {xs = xs} {c = c} {d = d} r k t p e) n =
    let own = name-named r n in
    (own.0, mark-named e (parameters-named xs c d p (name-named t (mark-named k own.1)).1))

port-named : {x : PortName} {ts rest : Tokens} → IsPort x ts rest → AreNamed ts → AreNamed rest
port-named (of_boundary r) n = (name-named r n).1
port-named (of_component c k r) n = (name-named r (mark-named k (name-named c n).1)).1

abbrev AnyConnection : Connection → Type 0
AnyConnection x = Unit {0}

connection-named : Keeps IsConnection AnyConnection
connection-named x ts rest (is_connection p k q e) n = (tt, mark-named e (port-named q (mark-named k (port-named p n))))

-- All instances of a network have names.
abbrev pub HasInstanceNames : Network → Type 0
HasInstanceNames w = Every HasInstanceName w.instances

network-named : Keeps IsNetwork HasInstanceNames
network-named w ts rest (is_network {xs = xs} {es = es} {ds = ds} {a = a} {b = b} {c = c} k l e d) n =
    let all = many-named IsInstance HasInstanceName instance-named mark.EndFbs xs a b l (mark-named k n) in
    let events = section-named IsConnection AnyConnection connection-named mark.EventConnections mark.EndConnections es b c e all.1 in
    (all.0, (section-named IsConnection AnyConnection connection-named mark.DataConnections mark.EndConnections ds c rest d events.1).1)

application-named : (x : Application) (ts rest : Tokens) → IsApplication x ts rest → AreNamed ts → HasInstanceNames x.network × AreNamed rest
application-named x ts rest (is_application {w = w} {b = b} {c = c} k r l e) n =
    let inside = network-named w b c l (name-named r (mark-named k n)).1 in
    (inside.0, mark-named e inside.1)

-- ---- block types

-- The ports of a block type and the instances inside it have names.
abbrev pub HasBlockNames : BlockType → Type 0
HasBlockNames (block_type.Basic t) = HasPortNames t.ports
HasBlockNames (block_type.Composite t) = HasPortNames t.ports × HasInstanceNames t.network

basic-ports : {n : Name} {p : Ports} {x : BasicType} {ts rest : Tokens} → IsBasic n p x ts rest → HasPortNames p → HasPortNames x.ports
basic-ports (is_basic v s l m) has = has

body-named : (n : Name) (p : Ports) (x : BlockType) (ts rest : Tokens) → IsBody n p x ts rest → HasPortNames p → AreNamed ts → HasBlockNames x
body-named n p x ts rest (of_basic r) has named_so = basic-ports r has
body-named n p x ts rest (of_composite {w = w} r) has named_so = (has, (network-named w ts rest r named_so).0)

block-named : (x : BlockType) (ts rest : Tokens) → IsBlock x ts rest → AreNamed ts → HasBlockNames x
block-named x ts rest (is_block {n = m} {p = p} {b = b} {c = c} {d = d} k r l y e) n =
    let own = ports-named p b c l (name-named r (mark-named k n)).1 in
    body-named m p x c d y own.0 own.1

-- what is left after a block type that fits is an end of the tokens
block-left : (x : BlockType) (ts rest : Tokens) → IsBlock x ts rest → fits_block x ≡ true → IsLeft rest ts
block-left x ts rest r fits = local-block.looks.left ts rest x (block-complete x ts rest r tt ∙ ap (λ b. picked b x rest) fits)

blocks-named : (xs : List BlockType) (ts rest : Tokens) → AreAll IsBlock xs ts rest → list_all fits_block xs ≡ true → AreNamed ts → Every HasBlockNames xs × AreNamed rest
blocks-named [] ts rest none fits n = (tt, n)
blocks-named (x ∷ xs) ts rest (and_more {mid = mid} r l) fits n =
    let parts = and_parts (fits_block x) (list_all fits_block xs) fits in
    let more = blocks-named xs mid rest l parts.1 (left-named mid ts (block-left x ts mid r parts.0) n) in
    ((block-named x ts mid r n, more.0), more.1)

-- ---- libraries

-- The ports of all block types, the instances inside them and those of the application have names.
pub record HasLibraryNames (lib : Library) : Type 0 where
  pub blocks : Every HasBlockNames lib.blocks
  pub instances : HasInstanceNames lib.application.network

pub grammar-named : (lib : Library) (ts rest : Tokens) → IsLibrary lib ts rest → fits_library lib ≡ true → AreNamed ts → HasLibraryNames lib
grammar-named lib ts rest (is_library {xs = xs} {ys = ys} {x = x} {a = a} {b = b} before l following) fits n =
    let parts = and_parts (list_all fits_block xs) (list_all fits_block ys) (sym (list_all-append fits_block xs ys) ∙ fits) in
    let first = blocks-named xs ts a before parts.0 n in
    let own = application-named x a b l first.1 in
    let more = blocks-named ys b rest following parts.1 own.1 in
    record { blocks = every-append HasBlockNames xs ys first.0 more.0; instances = own.0 }
