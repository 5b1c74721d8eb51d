-- What a section lists takes a token for each item.
use Rattle.fb_read.proofs.lemmas.Common.{◌≡◌, ◌+◌, ◌<◌, ◌≤◌, List, length, Ok, arith, length-append, flat_map, Mark, Tokens, many, section, instance, event, variables, AreSeparated, last, and_next, IsSection}
use Rattle.fb_types.proofs.Common.{length-map}
use Rattle.fb_types.specs.declared.library.EventPort.{EventPort}
use Rattle.fb_types.specs.declared.library.Instance.{Instance}
use Rattle.fb_types.specs.declared.library.Variable.{Variable}
use Rattle.fb_read.specs.declared.ports.Declaration.{Declaration}
use Rattle.fb_read.specs.declared.token.Mark.TheVariants as mark
use Rattle.fb_read.specs.Nodes.{variable_of}
use Rattle.fb_read.specs.Ports.{variables_of}
use Rattle.fb_read.specs.Grammar.{AreMany, no_more, one_more, no_section, is_section}
use Rattle.fb_read.specs.NetworkGrammar.{IsInstance}
use Rattle.fb_read.specs.PortsGrammar.{IsEvent, IsDeclaration, is_declaration, AreVariables, are_variables}
use Rattle.fb_read.proofs.lemmas.rules.Steps.{mark-shorter, type-shorter}
use Rattle.fb_read.proofs.lemmas.rules.Lists.{IsShorter, many-sound}
use Rattle.fb_read.proofs.lemmas.declarations.NetworkComplete.{instance-shorter}
use Rattle.fb_read.proofs.lemmas.declarations.NetworkSound.{instance-sound}
use Rattle.fb_read.proofs.lemmas.declarations.PortsComplete.{event-shorter, initial-shorter, one-name-shorter}
use Rattle.fb_read.proofs.lemmas.declarations.PortsSound.{events-sound, variables-sound}

many-count : {A : Type 0} (R : A → Tokens → Tokens → Type 0) (end : Mark) → IsShorter R → {xs : List A} {ts rest : Tokens} → AreMany R end xs ts rest → length xs + length rest < length ts
many-count R end short (no_more k) = omega (arith, mark-shorter k)
many-count R end short {ts = ts} (one_more {x = x} {mid = mid} r l) = omega (arith, short x ts mid r, many-count R end short l)

separated-count : {A : Type 0} (R : A → Tokens → Tokens → Type 0) → IsShorter R → {xs : List A} {ts rest : Tokens} → AreSeparated R xs ts rest → length xs + length rest ≤ length ts
separated-count R short {ts = ts} {rest = rest} (last {x = x} r) = omega (arith, short x ts rest r)
separated-count R short {ts = ts} (and_next {x = x} {before = before} r k l) = omega (arith, short x ts before r, mark-shorter k, separated-count R short l)

section-count : {A : Type 0} (R : A → Tokens → Tokens → Type 0) (begin end : Mark) → IsShorter R → {xs : List A} {ts rest : Tokens} → IsSection R begin end xs ts rest → length xs ≤ length ts
section-count R begin end short no_section = omega arith
section-count R begin end short (is_section k l) = omega (arith, mark-shorter k, many-count R end short l)

declaration-count : {d : Declaration} {ts rest : Tokens} → IsDeclaration d ts rest → length (variables_of d) + length rest ≤ length ts
declaration-count (is_declaration {ns = ns} {t = t} {v = v} l k o i e) =
    omega (arith, length-map ns (λ n. variable_of n t v), separated-count _ one-name-shorter l, mark-shorter k, type-shorter o, initial-shorter i, mark-shorter e)

declarations-count : (end : Mark) {ds : List Declaration} {ts rest : Tokens} → AreMany IsDeclaration end ds ts rest → length (flat_map variables_of ds) + length rest ≤ length ts
declarations-count end (no_more k) = omega (arith, mark-shorter k)
declarations-count end (one_more {x = d} {xs = ds} r l) =
    omega (arith, length-append (variables_of d) (flat_map variables_of ds), declaration-count r, declarations-count end l)

listed-count : (begin end : Mark) {ds : List Declaration} {ts rest : Tokens} → IsSection IsDeclaration begin end ds ts rest → length (flat_map variables_of ds) ≤ length ts
listed-count begin end no_section = omega arith
listed-count begin end (is_section k l) = omega (arith, mark-shorter k, declarations-count end l)

grammar-count : {begin : Mark} {xs : List Variable} {ts rest : Tokens} → AreVariables begin xs ts rest → length xs ≤ length ts
grammar-count {begin = begin} (are_variables l) = listed-count begin mark.EndVar l

pub events-count : (begin : Mark) (xs : List EventPort) (ts rest : Tokens) → section event begin mark.EndEvent ts ≡ Ok (xs, rest) → length xs ≤ length ts
events-count begin xs ts rest h = section-count IsEvent begin mark.EndEvent event-shorter (events-sound begin ts xs rest h)

pub variables-count : (begin : Mark) (xs : List Variable) (ts rest : Tokens) → variables begin ts ≡ Ok (xs, rest) → length xs ≤ length ts
variables-count begin xs ts rest h = grammar-count (variables-sound begin ts xs rest h)

pub instances-count : (xs : List Instance) (ts rest : Tokens) → many instance mark.EndFbs ts ≡ Ok (xs, rest) → length xs ≤ length ts
instances-count xs ts rest h =
    omega (arith, many-count IsInstance mark.EndFbs instance-shorter (many-sound instance IsInstance mark.EndFbs instance-sound ts xs rest h))
