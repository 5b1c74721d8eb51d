-- What the grammar of interfaces derives is read.
use Rattle.fb_read.proofs.lemmas.Common.{◌≡◌, ◌≤◌, Bool, false, List, ◌∷◌, length, Option, refl, ap, ◌∙◌, arith, Name, Ports, Mark, Tokens, same_mark, sees, after, name, expect, separated, section, with_names, event, initial, declaration, variables, ports, is_mark, IsName, is_name, AreSeparated, last, and_next, IsSection}
use Rattle.fb_types.specs.declared.value.Value.{Value}
use Rattle.fb_types.specs.declared.library.EventPort.{EventPort}
use Rattle.fb_types.specs.declared.library.Variable.{Variable}
use Rattle.fb_read.specs.declared.ports.Declaration.{Declaration}
use Rattle.fb_read.specs.declared.token.Mark.TheVariants as mark
use Rattle.fb_read.specs.declared.token.Token.TheVariants as token
use Rattle.fb_read.specs.PortsGrammar.{AreWith, no_with, some_with, IsEvent, is_event, IsInitial, no_initial, some_initial, IsDeclaration, is_declaration, AreVariables, are_variables, ArePorts, are_ports}
use Rattle.fb_read.proofs.lemmas.rules.Steps.{done, type-complete, type-shorter, mark-shorter, name-shorter}
use Rattle.fb_read.proofs.lemmas.rules.Lists.{IsComplete, IsShorter, Anything, always, all-always, picked, many-complete, separated-complete, separated-shorter, section-complete, section-starts, section-shorter}
use Rattle.fb_read.proofs.lemmas.declarations.NetworkComplete.{constant-complete, constant-shorter}

pub name-complete : IsComplete name IsName Anything always
unfolding name
name-complete x ts rest is_name before = refl

pub one-name-shorter : IsShorter IsName
one-name-shorter x ts rest n = name-shorter n

names-complete : (ns : List Name) (ts rest : Tokens) → AreSeparated IsName ns ts rest → sees mark.Comma rest ≡ false → separated name ts ≡ done ns rest
names-complete ns ts rest l ends =
    separated-complete name IsName Anything always name-complete one-name-shorter (λ s t k. tt) ns ts rest l tt ends ∙ ap (λ (b : Bool). picked b ns rest) (all-always ns)

with-complete : (ns : List Name) (ts rest : Tokens) → AreWith ns ts rest → sees mark.With rest ≡ false → sees mark.Comma rest ≡ false → with_names ts ≡ done ns rest
unfolding with_names after same_mark
with-complete ns ts rest no_with ends alone = rw ends refl
with-complete ns ts rest (some_with {a = a} is_mark l) ends alone = names-complete ns a rest l alone

with-shorter : {ns : List Name} {ts rest : Tokens} → AreWith ns ts rest → length rest ≤ length ts
with-shorter no_with = omega arith
with-shorter (some_with k l) = omega (arith, mark-shorter k, separated-shorter IsName one-name-shorter l)

event-complete : IsComplete event IsEvent Anything always
unfolding event name expect same_mark
event-complete x ts rest (is_event {ns = ns} {a = a} is_name l is_mark) before = rw (with-complete ns a (token.Mark mark.Semicolon ∷ rest) l refl refl) refl

pub event-shorter : IsShorter IsEvent
event-shorter x ts rest (is_event n l k) = omega (arith, name-shorter n, with-shorter l, mark-shorter k)

event-starts : (k : Mark) (x : EventPort) (ts rest : Tokens) → IsEvent x ts rest → sees k ts ≡ false
event-starts k x ts rest (is_event is_name l e) = refl

initial-complete : (v : Option Value) (ts rest : Tokens) → IsInitial v ts rest → sees mark.Assign rest ≡ false → initial ts ≡ done v rest
unfolding initial after same_mark
initial-complete v ts rest no_initial ends = rw ends refl
initial-complete v ts rest (some_initial {v = c} {a = a} is_mark l) ends = rw (constant-complete c a rest l) refl

pub initial-shorter : {v : Option Value} {ts rest : Tokens} → IsInitial v ts rest → length rest ≤ length ts
initial-shorter no_initial = omega arith
initial-shorter (some_initial k c) = omega (arith, mark-shorter k, constant-shorter c)

declaration-complete : IsComplete declaration IsDeclaration Anything always
unfolding declaration expect same_mark
declaration-complete x ts rest (is_declaration {ns = ns} {t = t} {v = v} {b = b} {c = c} l is_mark o i is_mark) before =
    rw (names-complete ns ts (token.Mark mark.Colon ∷ b) l refl, type-complete t b c o, initial-complete v c (token.Mark mark.Semicolon ∷ rest) i refl) refl

pub declaration-shorter : IsShorter IsDeclaration
declaration-shorter x ts rest (is_declaration l k o i e) =
    omega (arith, separated-shorter IsName one-name-shorter l, mark-shorter k, type-shorter o, initial-shorter i, mark-shorter e)

names-start : {ns : List Name} {ts rest : Tokens} (k : Mark) → AreSeparated IsName ns ts rest → sees k ts ≡ false
names-start k (last is_name) = refl
names-start k (and_next is_name c l) = refl

declaration-starts : (k : Mark) (x : Declaration) (ts rest : Tokens) → IsDeclaration x ts rest → sees k ts ≡ false
declaration-starts k x ts rest (is_declaration l c o i e) = names-start k l

events-complete : (begin : Mark) (xs : List EventPort) (ts rest : Tokens) → IsSection IsEvent begin mark.EndEvent xs ts rest → sees begin rest ≡ false → section event begin mark.EndEvent ts ≡ done xs rest
events-complete begin xs ts rest l ends =
    section-complete event IsEvent always begin mark.EndEvent (many-complete event IsEvent always mark.EndEvent event-complete event-shorter (event-starts mark.EndEvent)) xs ts rest l ends
    ∙ ap (λ (b : Bool). picked b xs rest) (all-always xs)

declarations-complete : (begin : Mark) (xs : List Declaration) (ts rest : Tokens) → IsSection IsDeclaration begin mark.EndVar xs ts rest → sees begin rest ≡ false
    → section declaration begin mark.EndVar ts ≡ done xs rest
declarations-complete begin xs ts rest l ends =
    section-complete declaration IsDeclaration always begin mark.EndVar
    (many-complete declaration IsDeclaration always mark.EndVar declaration-complete declaration-shorter (declaration-starts mark.EndVar)) xs ts rest l ends
    ∙ ap (λ (b : Bool). picked b xs rest) (all-always xs)

pub variables-complete : (begin : Mark) (xs : List Variable) (ts rest : Tokens) → AreVariables begin xs ts rest → sees begin rest ≡ false → variables begin ts ≡ done xs rest
unfolding variables
variables-complete begin xs ts rest (are_variables {ds = ds} l) ends = rw (declarations-complete begin ds ts rest l ends) refl

pub variables-shorter : {begin : Mark} {xs : List Variable} {ts rest : Tokens} → AreVariables begin xs ts rest → length rest ≤ length ts
variables-shorter (are_variables l) = section-shorter declaration-shorter l

pub variables-start : {begin : Mark} {xs : List Variable} {ts rest : Tokens} (k : Mark) → AreVariables begin xs ts rest → same_mark begin k ≡ false → sees k rest ≡ false → sees k ts ≡ false
variables-start k (are_variables l) other ends = section-starts k l other ends

-- what follows the ports begins none of their sections
pub record EndsPorts (ts : Tokens) : Type 0 where
  pub no_event_inputs : sees mark.EventInput ts ≡ false
  pub no_event_outputs : sees mark.EventOutput ts ≡ false
  pub no_inputs : sees mark.VarInput ts ≡ false
  pub no_outputs : sees mark.VarOutput ts ≡ false

pub ports-complete : (x : Ports) (ts rest : Tokens) → ArePorts x ts rest → EndsPorts rest → ports ts ≡ done x rest
unfolding ports same_mark
ports-complete x ts rest (are_ports {is = is} {os = os} {xs = xs} {ys = ys} {a = a} {b = b} {c = c} i o v w) ends =
    rw (
      events-complete mark.EventInput is ts a i
          (section-starts mark.EventInput o refl (variables-start mark.EventInput v refl (variables-start mark.EventInput w refl ends.no_event_inputs))),
      events-complete mark.EventOutput os a b o (variables-start mark.EventOutput v refl (variables-start mark.EventOutput w refl ends.no_event_outputs)),
      variables-complete mark.VarInput xs b c v (variables-start mark.VarInput w refl ends.no_inputs),
      variables-complete mark.VarOutput ys c rest w ends.no_outputs,
    ) refl

pub ports-shorter : {x : Ports} {ts rest : Tokens} → ArePorts x ts rest → length rest ≤ length ts
ports-shorter (are_ports i o v w) = omega (arith, section-shorter event-shorter i, section-shorter event-shorter o, variables-shorter v, variables-shorter w)
