-- What the parser of interfaces reads is in the grammar.
use Rattle.fb_read.proofs.lemmas.Common.{[], Some, None, inl, inr, flat_map, Mark, name, ty_name, expect, after, separated, section, constant, with_names, event, initial, declaration, variables, ports, IsName, AreSeparated, IsSection}
use Rattle.fb_read.specs.declared.token.Mark.TheVariants as mark
use Rattle.fb_read.specs.Nodes.{event_of, declaration_of, ports_of}
use Rattle.fb_read.specs.Ports.{variables_of}
use Rattle.fb_read.specs.PortsGrammar.{AreWith, no_with, some_with, IsEvent, is_event, IsInitial, no_initial, some_initial, IsDeclaration, is_declaration, AreVariables, are_variables, ArePorts, are_ports}
use Rattle.fb_read.proofs.lemmas.rules.Steps.{both_ok, made, eaten, expected, named, typed_by}
use Rattle.fb_read.proofs.lemmas.rules.Lists.{IsSound, separated-sound, section-sound}
use Rattle.fb_read.proofs.lemmas.declarations.NetworkSound.{constant-sound}

names-sound : IsSound (separated name) (AreSeparated IsName)
names-sound = separated-sound name IsName named

with-sound : IsSound with_names AreWith
unfolding with_names
with-sound ts x rest h =
    elim (eaten mark.With _ _ ts (x, rest) h) [
      | inl w ↦ some_with w.0 (names-sound (after mark.With ts) x rest w.1)
      | inr w ↦ made AreWith [] x ts ts rest w.1 no_with
    ]

event-sound : IsSound event IsEvent
unfolding event
event-sound ts x rest h =
    let a = both_ok (name ts) _ (x, rest) h in
    let b = both_ok (with_names a.1) _ (x, rest) a.3 in
    let c = both_ok (expect mark.Semicolon b.1) _ (x, rest) b.3 in
    made IsEvent (event_of a.0 b.0) x ts c.1 rest c.3 (is_event (named ts a.0 a.1 a.2) (with-sound a.1 b.0 b.1 b.2) (expected mark.Semicolon b.1 c.1 c.2))

initial-sound : IsSound initial IsInitial
unfolding initial
initial-sound ts x rest h =
    elim (eaten mark.Assign _ _ ts (x, rest) h) [
      | inl w ↦
          let a = both_ok (constant (after mark.Assign ts)) _ (x, rest) w.1 in
          made IsInitial (Some a.0) x ts a.1 rest a.3 (some_initial w.0 (constant-sound (after mark.Assign ts) a.0 a.1 a.2))
      | inr w ↦ made IsInitial None x ts ts rest w.1 no_initial
    ]

declaration-sound : IsSound declaration IsDeclaration
unfolding declaration
declaration-sound ts x rest h =
    let a = both_ok (separated name ts) _ (x, rest) h in
    let b = both_ok (expect mark.Colon a.1) _ (x, rest) a.3 in
    let c = both_ok (ty_name b.1) _ (x, rest) b.3 in
    let d = both_ok (initial c.1) _ (x, rest) c.3 in
    let e = both_ok (expect mark.Semicolon d.1) _ (x, rest) d.3 in
    made IsDeclaration (declaration_of a.0 c.0 d.0) x ts e.1 rest e.3
    (is_declaration (names-sound ts a.0 a.1 a.2) (expected mark.Colon a.1 b.1 b.2) (typed_by b.1 c.0 c.1 c.2) (initial-sound c.1 d.0 d.1 d.2) (expected mark.Semicolon d.1 e.1 e.2))

pub variables-sound : (k : Mark) → IsSound (variables k) (AreVariables k)
unfolding variables
variables-sound k ts x rest h =
    let a = both_ok (section declaration k mark.EndVar ts) _ (x, rest) h in
    made (AreVariables k) (flat_map variables_of a.0) x ts a.1 rest a.3
    (are_variables (section-sound declaration IsDeclaration k mark.EndVar declaration-sound ts a.0 a.1 a.2))

pub events-sound : (k : Mark) → IsSound (section event k mark.EndEvent) (IsSection IsEvent k mark.EndEvent)
events-sound k = section-sound event IsEvent k mark.EndEvent event-sound

pub ports-sound : IsSound ports ArePorts
unfolding ports
ports-sound ts x rest h =
    let a = both_ok (section event mark.EventInput mark.EndEvent ts) _ (x, rest) h in
    let b = both_ok (section event mark.EventOutput mark.EndEvent a.1) _ (x, rest) a.3 in
    let c = both_ok (variables mark.VarInput b.1) _ (x, rest) b.3 in
    let d = both_ok (variables mark.VarOutput c.1) _ (x, rest) c.3 in
    made ArePorts (ports_of a.0 b.0 c.0 d.0) x ts d.1 rest d.3
    (are_ports (events-sound mark.EventInput ts a.0 a.1 a.2) (events-sound mark.EventOutput a.1 b.0 b.1 b.2) (variables-sound mark.VarInput b.1 c.0 c.1 c.2)
    (variables-sound mark.VarOutput c.1 d.0 d.1 d.2))
