use Rattle.fb_check.proofs.lemmas.Common.{◌≡◌, ◌∙◌, List, Option, None, Some, ap, sym, option_and_then, Name, OwnedNetwork, Library, PortName, Ports, end_at, end_number, names_of_kind, port_number, ConnectionEnd, TypeNumber, placed}
use Rattle.fb_check.specs.types.Scopes.{component_number}
use Rattle.fb_check.proofs.lemmas.types.NumbersOfNames.{component_is, end_there}
use Rattle.fb_check.proofs.types.ends.end_of.Goals as goal

-- an end at a component
at_component :
    (lib : Library) (n : OwnedNetwork) (component boundary : Ports → List Name) (e : PortName) (c : Name) → e.component ≡ Some c
    → end_number lib n component boundary e ≡ component_number lib n component c e
at_component lib n component boundary e c is =
    ap (λ (o : Option Name). elim o as (λ _. Option ConnectionEnd) [ None ↦ option_and_then (λ t. end_at None (boundary t.ports) e) n.0 | Some c ↦ component_number lib n component c e ]) is

pub returns-in_err-kind-in-Some : goal.returns-in_err-kind-in-Some
returns-in_err-kind-in-Some c =
    let lib = c.args.types.now.library.now in
    let n = placed c.args.scope.now in
    let port_kind = names_of_kind c.args.component in
    let name = c.in-Some.name in
    let end = c.args.end.now in
    let i = c.in_ok-instance-in-Some.instance in
    let at = sym (c.in_ok-instance-in-Some.ensures ∙ c.requires.scope.instances.index name) in
    c.from_residual-in_err-kind-in-Some.ensures
    ∙ sym (at_component lib n port_kind (names_of_kind c.args.boundary) end name c.in-Some.is
    ∙ component_is lib n c.args.kinds.now port_kind name end i c.requires.typed at
    ∙ ap (option_and_then (λ (t : TypeNumber). end_there i (port_number lib t port_kind end.port))) (sym c.in_err-kind-in-Some.ensures.value))

pub returns-in_err-port-in-Some : goal.returns-in_err-port-in-Some
returns-in_err-port-in-Some c =
    let lib = c.args.types.now.library.now in
    let n = placed c.args.scope.now in
    let port_kind = names_of_kind c.args.component in
    let name = c.in-Some.name in
    let end = c.args.end.now in
    let i = c.in_ok-instance-in-Some.instance in
    let at = sym (c.in_ok-instance-in-Some.ensures ∙ c.requires.scope.instances.index name) in
    c.from_residual-in_err-port-in-Some.ensures
    ∙ sym (at_component lib n port_kind (names_of_kind c.args.boundary) end name c.in-Some.is
    ∙ component_is lib n c.args.kinds.now port_kind name end i c.requires.typed at
    ∙ ap (option_and_then (λ (t : TypeNumber). end_there i (port_number lib t port_kind end.port))) (sym c.in_ok-kind-in-Some.ensures.value)
    ∙ ap (end_there i) (sym c.in_err-port-in-Some.ensures))

pub returns-in_ok-port-in-Some : goal.returns-in_ok-port-in-Some
returns-in_ok-port-in-Some c =
    let lib = c.args.types.now.library.now in
    let n = placed c.args.scope.now in
    let port_kind = names_of_kind c.args.component in
    let name = c.in-Some.name in
    let end = c.args.end.now in
    let i = c.in_ok-instance-in-Some.instance in
    let at = sym (c.in_ok-instance-in-Some.ensures ∙ c.requires.scope.instances.index name) in
    sym (at_component lib n port_kind (names_of_kind c.args.boundary) end name c.in-Some.is
    ∙ component_is lib n c.args.kinds.now port_kind name end i c.requires.typed at
    ∙ ap (option_and_then (λ (t : TypeNumber). end_there i (port_number lib t port_kind end.port))) (sym c.in_ok-kind-in-Some.ensures.value)
    ∙ ap (end_there i) (sym c.in_ok-port-in-Some.ensures))
