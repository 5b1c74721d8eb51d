use Rattle.fb_types.proofs.Common.{◌≡◌, Bool, List, Option, Some, None, sym, ap, ◌∙◌, ◌||◌, list_any, first_of, network_at, parent, system_of, Name, path_at}
use Rattle.fb_types.specs.declared.library.Connection.{Connection}
use Rattle.fb_coverage.specs.Connected.{connections_of, is_at}
use Rattle.fb_wave.proofs.lemmas.Known.{path_some}
use Rattle.fb_coverage.proofs.lemmas.Connections.{first_own}
use Rattle.fb_coverage.proofs.group.is_connected.Goals as goal

pub returns-then-is_one_at : goal.returns-then-is_one_at
returns-then-is_one_at c =
    let lib = c.args.system.now.library in
    let p = path_at (system_of c.args.system.now) c.args.instance in
    let n = c.args.event.now in
    let own = c.own_name-own.result.now in
    let first : first_of p ≡ Some own = first_own p (path_some c.args.system.now c.args.instance c.requires) ∙ ap (λ (o : Name). Some o) (sym c.own_name-own.ensures) in
    let inside : Bool = list_any (is_at None n) (connections_of (network_at lib p)) in
    let around : c.is_one_at.result ≡ list_any (is_at (first_of p) n) (connections_of (network_at lib (parent p))) =
    c.is_one_at.ensures ∙ ap (λ (cs : List Connection). list_any (is_at (Some own) n) cs) c.connections_around.ensures
    ∙ ap (λ (o : Option Name). list_any (is_at o n) (connections_of (network_at lib (parent p)))) (sym first) in
    c.if-is_one_at.true ∙ sym (ap (λ (b : Bool). b || inside) (sym around ∙ c.if-is_one_at.true))

pub returns-else-is_one_at : goal.returns-else-is_one_at
returns-else-is_one_at c =
    let lib = c.args.system.now.library in
    let p = path_at (system_of c.args.system.now) c.args.instance in
    let n = c.args.event.now in
    let own = c.own_name-own.result.now in
    let first : first_of p ≡ Some own = first_own p (path_some c.args.system.now c.args.instance c.requires) ∙ ap (λ (o : Name). Some o) (sym c.own_name-own.ensures) in
    let inside : Bool = list_any (is_at None n) (connections_of (network_at lib p)) in
    let around : c.is_one_at.result ≡ list_any (is_at (first_of p) n) (connections_of (network_at lib (parent p))) =
    c.is_one_at.ensures ∙ ap (λ (cs : List Connection). list_any (is_at (Some own) n) cs) c.connections_around.ensures
    ∙ ap (λ (o : Option Name). list_any (is_at o n) (connections_of (network_at lib (parent p)))) (sym first) in
    c.is_one_at-else-is_one_at.ensures ∙ ap (λ (cs : List Connection). list_any (is_at None n) cs) c.connections_inside.ensures
    ∙ sym (ap (λ (b : Bool). b || inside) (sym around ∙ c.if-is_one_at.false))
