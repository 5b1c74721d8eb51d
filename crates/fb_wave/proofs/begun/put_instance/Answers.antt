use Rattle.fb_wave.proofs.lemmas.Common.{◌≡◌, ◌++◌, ◌<◌, ◌^◌, ◌+◌, List, length, map, ap, sym, subst, ◌∙◌, length-map, variable_names, system_of, Name, path_at, ports_at, Ports, Variable, Value, size_of}
use Rattle.fb_wave.specs.Scopes.{initial_in, ports_begun}
use Rattle.fb_wave.proofs.lemmas.Handing.{on_ok}
use Rattle.fb_wave.proofs.begun.put_instance.Goals as goal

-- as many values as variables
as_many : (initial : Name → Value) (vs : List Variable) (values : List Value) → values ≡ map initial (variable_names vs) → length values ≡ length vs
as_many initial vs values are = ap length are ∙ length-map (variable_names vs) initial ∙ length-map vs (λ (v : Variable). v.name)

pub put_ports-requires-clause-numbers : goal.put_ports-requires-clause-numbers
put_ports-requires-clause-numbers c = subst (λ (its : Ports). c.args.first + size_of its < 2 ^ 64) (sym c.ports.ensures) c.requires.first

pub put_ports-requires-clause-inputs : goal.put_ports-requires-clause-inputs
put_ports-requires-clause-inputs c =
    let sys = system_of c.args.system.now in
    let p = path_at sys c.args.instance in
    as_many (initial_in sys p) (ports_at sys p).inputs _ (c.as_slice.ensures ∙ c.in_ok-inputs.ensures) ∙ ap (λ (its : Ports). length its.inputs) (sym c.ports.ensures)

pub put_ports-requires-clause-outputs : goal.put_ports-requires-clause-outputs
put_ports-requires-clause-outputs c =
    let sys = system_of c.args.system.now in
    let p = path_at sys c.args.instance in
    as_many (initial_in sys p) (ports_at sys p).outputs _ (c.as_slice-2.ensures ∙ c.in_ok-outputs.ensures) ∙ ap (λ (its : Ports). length its.outputs) (sym c.ports.ensures)

pub returns : goal.returns
returns c =
    let sys = system_of c.args.system.now in
    let p = path_at sys c.args.instance in
    on_ok c.put_ports.result _ _
    (c.put_ports.ensures (initial_in sys p)
    (c.as_slice.ensures ∙ c.in_ok-inputs.ensures ∙ ap (λ (its : Ports). map (initial_in sys p) (variable_names its.inputs)) (sym c.ports.ensures))
    (c.as_slice-2.ensures ∙ c.in_ok-outputs.ensures ∙ ap (λ (its : Ports). map (initial_in sys p) (variable_names its.outputs)) (sym c.ports.ensures)))
    (λ e. e ∙ ap (λ (its : Ports). c.args.text.now.items ++ ports_begun (initial_in sys p) c.args.first its) c.ports.ensures)
