use Rattle.fb_inspect.proofs.lemmas.Common.{◌∙◌, ◌<◌, ℕ, List, ◌++◌, ap, append_assoc, arith, length, path_at, ports_at, refl, system_of, Variable}
use Rattle.std.specs.Prelude.{codes, string_bytes}
use Rattle.fb_types.specs.declared.library.Ports.{Ports}
use Rattle.fb_wave.specs.Ports.{events}
use Rattle.fb_wave.proofs.lemmas.Handing.{on_ok}
use Rattle.fb_inspect.specs.declared.refused.line_fault.ValueFault.TheVariants as value
use Rattle.fb_inspect.specs.refused.LineFaults.{variables}
use Rattle.fb_inspect.specs.refused.Messages.{event_text, quoted, variable_text, without_feed}
use Rattle.fb_inspect.proofs.lemmas.words.Texts.{two_and_one, value_added}
use Rattle.fb_inspect.proofs.refused.line_words.put_value_fault.Goals as goal

pub returns-in_ok-put_known-in-Variable : goal.returns-in_ok-put_known-in-Variable
returns-in_ok-put_known-in-Variable c =
    let sys = system_of c.args.system.now in
    let p = c.args.port in
    let its = ports_at sys (path_at sys p.instance) in
    let o : List ℕ = string_bytes c.args.text.now in
    let Q : List ℕ = quoted c.in-Variable.name.now in
    let E : List ℕ = event_text c.events_of.result.now p.event in
    let counted = c.count.ensures in
    let less : p.instance < length sys.paths = omega (arith, counted) in
    rw c.in-Variable.is
    (on_ok c.put_event.result _ _ c.put_event.ensures
    (λ e.
    value_added sys p (value.Variable c.in-Variable.name) o (string_bytes c.put_event.new.text) (variables its p.taken) c.events_of.result.now less refl
    (c.events_of.ensures ∙ ap (λ (x : Ports). events x p.taken) c.ports-ports.ensures)
    (e ∙ ap (λ (t : List ℕ). t ++ E) c.in_ok-put_known-in-Variable.ensures ∙ two_and_one o Q (codes " is no variable WITH ") E)))

pub returns-in_ok-push_str-in-Missing : goal.returns-in_ok-push_str-in-Missing
returns-in_ok-push_str-in-Missing c =
    let sys = system_of c.args.system.now in
    let p = c.args.port in
    let its = ports_at sys (path_at sys p.instance) in
    let vs : List Variable = c.variables_of-variables.result.now in
    let o : List ℕ = string_bytes c.args.text.now in
    let V : List ℕ = variable_text vs c.in-Missing.index in
    let counted = c.count.ensures in
    let less : p.instance < length sys.paths = omega (arith, counted) in
    rw c.in-Missing.is
    (on_ok c.put_variable.result _ _ c.put_variable.ensures
    (λ e.
    value_added sys p (value.Missing c.in-Missing.index) o (string_bytes c.put_variable.new.text) vs (events its p.taken) less
    (c.variables_of-variables.ensures ∙ ap (λ (x : Ports). variables x p.taken) c.ports-ports.ensures) refl
    (e ∙ ap (λ (t : List ℕ). t ++ V) c.in_ok-push_str-in-Missing.ensures.bytes ∙ append_assoc o (codes "there is no value of ") V)))

pub returns-in_ok-put_known-in-Value : goal.returns-in_ok-put_known-in-Value
returns-in_ok-put_known-in-Value c =
    let sys = system_of c.args.system.now in
    let p = c.args.port in
    let its = ports_at sys (path_at sys p.instance) in
    let vs : List Variable = c.variables_of-variables.result.now in
    let o : List ℕ = string_bytes c.args.text.now in
    let Q : List ℕ = quoted c.in-Value.value.now in
    let V : List ℕ = variable_text vs c.in-Value.index in
    let counted = c.count.ensures in
    let less : p.instance < length sys.paths = omega (arith, counted) in
    rw c.in-Value.is
    (on_ok c.put_variable-in-Value.result _ _ c.put_variable-in-Value.ensures
    (λ e.
    value_added sys p (value.Value c.in-Value.index c.in-Value.value) o (string_bytes c.put_variable-in-Value.new.text) vs (events its p.taken) less
    (c.variables_of-variables.ensures ∙ ap (λ (x : Ports). variables x p.taken) c.ports-ports.ensures) refl
    (e ∙ ap (λ (t : List ℕ). t ++ V) c.in_ok-put_known-in-Value.ensures ∙ two_and_one o Q (codes " is no value of ") V)))

pub returns-in_ok-push_str-in-More : goal.returns-in_ok-push_str-in-More
returns-in_ok-push_str-in-More c =
    let sys = system_of c.args.system.now in
    let p = c.args.port in
    let its = ports_at sys (path_at sys p.instance) in
    let o : List ℕ = string_bytes c.args.text.now in
    let R : List ℕ = quoted (without_feed c.in-More.rest.now) in
    let counted = c.count.ensures in
    let less : p.instance < length sys.paths = omega (arith, counted) in
    rw c.in-More.is
    (on_ok c.put_quoted.result _ _ c.put_quoted.ensures
    (λ e.
    value_added sys p (value.More c.in-More.rest) o (string_bytes c.put_quoted.new.text) (variables its p.taken) (events its p.taken) less refl refl
    (e ∙ ap (λ (w : List ℕ). string_bytes c.push_str-in-More.new.self ++ quoted w) c.without_feed.ensures ∙ ap (λ (t : List ℕ). t ++ R) c.in_ok-push_str-in-More.ensures.bytes
    ∙ append_assoc o (codes "after the event and its values comes ") R)))
