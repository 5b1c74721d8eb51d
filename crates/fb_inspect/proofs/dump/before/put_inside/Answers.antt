use Rattle.fb_inspect.proofs.lemmas.Common.{◌≡◌, ℕ, List, ◌++◌, sym, ap, ◌∙◌, append_assoc, variable_names, Name, state_of, listed}
use Rattle.fb_wave.proofs.lemmas.Handing.{on_ok}
use Rattle.fb_inspect.specs.walk.Notes.{hidden_variables}
use Rattle.fb_inspect.specs.dump.Inner.{hidden_begun, state_changed}
use Rattle.fb_inspect.proofs.dump.before.put_inside.Goals as goal

pub returns : goal.returns
returns c = λ s kept.
    let i = c.args.instance in
    let old = c.args.text.now.items in
    let inside : List ℕ = listed (hidden_begun i s) 0 (variable_names (hidden_variables c.args.inside.now.block.now)) in
    let named : c.state_name-state.result.now ≡ state_of s.memory = c.state_name-state.ensures ∙ sym (ap state_of kept.memory_is) in
    on_ok c.put_values.result _ _ (c.put_values.ensures s kept.variables_are)
    (λ e.
    e ∙ ap (λ (ns : List Name). c.put_state.new.text.items ++ listed (hidden_begun i s) 0 ns) (c.as_slice-hidden.ensures.value ∙ c.requires)
    ∙ ap (λ (t : List ℕ). t ++ inside) (c.in_ok-put_state.ensures ∙ ap (λ (n : Name). old ++ state_changed i n) named)
    ∙ append_assoc old (state_changed i (state_of s.memory)) inside)
