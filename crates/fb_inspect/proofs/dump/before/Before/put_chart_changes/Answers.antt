use Rattle.fb_inspect.proofs.lemmas.Common.{◌≡◌, ℕ, List, ◌++◌, length, map, sym, ap, ◌∙◌, append_assoc, length-map, variable_names, Name, state_of, listed, hidden_change}
use Rattle.fb_wave.proofs.lemmas.Handing.{on_ok}
use Rattle.fb_inspect.specs.walk.Notes.{hidden_variables}
use Rattle.fb_inspect.specs.dump.Inner.{lost_change, state_change}
use Rattle.fb_inspect.proofs.dump.before.Before.put_chart_changes.Goals as goal

regroup : (o a b d : List ℕ) → ((o ++ a) ++ b) ++ d ≡ o ++ ((a ++ b) ++ d)
regroup o a b d = simp append_assoc

pub put_value_changes-requires : goal.put_value_changes-requires
put_value_changes-requires c =
    let saved = c.requires.saved.1 in
    ap length (c.as_slice-values.ensures.value ∙ saved.values_are) ∙ length-map (variable_names (hidden_variables c.args.inside.now.block.now)) c.requires.saved.0.variables
    ∙ ap length (sym (c.as_slice-hidden.ensures.value ∙ c.requires.hidden))

pub returns : goal.returns
returns c = λ a b saved kept.
    let i = c.args.instance in
    let t = c.args.inside.now.block.now in
    let old = c.args.text.now.items in
    let names = c.as_slice-hidden.ensures.value ∙ c.requires.hidden in
    let inside : List ℕ = listed (hidden_change i a b) 0 (variable_names (hidden_variables t)) in
    let lost : List ℕ = lost_change i c.args.is_lost in
    let was : c.state_name-before.result.now ≡ state_of a.memory = c.state_name-before.ensures ∙ sym saved.state_is in
    let now : c.state_name-after.result.now ≡ state_of b.memory = c.state_name-after.ensures ∙ sym (ap state_of kept.memory_is) in
    let values : c.as_slice-values.result.now ≡ map a.variables c.as_slice-hidden.result.now = c.as_slice-values.ensures.value ∙ saved.values_are ∙ ap (map a.variables) (sym names) in
    on_ok c.put_lost.result _ _ c.put_lost.ensures
    (λ e.
    e
    ∙ ap (λ (u : List ℕ). u ++ lost)
    (c.in_ok-put_value_changes.ensures a b values kept.variables_are ∙ ap (λ (ns : List Name). c.put_state_change.new.text.items ++ listed (hidden_change i a b) 0 ns) names
    ∙ ap (λ (u : List ℕ). u ++ inside)
    (c.in_ok-put_state_change.ensures ∙ ap (λ (n : Name). old ++ state_change i n c.state_name-after.result.now) was ∙ ap (λ (n : Name). old ++ state_change i (state_of a.memory) n) now))
    ∙ regroup old (state_change i (state_of a.memory) (state_of b.memory)) inside lost)
