use Rattle.fb_types.proofs.Common.{◌<◌, ◌++◌, List, ℕ, length, ap, sym, ◌∙◌, arith, Name}
use Rattle.fb_types.specs.declared.value.Value.{Value}
use Rattle.fb_coverage.proofs.lemmas.Listed.{listed_done, listed_next}
use Rattle.fb_inspect.specs.dump.Inner.{hidden_begun, hidden_code, value_by}
use Rattle.fb_inspect.proofs.dump.before.put_values.Goals as goal

pub loop-index-preserved : goal.loop-index-preserved
loop-index-preserved c = λ s same.
    let i = c.args.instance in
    let k = c.loop-index.index in
    let vars : List Name = c.args.variables.now in
    let n : Name = c.index-variables-index.result in
    let text : List ℕ = c.loop-index.text.items in
    let within : k < length vars = omega arith in
    listed_next (hidden_begun i s) vars k n text c.put_value.new.text.items _ within c.index-variables-index.is
    (c.in_ok-put_value.ensures ∙ ap (λ (v : Value). text ++ value_by (hidden_code i k) v) (c.value.ensures ∙ sym (same n)))
    (c.loop-index.invariant s same)

pub returns : goal.returns
returns c = λ s same.
    listed_done (hidden_begun c.args.instance s) c.args.variables.now c.loop-index.index c.loop-index.text.items _ (omega arith) (c.loop-index.invariant s same)
