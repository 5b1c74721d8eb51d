use Rattle.fb_inspect.proofs.lemmas.Common.{◌<◌, List, length, sym, ◌∙◌, arith, Name, hidden_change}
use Rattle.fb_coverage.proofs.lemmas.Listed.{listed_done, listed_next}
use Rattle.fb_inspect.proofs.lemmas.dump.Changing.{change_as, value_at}
use Rattle.fb_inspect.proofs.dump.before.put_value_changes.Goals as goal

pub loop-index-preserved : goal.loop-index-preserved
loop-index-preserved c = λ a b values same.
    let i = c.args.instance in
    let k = c.loop-index.index in
    let vars : List Name = c.args.variables.now in
    let n : Name = c.index-variables-index.result in
    let within : k < length vars = omega arith in
    listed_next (hidden_change i a b) vars k n c.loop-index.text.items c.put_value_change.new.text.items _ within c.index-variables-index.is
    (c.in_ok-put_value_change.ensures
    ∙ change_as c.loop-index.text.items i k n a b _ _ (value_at c.args.before.now a.variables vars k n _ values within c.index-variables-index.is) (c.value.ensures ∙ sym (same n)))
    (c.loop-index.invariant a b values same)

pub returns : goal.returns
returns c = λ a b values same.
    listed_done (hidden_change c.args.instance a b) c.args.variables.now c.loop-index.index c.loop-index.text.items _ (omega arith) (c.loop-index.invariant a b values same)
