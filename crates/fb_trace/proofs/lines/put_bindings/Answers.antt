use Rattle.fb_types.proofs.Common.{List, length, sym, ap, subst, ◌∙◌, length-map, Name, pair_up, values_text}
use Rattle.fb_system.specs.IndexLists.{variable_at}
use Rattle.fb_trace.specs.Progress.{Gathers}
use Rattle.fb_trace.proofs.lines.put_bindings.Goals as goal

pub put_values-requires-clause-counted : goal.put_values-requires-clause-counted
put_values-requires-clause-counted g c =
    let shown = c.shown_by-shown.result in
    ap length c.as_slice.ensures ∙ c.requires.belongs.values ∙ sym (ap length c.shown_by-shown.ensures.named)
    ∙ length-map shown.indexes.now (variable_at shown.variables.now)

pub put_values-requires-clause-within : goal.put_values-requires-clause-within
put_values-requires-clause-within g c = c.shown_by-shown.ensures.within

pub returns : goal.returns
returns g c =
    subst
    (λ (ns : List Name).
    Gathers (g.W.Write.contents c.args.out.now) (g.W.Write.contents c.put_values.new.out) c.args.page.now c.put_values.new.page (values_text (pair_up ns c.args.line.now.values))
    c.put_values.result)
    c.shown_by-shown.ensures.named (rw c.as_slice.ensures at c.put_values.ensures)
