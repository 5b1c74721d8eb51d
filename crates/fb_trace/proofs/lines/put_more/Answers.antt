use Rattle.fb_types.proofs.Common.{List, ℕ, ◌<◌, append-nil, drop, length, sym, ap, subst, ◌∙◌, length-map, system_of, line_of, values_text}
use Rattle.std.proofs.lemmas.List.Elements.{All-drop, All-take}
use Rattle.fb_system.specs.IndexLists.{variable_at}
use Rattle.fb_trace.specs.Progress.{Fails, Gathers, Puts}
use Rattle.fb_trace.proofs.lemmas.lines.LineStarts.{others_counted, others_sliced}
use Rattle.fb_trace.proofs.lemmas.lines.PutPieces.{Gathers-after, Gathers-passed}
use Rattle.fb_trace.proofs.lines.put_more.Goals as goal

pub put_values-requires-clause-counted : goal.put_values-requires-clause-counted
put_values-requires-clause-counted g c =
    let shown = c.shown_by-shown.result in
    others_counted c.as_slice-values.result.now shown.indexes.now
    (ap length c.as_slice-values.ensures ∙ c.requires.belongs.values ∙ sym (ap length c.shown_by-shown.ensures.named)
    ∙ length-map shown.indexes.now (variable_at shown.variables.now))

pub put_values-requires-clause-within : goal.put_values-requires-clause-within
put_values-requires-clause-within g c =
    let fits : ℕ → Type 0 = λ k. k < length c.shown_by-shown.result.variables.now in
    All-take fits _ _ (All-drop fits 1 _ c.shown_by-shown.ensures.within)

pub returns-clause-text : goal.returns-clause-text
returns-clause-text g c =
    let sys = system_of c.args.system.now in
    let l = c.args.line.now in
    let shown = c.shown_by-shown.result in
    let old = g.W.Write.contents c.args.out.now in
    let between = g.W.Write.contents c.put_values.new.out in
    let new = g.W.Write.contents c.make_room.new.out in
    let page = c.args.page.now in
    let whole =
    subst (λ (t : List ℕ). Puts old between page c.put_values.new.page t)
    (others_sliced sys l shown.variables.now shown.indexes.now c.shown_by-shown.ensures) (rw c.as_slice-values.ensures at c.in_ok-put_values.ensures.whole) in
    subst (λ (t : List ℕ). Gathers old new page c.make_room.new.self t c.make_room.result) (append-nil (values_text (drop 1 (line_of sys l).values)))
    (Gathers-after c.make_room.result whole c.make_room.ensures.text)

pub returns-in_err-put_values-clause-text : goal.returns-in_err-put_values-clause-text
returns-in_err-put_values-clause-text g c =
    let sys = system_of c.args.system.now in
    let l = c.args.line.now in
    let shown = c.shown_by-shown.result in
    let old = g.W.Write.contents c.args.out.now in
    let between = g.W.Write.contents c.put_values.new.out in
    Gathers-passed _ c.from_residual.ensures.1
    (subst (λ (t : List ℕ). Fails old between c.args.page.now t c.in_err-put_values.field-0.0.written)
    (others_sliced sys l shown.variables.now shown.indexes.now c.shown_by-shown.ensures) (rw c.as_slice-values.ensures at c.in_err-put_values.ensures.part))
