use Rattle.fb_inspect.proofs.lemmas.Common.{◌+◌, ◌++◌, ◌∙◌, ℕ, List, ap, subst, sym, Appends, err_from_is_err_and, Page, refl}
use Rattle.fb_inspect.proofs.lemmas.walk.Ended.{nothing_sent, short_sent}
use Rattle.fb_inspect.proofs.lemmas.reactions.Placed.{err_any}
use Rattle.fb_inspect.proofs.lemmas.walk.Held.{refuses_any}
use Rattle.fb_inspect.proofs.walk.Walk.finish.Goals as goal

pub returns-in_err-put_line-clause-fault : goal.returns-in_err-put_line-clause-fault
returns-in_err-put_line-clause-fault g c = err_any c.from_residual.result _ (nothing_sent c.args.self.now (g.W.Write.contents c.args.out.now))

pub returns-in_err-finish-clause-fault : goal.returns-in_err-finish-clause-fault
returns-in_err-finish-clause-fault g c = err_any c.from_residual-in_err-finish.result _ (nothing_sent c.args.self.now (g.W.Write.contents c.args.out.now))

pub returns-clause-finishes : goal.returns-clause-finishes
returns-clause-finishes g c =
    let text = c.args.self.now.trail.page.text.items in
    record {
      over = c.in_ok-finish.ensures.over;
      got = subst (Appends (g.W.Write.contents c.args.out.now) (g.W.Write.contents c.flush.new.out)) (c.in_ok-put_line.ensures ∙ ap (λ (t : List ℕ). text ++ t) c.as_slice-line.ensures.value)
          c.in_ok-flush.ensures.whole;
    }

pub returns-in_err-flush-clause-fault : goal.returns-in_err-flush-clause-fault
returns-in_err-flush-clause-fault g c =
    let text = c.args.self.now.trail.page.text.items in
    let page : Page = record (c.args.self.now.trail.page) { text = c.put_line.new.text } in
    let sent = short_sent (g.W.Write.contents c.args.out.now) (g.W.Write.contents c.flush.new.out) page c.in_err-flush.field-0.0 c.in_err-flush.ensures.part in
    err_any c.from_residual-in_err-flush.result _
    (record {
      got = sent.0;
      rest = sent.1;
      parts = sym (c.in_ok-put_line.ensures ∙ ap (λ (t : List ℕ). text ++ t) c.as_slice-line.ensures.value) ∙ sent.2.0;
      appended = sent.2.1;
    })

pub returns-in_err-finish-clause-refused : goal.returns-in_err-finish-clause-refused
returns-in_err-finish-clause-refused g c =
    let q = err_from_is_err_and c.from_residual-in_err-finish.result c.from_residual-in_err-finish.ensures.1 in
    rw (q.1, q.2) c.in_err-finish.ensures.refused

pub returns-in_err-finish-clause-kept : goal.returns-in_err-finish-clause-kept
returns-in_err-finish-clause-kept g c =
    let q = err_from_is_err_and c.from_residual-in_err-finish.result c.from_residual-in_err-finish.ensures.1 in
    rw (q.1, q.2) (refuses_any _ c.in_err-finish.field-0.0 (λ n. refl))
