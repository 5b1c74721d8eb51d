use Rattle.fb_inspect.proofs.lemmas.Common.{◌∙◌, subst, sym, Appends, Page}
use Rattle.fb_inspect.proofs.lemmas.walk.Ended.{no_cut_sent, short_sent}
use Rattle.fb_inspect.proofs.lemmas.reactions.Placed.{err_any}
use Rattle.fb_inspect.proofs.walk.Walk.finish_cut.Goals as goal

pub returns-in_err-put_cut-clause-fault : goal.returns-in_err-put_cut-clause-fault
returns-in_err-put_cut-clause-fault g c = err_any c.from_residual.result _ (no_cut_sent c.args.self.now (g.W.Write.contents c.args.out.now))

pub returns-clause-finishes : goal.returns-clause-finishes
returns-clause-finishes g c =
    record { got = subst (Appends (g.W.Write.contents c.args.out.now) (g.W.Write.contents c.flush.new.out)) c.in_ok-put_cut.ensures c.in_ok-flush.ensures.whole }

pub returns-in_err-flush-clause-fault : goal.returns-in_err-flush-clause-fault
returns-in_err-flush-clause-fault g c =
    let page : Page = record (c.args.self.now.trail.page) { text = c.put_cut.new.text } in
    let sent = short_sent (g.W.Write.contents c.args.out.now) (g.W.Write.contents c.flush.new.out) page c.in_err-flush.field-0.0 c.in_err-flush.ensures.part in
    err_any c.from_residual-in_err-flush.result _
    (record { got = sent.0; rest = sent.1; parts = sym c.in_ok-put_cut.ensures ∙ sent.2.0; appended = sent.2.1 })
