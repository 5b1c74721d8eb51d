use Rattle.fb_inspect.proofs.lemmas.Common.{system_of, err_from_is_err_and, Page, refl}
use Rattle.fb_inspect.proofs.lemmas.reactions.Placed.{err_any}
use Rattle.fb_inspect.proofs.lemmas.dump.Ending.{none_sent, part_sent}
use Rattle.fb_inspect.proofs.lemmas.walk.Held.{refuses_any}
use Rattle.fb_inspect.proofs.dump.state_wave.StateWave.finish.Goals as goal

pub returns-in_err-end-clause-fault : goal.returns-in_err-end-clause-fault
returns-in_err-end-clause-fault g c =
    err_any c.from_residual.result _ (none_sent (system_of c.args.system.now) c.args.end c.args.self.now (g.W.Write.contents c.args.out.now))

pub returns-in_err-finish-clause-fault : goal.returns-in_err-finish-clause-fault
returns-in_err-finish-clause-fault g c =
    err_any c.from_residual-in_err-finish.result _ (none_sent (system_of c.args.system.now) c.args.end c.args.self.now (g.W.Write.contents c.args.out.now))

pub returns-clause-finishes : goal.returns-clause-finishes
returns-clause-finishes g c =
    record {
      over = c.in_ok-finish.ensures.over;
      rest = c.end.new.text.items;
      got = c.in_ok-flush.ensures.whole;
      whole = λ xs sent shown. c.in_ok-end.ensures xs sent shown;
    }

pub returns-in_err-flush-clause-fault : goal.returns-in_err-flush-clause-fault
returns-in_err-flush-clause-fault g c =
    let page : Page = record (c.args.self.now.page) { text = c.end.new.text } in
    err_any c.from_residual-in_err-flush.result _
    (part_sent (system_of c.args.system.now) c.args.end c.args.self.now page (g.W.Write.contents c.args.out.now) (g.W.Write.contents c.flush.new.out) c.in_err-flush.field-0.0
    (λ xs sent shown. c.in_ok-end.ensures xs sent shown) c.in_err-flush.ensures.part)

pub returns-in_err-finish-clause-refused : goal.returns-in_err-finish-clause-refused
returns-in_err-finish-clause-refused g c =
    let q = err_from_is_err_and c.from_residual-in_err-finish.result c.from_residual-in_err-finish.ensures.1 in
    rw (q.1, q.2) c.in_err-finish.ensures.refused

pub returns-in_err-finish-clause-kept : goal.returns-in_err-finish-clause-kept
returns-in_err-finish-clause-kept g c =
    let q = err_from_is_err_and c.from_residual-in_err-finish.result c.from_residual-in_err-finish.ensures.1 in
    rw (q.1, q.2) (refuses_any _ c.in_err-finish.field-0.0 (λ n. refl))
