use Rattle.fb_wave.specs.declared.page.Page.{Page}
use Rattle.fb_inspect.proofs.lemmas.reactions.Placed.{err_any}
use Rattle.fb_inspect.proofs.lemmas.dump.Ending.{none_cut_sent, part_cut_sent}
use Rattle.fb_inspect.proofs.dump.state_wave.StateWave.finish_cut.Goals as goal

pub returns-in_err-cut_off-clause-fault : goal.returns-in_err-cut_off-clause-fault
returns-in_err-cut_off-clause-fault g c = λ sys. err_any c.from_residual.result _ (none_cut_sent sys c.args.self.now (g.W.Write.contents c.args.out.now))

pub returns-clause-finishes : goal.returns-clause-finishes
returns-clause-finishes g c = λ sys.
    record { rest = c.cut_off.new.text.items; got = c.in_ok-flush.ensures.whole; whole = λ xs us sent shown. c.in_ok-cut_off.ensures sys xs us sent shown }

pub returns-in_err-flush-clause-fault : goal.returns-in_err-flush-clause-fault
returns-in_err-flush-clause-fault g c = λ sys.
    let page : Page = record (c.args.self.now.page) { text = c.cut_off.new.text } in
    err_any c.from_residual-in_err-flush.result _
    (part_cut_sent sys c.args.self.now page (g.W.Write.contents c.args.out.now) (g.W.Write.contents c.flush.new.out) c.in_err-flush.field-0.0
    (λ xs us sent shown. c.in_ok-cut_off.ensures sys xs us sent shown) c.in_err-flush.ensures.part)
