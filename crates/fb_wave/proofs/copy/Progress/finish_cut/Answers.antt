use Rattle.std.proofs.Common.{refl}
use Rattle.fb_wave.specs.Copying.{IsCutUnfinished}
use Rattle.fb_wave.proofs.lemmas.Severed.{unfinished_cut}
use Rattle.fb_wave.proofs.lemmas.Handing.{ok_passed, on_passed}
use Rattle.fb_wave.proofs.copy.Progress.finish_cut.Goals as goal

pub returns-clause-whole : goal.returns-clause-whole
returns-clause-whole g c sys =
    record { sent = c.cut_off.new.text.items; got = c.in_ok-flush.ensures.whole; whole = c.in_ok-cut_off.ensures sys }

pub returns-in_err-cut_off-clause-whole : goal.returns-in_err-cut_off-clause-whole
returns-in_err-cut_off-clause-whole g c sys = ok_passed c.from_residual.result _ _ c.from_residual.ensures.1

pub returns-in_err-cut_off-clause-part : goal.returns-in_err-cut_off-clause-part
returns-in_err-cut_off-clause-part g c sys = on_passed _ _ (IsCutUnfinished sys c.args.self.now _ _) c.from_residual.ensures.1 refl

pub returns-in_err-flush-clause-whole : goal.returns-in_err-flush-clause-whole
returns-in_err-flush-clause-whole g c sys = ok_passed c.from_residual-in_err-flush.result _ _ c.from_residual-in_err-flush.ensures.1

pub returns-in_err-flush-clause-part : goal.returns-in_err-flush-clause-part
returns-in_err-flush-clause-part g c sys =
    on_passed _ _ (IsCutUnfinished sys c.args.self.now _ _) c.from_residual-in_err-flush.ensures.1
    (unfinished_cut sys c.args.self.now (record c.args.self.now.page { text = c.cut_off.new.text }) _ _ refl (c.in_ok-cut_off.ensures sys)
    c.in_err-flush.field-0.0 c.in_err-flush.ensures.part)
