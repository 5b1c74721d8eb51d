use Rattle.fb_types.proofs.Common.{inr, refl, system_of}
use Rattle.fb_wave.proofs.lemmas.Copied.{unfinished_part}
use Rattle.fb_wave.proofs.lemmas.Handing.{ok_passed, on_passed}
use Rattle.fb_wave.proofs.lemmas.Unread.{read_end, read_refused_at, read_unfinished}
use Rattle.fb_wave.proofs.copy.Progress.finish.Goals as goal

pub returns-clause-whole : goal.returns-clause-whole
returns-clause-whole g c =
    record {
      after = c.if-not-can_end.ensures.0 refl;
      over = c.in_ok-is_over.ensures.over c.if-not-branch.false;
      sent = c.end.new.text.items;
      got = c.in_ok-flush.ensures.whole;
      whole = c.in_ok-end.ensures;
    }

pub returns-in_err-flush-clause-whole : goal.returns-in_err-flush-clause-whole
returns-in_err-flush-clause-whole g c = ok_passed c.from_residual-in_err-flush.result _ _ c.from_residual-in_err-flush.ensures.1

pub returns-in_err-end-clause-whole : goal.returns-in_err-end-clause-whole
returns-in_err-end-clause-whole g c = ok_passed c.from_residual.result _ _ c.from_residual.ensures.1

pub returns-in_err-is_over-clause-whole : goal.returns-in_err-is_over-clause-whole
returns-in_err-is_over-clause-whole g c = ok_passed c.from_residual-in_err-is_over.result _ _ c.from_residual-in_err-is_over.ensures.1

pub returns-in_err-end-clause-part : goal.returns-in_err-end-clause-part
returns-in_err-end-clause-part g c = on_passed _ _ _ c.from_residual.ensures.1 refl

pub returns-in_err-is_over-clause-part : goal.returns-in_err-is_over-clause-part
returns-in_err-is_over-clause-part g c =
    on_passed _ _ _ c.from_residual-in_err-is_over.ensures.1 (read_unfinished (system_of c.args.system.now) c.args.self.now (g.W.Write.contents c.args.out.now) _ c.in_err-is_over.ensures.fault)

pub returns-in_err-is_over-clause-refused : goal.returns-in_err-is_over-clause-refused
returns-in_err-is_over-clause-refused g c = on_passed _ _ _ c.from_residual-in_err-is_over.ensures.1 (read_end c.args.end _ _ _ _ c.in_err-is_over.ensures.fault)

pub returns-in_err-is_over-clause-current : goal.returns-in_err-is_over-clause-current
returns-in_err-is_over-clause-current g c = on_passed _ _ _ c.from_residual-in_err-is_over.ensures.1 (read_refused_at c.args.end _ _ _ _ _ _ c.in_err-is_over.ensures.fault)

pub returns-in_err-flush-clause-part : goal.returns-in_err-flush-clause-part
returns-in_err-flush-clause-part g c =
    on_passed _ _ _ c.from_residual-in_err-flush.ensures.1
    (unfinished_part (system_of c.args.system.now) c.args.self.now (record c.args.self.now.page { text = c.end.new.text }) c.args.end _ _ refl
    c.in_ok-end.ensures c.in_err-flush.field-0.0 c.in_err-flush.ensures.part)

pub returns-then-not-branch-clause-refused : goal.returns-then-not-branch-clause-refused
returns-then-not-branch-clause-refused g c = inr (refl, c.if-not-can_end.ensures.0 refl, c.in_ok-is_over.ensures.more c.if-not-branch.true)

pub returns-then-not-branch-clause-current : goal.returns-then-not-branch-clause-current
returns-then-not-branch-clause-current g c = inr (refl, c.if-not-can_end.ensures.0 refl, c.in_ok-is_over.ensures.line)
