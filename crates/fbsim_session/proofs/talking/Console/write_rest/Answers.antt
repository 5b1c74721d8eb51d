use Rattle.std.proofs.Common.{refl}
use Rattle.fbsim_session.proofs.lemmas.Pieces.{ends_failed, ends_flushed}
use Rattle.fbsim_session.proofs.lemmas.Telling.{concludes_passed, ended, ended_count, failed, has_failed}
use Rattle.fbsim_session.proofs.talking.Console.write_rest.Goals as goal

pub end-requires-clause-stands : goal.end-requires-clause-stands
end-requires-clause-stands g c = let h = c.requires.told.1 in (h.past, h.stands)

pub returns-in_err-flush-in-Ok-Over : goal.returns-in_err-flush-in-Ok-Over
returns-in_err-flush-in-Ok-Over g c = λ x h.
    let whole = (rw c.in-Ok-Over.field-0-is at c.in-Ok-Over.ensures) in
    concludes_passed x _ c.in_err-flush-in-Ok-Over.field-0.0 c.from_residual.result c.from_residual.ensures.1
    (ends_failed x _ _ _ (ended x _ _ h _ _ _ c.end.new.self whole) (record { session = c.end.new.self; answered = c.args.self.now.answered }) (ended_count x _ _ h _ _ _ (record { session = c.end.new.self; answered = c.args.self.now.answered }) whole refl) _
    c.in_err-flush-in-Ok-Over.ensures.flushes)

pub returns-in_ok-flush-in-Ok-Over : goal.returns-in_ok-flush-in-Ok-Over
returns-in_ok-flush-in-Ok-Over g c = λ x h.
    ends_flushed x _ _ _ (ended x _ _ h _ _ _ c.end.new.self (rw c.in-Ok-Over.field-0-is at c.in-Ok-Over.ensures)) c.in_ok-flush-in-Ok-Over.ensures.flushes

pub returns-in-Err : goal.returns-in-Err
returns-in-Err g c = λ x h. failed x _ _ h c.requires.running (record { session = c.end.new.self; answered = c.args.self.now.answered }) _ _ _ (has_failed _ _ _ _ _ c.args.tick c.requires.running c.in-Err.ensures) refl c.failed.ensures
