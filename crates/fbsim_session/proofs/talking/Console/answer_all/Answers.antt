use Rattle.fbsim_session.proofs.lemmas.Telling.{concludes_passed}
use Rattle.fbsim_session.proofs.talking.Console.answer_all.Goals as goal

pub returns-in_err-list_rows : goal.returns-in_err-list_rows
returns-in_err-list_rows g c = λ x h.
    concludes_passed x _ c.in_err-list_rows.field-0.0 c.from_residual.result c.from_residual.ensures.1 (c.in_err-list_rows.ensures x h)

pub loop-init : goal.loop-init
loop-init g c = λ x h. c.in_ok-list_rows.ensures x h

pub answer_next-requires : goal.answer_next-requires
answer_next-requires g c = let t = c.requires.told in record { told = (t.0, c.loop.invariant t.0 t.1) }

pub end_of_input-requires : goal.end_of_input-requires
end_of_input-requires g c = let t = c.requires.told in record { told = (t.0, c.loop.invariant t.0 t.1) }

pub returns-in_err-told : goal.returns-in_err-told
returns-in_err-told g c = λ x h.
    concludes_passed x _ c.in_err-told.field-0.0 c.from_residual-in_err-told.result c.from_residual-in_err-told.ensures.1
    (c.in_err-told.ensures x (c.loop.invariant x h))

pub returns-in-Some : goal.returns-in-Some
returns-in-Some g c = λ x h. let e = (c.in_ok-told.ensures x (c.loop.invariant x h)) in rw c.in-Some.is at e

pub loop-preserved : goal.loop-preserved
loop-preserved g c = λ x h. let e = (c.in_ok-told.ensures x (c.loop.invariant x h)) in rw c.in-None.is at e

pub returns : goal.returns
returns g c = λ x h. c.end_of_input.ensures x (c.loop.invariant x h)
