use Rattle.fb_wave.proofs.lemmas.Finding.{has_three, no_second, no_third, second_whole, third_whole}
use Rattle.fb_wave.proofs.table.port_len.Goals as goal

pub returns-in_err-after_front-clause-three : goal.returns-in_err-after_front-clause-three
returns-in_err-after_front-clause-three c = rw c.from_residual-in_err-after_front.ensures (no_second c.args.text.now _ _ c.in_ok-resource.ensures c.in_err-after_front.ensures)

pub returns-in_err-sign-clause-three : goal.returns-in_err-sign-clause-three
returns-in_err-sign-clause-three c =
    rw c.from_residual-in_err-sign.ensures (second_whole c.args.text.now _ _ c.in_ok-resource.ensures _ c.in_ok-after_front.ensures c.in_err-sign.ensures)

pub returns-in_err-after_front-2-clause-three : goal.returns-in_err-after_front-2-clause-three
returns-in_err-after_front-2-clause-three c =
    rw c.from_residual-in_err-after_front-2.ensures
    (no_third c.args.text.now _ _ c.in_ok-resource.ensures _ c.in_ok-after_front.ensures _ _ c.in_ok-sign.ensures c.in_err-after_front-2.ensures)

pub returns-in_err-event-clause-three : goal.returns-in_err-event-clause-three
returns-in_err-event-clause-three c =
    rw c.from_residual-in_err-event.ensures
    (third_whole c.args.text.now _ _ c.in_ok-resource.ensures _ c.in_ok-after_front.ensures _ _ c.in_ok-sign.ensures _ c.in_ok-after_front-2.ensures c.in_err-event.ensures)

pub returns-clause-three : goal.returns-clause-three
returns-clause-three c =
    has_three c.args.text.now _ _ c.in_ok-resource.ensures _ c.in_ok-after_front.ensures _ _ c.in_ok-sign.ensures _ c.in_ok-after_front-2.ensures _ _ c.in_ok-event.ensures
