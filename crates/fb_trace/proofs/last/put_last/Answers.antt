use Rattle.fb_types.proofs.Common.{[], ◌∷◌, codes, system_of, tick_and_resource_text, reason_text}
use Rattle.fb_trace.proofs.lemmas.lines.PutPieces.{Puts-more, Fails-first, Fails-after, Gathers-after, Gathers-passed}
use Rattle.fb_trace.proofs.last.put_last.Goals as goal

pub returns-in-End : goal.returns-in-End
returns-in-End g c = rw c.in-End.is c.put_horizon.ensures

pub returns-in_err-put-in-Stop : goal.returns-in_err-put-in-Stop
returns-in_err-put-in-Stop g c =
    rw c.in-Stop.is
    (let m = c.in-Stop.mark in
    Gathers-passed _ c.from_residual.ensures.1
    (Fails-first (tick_and_resource_text (system_of c.args.system.now) m.tick m.resource ∷ codes " " ∷ reason_text m.reason ∷ (10 ∷ []) ∷ []) c.in_err-put-in-Stop.ensures.part))

pub returns-in_err-put_tick_and_resource-in-Stop : goal.returns-in_err-put_tick_and_resource-in-Stop
returns-in_err-put_tick_and_resource-in-Stop g c =
    rw c.in-Stop.is
    (Gathers-passed _ c.from_residual-in_err-put_tick_and_resource-in-Stop.ensures.1
    (Fails-first (codes " " ∷ reason_text c.in-Stop.mark.reason ∷ (10 ∷ []) ∷ []) (Fails-after c.in_ok-put-in-Stop.ensures.whole c.in_err-put_tick_and_resource-in-Stop.ensures.part)))

pub returns-in_err-put-in-Stop-2 : goal.returns-in_err-put-in-Stop-2
returns-in_err-put-in-Stop-2 g c =
    rw c.in-Stop.is
    (Gathers-passed _ c.from_residual-in_err-put-in-Stop-2.ensures.1
    (Fails-first (reason_text c.in-Stop.mark.reason ∷ (10 ∷ []) ∷ [])
    (Fails-after (Puts-more c.in_ok-put-in-Stop.ensures.whole c.in_ok-put_tick_and_resource-in-Stop.ensures.whole) c.in_err-put-in-Stop-2.ensures.part)))

pub returns-in_err-put-in-Stop-3 : goal.returns-in_err-put-in-Stop-3
returns-in_err-put-in-Stop-3 g c =
    rw c.in-Stop.is
    (Gathers-passed _ c.from_residual-in_err-put-in-Stop-3.ensures.1
    (Fails-first ((10 ∷ []) ∷ [])
    (Fails-after
    (Puts-more (Puts-more c.in_ok-put-in-Stop.ensures.whole c.in_ok-put_tick_and_resource-in-Stop.ensures.whole) c.in_ok-put-in-Stop-2.ensures.whole)
    (rw c.reason_name.ensures at c.in_err-put-in-Stop-3.ensures.part))))

pub returns-in_ok-put-in-Stop-3 : goal.returns-in_ok-put-in-Stop-3
returns-in_ok-put-in-Stop-3 g c =
    rw c.in-Stop.is
    (Gathers-after _
    (Puts-more
    (Puts-more (Puts-more c.in_ok-put-in-Stop.ensures.whole c.in_ok-put_tick_and_resource-in-Stop.ensures.whole) c.in_ok-put-in-Stop-2.ensures.whole)
    (rw c.reason_name.ensures at c.in_ok-put-in-Stop-3.ensures.whole))
    c.put-in-Stop-3.ensures)
