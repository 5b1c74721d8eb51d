use Rattle.std.proofs.Common.{[], ◌∷◌, decimal}
use Rattle.fb_trace.proofs.lemmas.lines.PutPieces.{Puts-more, Fails-first, Fails-after, Gathers-after, Gathers-passed}
use Rattle.fb_trace.proofs.last.put_horizon.Goals as goal

pub returns-in_err-put : goal.returns-in_err-put
returns-in_err-put g c =
    Gathers-passed _ c.from_residual.ensures.1 (Fails-first (decimal c.args.horizon ∷ (10 ∷ []) ∷ []) c.in_err-put.ensures.part)

pub returns-in_err-put_number : goal.returns-in_err-put_number
returns-in_err-put_number g c =
    Gathers-passed _ c.from_residual-in_err-put_number.ensures.1
    (Fails-first ((10 ∷ []) ∷ []) (Fails-after c.in_ok-put.ensures.whole c.in_err-put_number.ensures.part))

pub returns : goal.returns
returns g c = Gathers-after _ (Puts-more c.in_ok-put.ensures.whole c.in_ok-put_number.ensures.whole) c.put-2.ensures
