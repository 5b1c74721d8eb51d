use Rattle.fb_types.proofs.Common.{codes, [], sym, ◌∙◌, unwrap_or-slice_get, system_of}
use Rattle.fb_trace.proofs.lemmas.lines.PutPieces.{Puts-more, Fails-before, Fails-after, Gathers-after, Gathers-passed}
use Rattle.fb_trace.proofs.pieces.put_tick_and_resource.Goals as goal

pub returns-in_err-put_number : goal.returns-in_err-put_number
returns-in_err-put_number g c = Gathers-passed _ c.from_residual.ensures.1 (Fails-before _ (Fails-before (codes " ") c.in_err-put_number.ensures.part))

pub returns-in_err-put : goal.returns-in_err-put
returns-in_err-put g c =
    Gathers-passed _ c.from_residual-in_err-put.ensures.1
    (Fails-before _ (Fails-after c.in_ok-put_number.ensures.whole c.in_err-put.ensures.part))

pub returns : goal.returns
returns g c =
    let name = c.resource_name.ensures ∙ sym (unwrap_or-slice_get (system_of c.args.system.now).resource_names c.args.resource []) in
    Gathers-after _ (Puts-more c.in_ok-put_number.ensures.whole c.in_ok-put.ensures.whole) (rw name at c.put-2.ensures)
