use Rattle.fb_agenda.proofs.lemmas.Common.{List, [], ◌∷◌, ◌++◌, ap, ◌∙◌, Key, Event}
use Rattle.fb_agenda.proofs.lemmas.Lists.{absent_past, err_known}
use Rattle.fb_agenda.proofs.lemmas.Orders.{put_last}
use Rattle.fb_agenda.proofs.store.put_in_row.Goals as goal

pub returns-in_ok-make_room-clause-ok : goal.returns-in_ok-make_room-clause-ok
returns-in_ok-make_room-clause-ok c = c.push_back_reserved.ensures.items ∙ ap (λ (es : List (Key × Event)). es ++ (c.args.key, c.args.event) ∷ []) c.in_ok-make_room.ensures.items ∙ put_last c.args.key c.args.event c.args.row.now.items c.if-is_past.ensures

pub returns-in_err-make_room-clause-absent : goal.returns-in_err-make_room-clause-absent
returns-in_err-make_room-clause-absent c = err_known c.from_residual.result (absent_past c.args.key c.args.row.now.items c.if-is_past.ensures)
