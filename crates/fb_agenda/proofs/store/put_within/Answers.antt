use Rattle.fb_types.proofs.Common.{◌∙◌, arith, rules, answers_always}
use Rattle.fb_agenda.proofs.lemmas.Lists.{absent_between, err_known}
use Rattle.fb_agenda.proofs.lemmas.Orders.{put_over, put_between, searchable}
use Rattle.fb_agenda.proofs.store.put_within.Goals as goal

-- the key is there, and its event is replaced
pub returns-in-Ok-clause-ok : goal.returns-in-Ok-clause-ok
returns-in-Ok-clause-ok c =
    let found = c.in-Ok.ensures.position (λ e. e.0) (answers_always _ _ _ (λ f a r g called. search rules)) in
    put_over c.args.key c.args.event c.args.row.now.items c.in-Ok.index c.requires (omega (arith, c.in-Ok.ensures.bound)) found

-- the event goes between the keys before its own and those after it
pub returns-in_ok-insert-in-Err-clause-ok : goal.returns-in_ok-insert-in-Err-clause-ok
returns-in_ok-insert-in-Err-clause-ok c =
    let es = c.args.row.now.items in
    let parted = c.in-Err.ensures.position (λ e. e.0) (answers_always _ _ _ (λ f a r g called. search rules)) (searchable c.args.key es c.requires) in
    c.in_ok-insert-in-Err.ensures.items
    ∙ put_between c.args.key c.args.event es c.in-Err.index (omega (arith, c.in-Err.ensures.bound)) (λ j d less. parted.0 j d (omega arith) less) (λ j d le less. parted.1 j d le less)

-- memory runs out only if the key is not there
pub returns-in_err-insert-in-Err-clause-absent : goal.returns-in_err-insert-in-Err-clause-absent
returns-in_err-insert-in-Err-clause-absent c =
    let es = c.args.row.now.items in
    let parted = c.in-Err.ensures.position (λ e. e.0) (answers_always _ _ _ (λ f a r g called. search rules)) (searchable c.args.key es c.requires) in
    err_known c.from_residual.result
    (absent_between c.args.key es c.in-Err.index (λ j d less. parted.0 j d (omega arith) less) (λ j d le less. parted.1 j d le less))
