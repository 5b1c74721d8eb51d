use Rattle.fb_types.proofs.Common.{◌≡◌, deque_len, length, arith, rules, answers_always}
use Rattle.fb_agenda.proofs.lemmas.Lists.{index_found, index_none}
use Rattle.fb_agenda.proofs.store.index_of.Goals as goal

pub returns-clause-there : goal.returns-clause-there
returns-clause-there c =
    let es = c.args.row.now.items in
    let k = c.args.key.now in
    let found = c.binary_search_by_key.ensures.position (λ e. e.0) (answers_always _ _ _ (λ f a r g called. search rules)) in
    rw c.ok.ensures.value (index_found es k c.binary_search_by_key.result (deque_len c.args.row.now) (let e : deque_len c.args.row.now ≡ length es = omega arith in e) c.binary_search_by_key.ensures.bound found)

pub returns-clause-absent : goal.returns-clause-absent
returns-clause-absent c =
    let es = c.args.row.now.items in
    let k = c.args.key.now in
    let found = c.binary_search_by_key.ensures.position (λ e. e.0) (answers_always _ _ _ (λ f a r g called. search rules)) in
    rw c.ok.ensures.value (index_none es k c.requires c.binary_search_by_key.result found)
