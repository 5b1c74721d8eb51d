use Rattle.fb_agenda.proofs.lemmas.Lists.{few_popped_split, front_popped, least_popped, many_popped_split, popped_few, popped_many, rest_rises}
use Rattle.fb_agenda.proofs.store.Store.pop_first.Goals as goal

-- ---- From the row

pub invariant_of-self : goal.invariant_of-self
invariant_of-self c =
    let row = c.self.inside.row.items in
    let split = c.self.invariant in
    let rest = c.pop_front.new.self.items in
    let o = c.pop_front.result in
    let items = c.pop_front.ensures.items in
    few_popped_split row c.self.inside.map.entries split rest o (rest_rises row rest split.rising o items) (front_popped row rest split.rising o items)

pub returns-then-is_row_first-clause-popped : goal.returns-then-is_row_first-clause-popped
returns-then-is_row_first-clause-popped c =
    let row = c.self.inside.row.items in
    let split = c.self.invariant in
    let rest = c.pop_front.new.self.items in
    rw (← c.self.view_is)
    (popped_few row c.self.inside.map.entries split c.if-is_row_first.ensures.row rest c.pop_front.result (front_popped row rest split.rising c.pop_front.result c.pop_front.ensures.items))

-- ---- From the map

pub invariant_of-self-else-is_row_first : goal.invariant_of-self-else-is_row_first
invariant_of-self-else-is_row_first c =
    let map = c.self.inside.map.entries in
    let new = c.pop_first.new.self.entries in
    let facts = c.pop_first.ensures in
    many_popped_split c.self.inside.row.items map c.self.invariant new c.pop_first.result (least_popped map new (λ p u. u.0) c.pop_first.result facts.value facts.least facts.updates facts.unchanged)

pub returns-else-is_row_first-clause-popped : goal.returns-else-is_row_first-clause-popped
returns-else-is_row_first-clause-popped c =
    let map = c.self.inside.map.entries in
    let new = c.pop_first.new.self.entries in
    let facts = c.pop_first.ensures in
    rw (← c.self.view_is)
    (popped_many c.self.inside.row.items map c.self.invariant c.if-is_row_first.ensures.map new c.pop_first.result (least_popped map new (λ p u. u.0) c.pop_first.result facts.value facts.least facts.updates facts.unchanged))
