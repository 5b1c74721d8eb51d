use Rattle.std.proofs.Common.{◌-◌, length, drop, sym, ◌∙◌, ap}
use Rattle.fb_read_positions.specs.Resumed.{Leaves, Refuses}
use Rattle.fb_read_positions.specs.Walks.{to_first}
use Rattle.fb_read_positions.proofs.lemmas.TokensLeft.{where_none, where_some}
use Rattle.fb_read_positions.proofs.lemmas.ResumedWalks.{item_within, no_first_item}
use Rattle.fb_read_positions.proofs.resume.reach_within.Goals as goal

pub returns-in_default : goal.returns-in_default
returns-in_default c =
    let i = c.args.item in
    let here = c.last-here.result.now in
    no_first_item c.args.tokens.now here i c.args.owner.left c.requires.owner.at c.last-here.ensures
    (where_none (Refuses (to_first i.list) here) (Leaves (to_first i.list) here) _ c.in_default.is c.in_ok-first.ensures)

pub returns : goal.returns
returns c =
    let i = c.args.item in
    let ps = c.args.tokens.now in
    let here = c.last-here.result.now in
    let first : Leaves (to_first i.list) here c.in-Some.first =
    where_some (Refuses (to_first i.list) here) (Leaves (to_first i.list) here) _ c.in-Some.first c.in-Some.is c.in_ok-first.ensures in
    c.stop_at.ensures ps c.requires.owner.reached
    (item_within ps here i c.args.owner.left c.requires.owner.at c.last-here.ensures c.last.result.now first.0 _ first.1
    (c.last.ensures ∙ ap (λ k. drop (length here - k) here) (sym first.2)) c.in_ok-left.ensures)
