use Rattle.std.proofs.Common.{Option, refl, sym, ◌∙◌, ap, subst}
use Rattle.fb_read_positions.specs.Resumed.{IsStop, Refuses}
use Rattle.fb_read_positions.specs.Walks.{to_item_if}
use Rattle.fb_read_positions.specs.declared.lists.Item.{Item}
use Rattle.fb_read_positions.proofs.lemmas.TokensLeft.{where_none, where_some}
use Rattle.fb_read_positions.proofs.lemmas.ResumedWalks.{no_owner, owner_is, stop_as, stop_at_start}
use Rattle.fb_read_positions.proofs.resume.+reach_item.Goals as goal

pub returns-in_default : goal.returns-in_default
returns-in_default t c = stop_at_start c.args.tokens.now _ _ (ap to_item_if c.in_default.is) refl c.requires.reached

pub reach_within-requires-clause-owner : goal.reach_within-requires-clause-owner
reach_within-requires-clause-owner t c =
    let ps = c.args.tokens.now in
    let w = to_item_if c.owner_of.result in
    stop_as ps _ w c.in-Some-3.owner (owner_is c.in-Some.item.list ∙ ap to_item_if (sym c.owner_of.ensures))
    (where_some (Refuses w ps) (IsStop ps w) _ c.in-Some-3.owner c.in-Some-3.is c.in_ok-owner.ensures)

pub returns-in-None : goal.returns-in-None
returns-in-None t c =
    let ps = c.args.tokens.now in
    let i = c.in-Some.item in
    let w = to_item_if c.owner_of.result in
    subst (λ (o : Option Item). Refuses (to_item_if o) ps) (sym c.in-Some.is)
    (no_owner ps i w (owner_is i.list ∙ ap to_item_if (sym c.owner_of.ensures)) (where_none (Refuses w ps) (IsStop ps w) _ c.in-None.is c.in_ok-owner.ensures))
