use Rattle.std.proofs.Common.{List, sym, ap, subst}
use Rattle.fb_read.specs.Tokens.{tokens_of}
use Rattle.fb_read_positions.specs.Lists.{item_of}
use Rattle.fb_read_positions.specs.Resumed.{IsStop, Leaves, Refuses}
use Rattle.fb_read_positions.specs.Walks.{pass, to_item_if, to_part}
use Rattle.fb_read_positions.specs.declared.step.Step.{Step}
use Rattle.fb_read_positions.proofs.lemmas.TokensLeft.{where_none, where_some}
use Rattle.fb_read_positions.proofs.lemmas.ResumedWalks.{at_position, no_item, no_part, stop_as, taken_once}
use Rattle.fb_read_positions.proofs.resume.reach.Goals as goal

pub returns-in_default : goal.returns-in_default
returns-in_default c =
    let ps = c.args.tokens.now in
    let w = to_item_if c.item_of.result in
    no_item ps c.args.position w (ap to_item_if (sym c.item_of.ensures)) (where_none (Refuses w ps) (IsStop ps w) _ c.in_default.is c.in_ok-at_item.ensures)

pub returns-in-Some-2 : goal.returns-in-Some-2
returns-in-Some-2 c =
    let ps = c.args.tokens.now in
    let p = c.args.position in
    let rest = c.last.result.now in
    let at_item = c.in-Some.at_item in
    let w = to_item_if c.item_of.result in
    let stop : IsStop ps (to_item_if (item_of p)) at_item =
    stop_as ps _ w at_item (ap to_item_if (sym c.item_of.ensures)) (where_some (Refuses w ps) (IsStop ps w) _ at_item c.in-Some.is c.in_ok-at_item.ensures) in
    let steps = c.to_part.result.now in
    let passed : Leaves (pass steps 1) rest c.in-Some-2.left = where_some (Refuses (pass steps 1) rest) (Leaves (pass steps 1) rest) _ c.in-Some-2.left c.in-Some-2.is c.in_ok-left.ensures in
    let part : Leaves (pass (to_part p) 1) rest c.in-Some-2.left = subst (λ (taken : List Step). Leaves (pass taken 1) rest c.in-Some-2.left) c.to_part.ensures passed in
    record {
      at = (part.0, at_position ps p at_item.left (tokens_of rest) stop.at (ap tokens_of c.last.ensures) part.0 (taken_once (to_part p) (tokens_of rest) part.0 part.1), part.2);
      reached = stop.reached;
    }

pub returns-in-None : goal.returns-in-None
returns-in-None c =
    let ps = c.args.tokens.now in
    let p = c.args.position in
    let rest = c.last.result.now in
    let at_item = c.in-Some.at_item in
    let w = to_item_if c.item_of.result in
    let stop : IsStop ps (to_item_if (item_of p)) at_item =
    stop_as ps _ w at_item (ap to_item_if (sym c.item_of.ensures)) (where_some (Refuses w ps) (IsStop ps w) _ at_item c.in-Some.is c.in_ok-at_item.ensures) in
    let steps = c.to_part.result.now in
    no_part ps p at_item.left (tokens_of rest) stop.at (ap tokens_of c.last.ensures) steps c.to_part.ensures
    (where_none (Refuses (pass steps 1) rest) (Leaves (pass steps 1) rest) _ c.in-None.is c.in_ok-left.ensures)
