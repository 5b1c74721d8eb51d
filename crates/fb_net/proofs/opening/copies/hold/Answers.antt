use Rattle.fb_net.proofs.lemmas.opening.OpeningCopies.{held_covers, held_keeps}
use Rattle.fb_net.proofs.opening.copies.hold.Goals as goal

pub returns-in_ok-hold_side-clause-covered : goal.returns-in_ok-hold_side-clause-covered
returns-in_ok-hold_side-clause-covered c =
    held_covers c.args.system.now c.facts.ensures.accepted c.facts.ensures.numbered c.args.resource c.args.held.now c.hold_side.new.held c.in-Some.source
    c.in-Some.ensures.within.variable c.in_ok-hold_side.ensures.here c.args.to c.in-Some.ensures.comes

pub returns-in_ok-hold_side-clause-kept : goal.returns-in_ok-hold_side-clause-kept
returns-in_ok-hold_side-clause-kept c =
    held_keeps c.args.system.now c.args.resource c.args.held.now c.hold_side.new.held c.in_ok-hold_side.ensures.kept
