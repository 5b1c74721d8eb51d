use Rattle.fb_net.proofs.lemmas.Common.{◌≡◌, arith, rules, subst, sym, Remembered, StillAreOuts, IsForest, Outbox, Forest}
use Rattle.fb_types.proofs.Common.{common_steps}
use Rattle.fb_net.specs.Events.{HasTaken}
use Rattle.fb_net.proofs.tree.Tree.deliver.Goals as goal

pub invariant_of-self : goal.invariant_of-self
invariant_of-self c =
    let w = c.requires.belongs.0 in
    let whole = c.arrive.ensures.taken.kept.whole w (subst (λ (f : Forest). IsForest c.args.system.now f w) (sym c.self.view_is) c.requires.belongs.1) in
    (first_of (omega arith, search rules, grind (arith, common_steps)), ∣ record { inputs = c.args.system.now; accepted = c.facts.ensures.accepted; world = whole.0; represents = whole.1 } ∣₁)

pub returns-clause-whole : goal.returns-clause-whole
returns-clause-whole c =
    let w = c.requires.belongs.0 in
    c.arrive.ensures.taken.kept.whole w (subst (λ (f : Forest). IsForest c.args.system.now f w) (sym c.self.view_is) c.requires.belongs.1)

pub returns-clause-outs : goal.returns-clause-outs
returns-clause-outs c =
    let e : c.arrive.new.self.outbox.now ≡ c.outbox-1.given.0 = search rules in
    subst (λ (x : Outbox). Remembered c.arrive.result (StillAreOuts c.args.system.now c.args.self.now c.args.outbox.now c.arrive.new.self.forest.now x)) e
    (subst (λ (f : Forest). Remembered c.arrive.result (StillAreOuts c.args.system.now f c.args.outbox.now c.arrive.new.self.forest.now c.arrive.new.self.outbox.now))
    c.self.view_is c.arrive.ensures.taken.outs)

pub returns-clause-taken : goal.returns-clause-taken
returns-clause-taken c =
    let e : c.arrive.new.self.outbox.now ≡ c.outbox-1.given.0 = search rules in
    subst (λ (x : Outbox). HasTaken c.args.system.now c.args.key.now c.args.event.now c.args.self.now c.args.outbox.now c.args.meter.now.left c.arrive.result c.arrive.new.self.forest.now c.arrive.new.meter.left x) e
    (subst (λ (f : Forest). HasTaken c.args.system.now c.args.key.now c.args.event.now f c.args.outbox.now c.args.meter.now.left c.arrive.result c.arrive.new.self.forest.now c.arrive.new.meter.left c.arrive.new.self.outbox.now)
    c.self.view_is c.arrive.ensures.taken.taken)
