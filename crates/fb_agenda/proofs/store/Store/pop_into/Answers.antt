use Rattle.fb_agenda.proofs.lemmas.Common.{◌<◌, refl, sym, subst, arith, IfNone, IfSome, BeginsAt, IsPopped}
use Rattle.fb_agenda.proofs.lemmas.Lists.{begins_empty, below_first}
use Rattle.fb_agenda.proofs.store.Store.pop_into.Goals as goal

pub returns-in_default-clause-popped : goal.returns-in_default-clause-popped
returns-in_default-clause-popped c = record { value = tt; none_before = tt; left = tt; kept = refl }

pub returns-in_default-clause-none : goal.returns-in_default-clause-none
returns-in_default-clause-none c some = absurd (some c.in_default.ensures.none)

pub returns-then-first-horizon-clause-popped : goal.returns-then-first-horizon-clause-popped
returns-then-first-horizon-clause-popped c = record { value = tt; none_before = tt; left = tt; kept = refl }

pub returns-then-first-horizon-clause-none : goal.returns-then-first-horizon-clause-none
returns-then-first-horizon-clause-none c some = (c.in-Some.first.now, omega (arith, c.if-first-horizon.true), c.in-Some.ensures.some)

pub returns-clause-popped : goal.returns-clause-popped
returns-clause-popped c = subst (λ o. IsPopped c.args.self.now c.pop_first.new.self o) (sym c.hold.ensures) c.pop_first.ensures.popped

pub returns-clause-below : goal.returns-clause-below
returns-clause-below c =
    subst (λ o. IfSome o (λ r. r.0.tick < c.args.horizon)) (sym c.hold.ensures)
    (below_first c.args.self.now c.pop_first.new.self c.in-Some.first.now c.args.horizon c.in-Some.ensures.some (omega (arith, c.if-first-horizon.false)) c.pop_first.result c.pop_first.ensures.popped)

pub returns-clause-none : goal.returns-clause-none
returns-clause-none c = subst (λ o. IfNone o (BeginsAt c.args.horizon c.args.self.now)) (sym c.hold.ensures) (begins_empty c.args.self.now c.args.horizon c.pop_first.result c.pop_first.ensures.none)
