use Rattle.fb_window.proofs.lemmas.Common.{◌≡◌, ◌++◌, List, Option, [], ◌∷◌, None, Some, sym, ap, ◌∙◌, subst, Vec, into_iter_items, Line, Resource, WindowDone, Ran, AreAwaited, IsHomeTo, resting_of}
use Rattle.fb_window.specs.Homes.{HasGiven}
use Rattle.fb_window.proofs.lemmas.phases.JobsGiven.{given_more}
use Rattle.fb_window.proofs.lemmas.phases.HomeIs.{awaited_ran, awaited_rested, done_awaited, home_ran, home_rested, resting_none, resting_some}
use Rattle.fb_window.proofs.lemmas.lines.FoundLines.{no_length}
use Rattle.fb_window.proofs.home.Home.admit.Goals as goal

pub returns-in-Some-rested-clause-home : goal.returns-in-Some-rested-clause-home
returns-in-Some-rested-clause-home c = λ i limit bounds xs lists index x at rested home.
    let was : resting_of x ≡ Some c.in-Some-rested.resource = sym rested ∙ c.in-Some-rested.is in
    let stop = resting_some x c.in-Some-rested.resource was in
    let first : into_iter_items c.args.pending.now ≡ c.in-Some.kept ∷ into_iter_items c.next.new.self = c.in-Some.ensures.items in
    home_rested i limit bounds xs lists index x c.in-Some.kept c.new.result (into_iter_items c.next.new.self) (into_iter_items c.args.dones.now) c.args.self.now c.push.new.self stop.0
    at stop.1
    (subst (λ (z : List (Vec Line)). IsHomeTo i limit bounds xs lists index z (into_iter_items c.args.dones.now) c.args.self.now) first home)
    (record {
      resources = c.in_ok-push.ensures.resources ∙ ap (λ (z : Resource). c.args.self.now.resources.items ++ z ∷ []) stop.2;
      pending = c.in_ok-push.ensures.pending;
      outboxes = c.in_ok-push.ensures.outboxes;
    })
    c.new.ensures.items

pub returns-in_ok-push-in-Some-Ran-clause-home : goal.returns-in_ok-push-in-Some-Ran-clause-home
returns-in_ok-push-in-Some-Ran-clause-home c = λ i limit bounds xs lists index x at rested home.
    let none : c.args.rested ≡ None = cc in
    let live = resting_none x (sym rested ∙ none) in
    let first : into_iter_items c.args.pending.now ≡ c.in-Some.kept ∷ into_iter_items c.next.new.self = c.in-Some.ensures.items in
    let done : into_iter_items c.args.dones.now ≡ Ran c.in-Some-Ran.resource c.in-Some-Ran.lines c.in-Some-Ran.sent c.in-Some-Ran.field-0-3 ∷ into_iter_items c.next-2.new.self =
    c.in-Some-Ran.ensures.items ∙ ap (λ (z : WindowDone). z ∷ into_iter_items c.next-2.new.self) c.in-Some-Ran.field-0-is in
    home_ran i limit bounds xs lists index x c.in-Some-Ran.resource c.in-Some.kept c.in-Some-Ran.lines c.in_ok-keep-in-Some-Ran.field-0 c.in-Some-Ran.sent c.in-Some-Ran.field-0-3
    (into_iter_items c.next.new.self) (into_iter_items c.next-2.new.self) c.args.self.now c.push-in-Some-Ran.new.self
    at live
    (subst (λ (z : List WindowDone). IsHomeTo i limit bounds xs lists index (c.in-Some.kept ∷ into_iter_items c.next.new.self) z c.args.self.now) done
    (subst (λ (z : List (Vec Line)). IsHomeTo i limit bounds xs lists index z (into_iter_items c.args.dones.now) c.args.self.now) first home))
    (record {
      resources = c.in_ok-push-in-Some-Ran.ensures.resources;
      pending = c.in_ok-push-in-Some-Ran.ensures.pending;
      outboxes = c.in_ok-push-in-Some-Ran.ensures.outboxes;
    })
    c.in_ok-keep-in-Some-Ran.ensures

pub returns-in-Some-rested-clause-awaited : goal.returns-in-Some-rested-clause-awaited
returns-in-Some-rested-clause-awaited c = λ rest a.
    let first : into_iter_items c.args.pending.now ≡ c.in-Some.kept ∷ into_iter_items c.next.new.self = c.in-Some.ensures.items in
    awaited_rested c.in-Some-rested.resource rest c.in-Some.kept (into_iter_items c.next.new.self) (into_iter_items c.args.dones.now)
    (subst (λ (o : Option Resource). AreAwaited (o ∷ rest) (c.in-Some.kept ∷ into_iter_items c.next.new.self) (into_iter_items c.args.dones.now)) c.in-Some-rested.is
    (subst (λ (z : List (Vec Line)). AreAwaited (c.args.rested ∷ rest) z (into_iter_items c.args.dones.now)) first a))

pub returns-in_ok-push-in-Some-Ran-clause-awaited : goal.returns-in_ok-push-in-Some-Ran-clause-awaited
returns-in_ok-push-in-Some-Ran-clause-awaited c = λ rest a.
    let none : c.args.rested ≡ None = cc in
    let first : into_iter_items c.args.pending.now ≡ c.in-Some.kept ∷ into_iter_items c.next.new.self = c.in-Some.ensures.items in
    awaited_ran rest c.in-Some.kept (into_iter_items c.next.new.self) c.in-Some-Ran.field-0 (into_iter_items c.next-2.new.self)
    (subst (λ (z : List WindowDone). AreAwaited (None ∷ rest) (c.in-Some.kept ∷ into_iter_items c.next.new.self) z) c.in-Some-Ran.ensures.items
    (subst (λ (o : Option Resource). AreAwaited (o ∷ rest) (c.in-Some.kept ∷ into_iter_items c.next.new.self) (into_iter_items c.args.dones.now)) none
    (subst (λ (z : List (Vec Line)). AreAwaited (c.args.rested ∷ rest) z (into_iter_items c.args.dones.now)) first a)))

pub unreachable-requires-in-None : goal.unreachable-requires-in-None
unreachable-requires-in-None c =
    let none = no_length (into_iter_items c.args.dones.now) (sym c.args.dones.now.rest.ok.0 ∙ c.in-None.ensures.cases.0) in
    done_awaited c.requires.0 (into_iter_items c.args.pending.now)
    (subst (λ (z : List WindowDone). AreAwaited (None ∷ c.requires.0) (into_iter_items c.args.pending.now) z) none
    (subst (λ (o : Option Resource). AreAwaited (o ∷ c.requires.0) (into_iter_items c.args.pending.now) (into_iter_items c.args.dones.now)) c.in_default-rested.is c.requires.1))

pub returns-in_ok-push-in-Some-Ran-clause-given : goal.returns-in_ok-push-in-Some-Ran-clause-given
returns-in_ok-push-in-Some-Ran-clause-given c = λ none all given.
    let first : into_iter_items c.args.pending.now ≡ c.in-Some.kept ∷ into_iter_items c.next.new.self = c.in-Some.ensures.items in
    let done : into_iter_items c.args.dones.now ≡ Ran c.in-Some-Ran.resource c.in-Some-Ran.lines c.in-Some-Ran.sent c.in-Some-Ran.field-0-3 ∷ into_iter_items c.next-2.new.self =
    c.in-Some-Ran.ensures.items ∙ ap (λ (z : WindowDone). z ∷ into_iter_items c.next-2.new.self) c.in-Some-Ran.field-0-is in
    given_more all c.in-Some.kept c.in-Some-Ran.lines c.in_ok-keep-in-Some-Ran.field-0 (into_iter_items c.next.new.self) c.in-Some-Ran.resource c.in-Some-Ran.sent c.in-Some-Ran.field-0-3
    (into_iter_items c.next-2.new.self) c.args.self.now c.push-in-Some-Ran.new.self
    (subst (λ (z : List WindowDone). HasGiven all (c.in-Some.kept ∷ into_iter_items c.next.new.self) z c.args.self.now) done
    (subst (λ (z : List (Vec Line)). HasGiven all z (into_iter_items c.args.dones.now) c.args.self.now) first given))
    c.in_ok-push-in-Some-Ran.ensures.pending c.in_ok-keep-in-Some-Ran.ensures
