use Rattle.fb_types.proofs.Common.{◌≡◌, true, false, sym, ap, subst, ◌∙◌, OnTrue}
use Rattle.fb_agenda.specs.Agendas.{Contents, IsClear, waiting}
use Rattle.fb_resource.specs.Takings.{Finds, with_event, with_next}
use Rattle.fb_resource.proofs.lemmas.Finding.{finds_alike, finds_clear, finds_taken}
use Rattle.fb_resource.proofs.next.find_next.Goals as goal
use Rattle.fb_resource.proofs.next.find_next.Goals.{else-least-horizon-via-then-least-horizon+else-is_clear, else-least-horizon-via-else-least-horizon}

pub returns-then-not-raised-clause-finds : goal.returns-then-not-raised-clause-finds
returns-then-not-raised-clause-finds c =
    let a = c.args.agenda.now in
    let is = c.take_least_into.ensures in
    let now = c.take_least_into.new.self in
    let least_event = c.take_least_into.new.least_event in
    subst (λ b. Finds c.args.horizon (with_next b c.args.least.now.key c.args.least.now.event a) c.take_least_into.result least_event.key least_event.event now) (sym c.if-not-raised.true)
    (finds_taken c.args.horizon a now c.take_least_into.result least_event.key least_event.event is.found is.below is.least is.left is.none is.kept)

pub returns-then-is_clear-clause-finds : goal.returns-then-is_clear-clause-finds
returns-then-is_clear-clause-finds c =
    let a = c.args.agenda.now in
    let k = c.args.least.now.key in
    let e = c.args.least.now.event in
    let clear = subst (λ b. OnTrue b (IsClear k.tick k.resource a)) c.if-is_clear.true c.is_clear.ensures.clear in
    subst (λ b. Finds c.args.horizon (with_next b k e a) true k e c.is_clear.new.self) (sym c.if-not-raised.false)
    (subst (λ (z : Contents). Finds c.args.horizon (with_event k e a) true k e z) (sym c.is_clear.ensures.kept) (finds_clear c.args.horizon a k e c.if-least-horizon.true clear))

pub returns-clause-finds : goal.returns-clause-finds
returns-clause-finds c =
    let k = c.args.least.now.key in
    let e = c.args.least.now.event in
    let b = c.args.raised in
    let mid = c.put_next.new.agenda in
    let kept : c.else-least-horizon.agenda ≡ c.args.agenda.now = elim c.else-least-horizon.branch [
      | else-least-horizon-via-then-least-horizon+else-is_clear w ↦ w.agenda-is ∙ w.is_clear.ensures.kept
      | else-least-horizon-via-else-least-horizon w ↦ w.agenda-is
    ] in
    let is = c.take_least_into-2.ensures in
    let now = c.take_least_into-2.new.self in
    let least_event = c.take_least_into-2.new.least_event in
    finds_alike c.args.horizon (with_next b k e c.args.agenda.now) mid now c.take_least_into-2.result least_event.key least_event.event
    (λ j. c.in_ok-put_next.ensures.put j ∙ ap (λ (z : Contents). waiting (with_next b k e z) j) kept)
    (finds_taken c.args.horizon mid now c.take_least_into-2.result least_event.key least_event.event is.found is.below is.least is.left is.none is.kept)
