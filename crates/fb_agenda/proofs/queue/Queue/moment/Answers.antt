use Rattle.fb_agenda.proofs.lemmas.Common.{true, List, ap, map, sym, subst, ◌∙◌, arith, Key, Target, AreRising, keyed, local_events}
use Rattle.fb_agenda.specs.Moments.{IsMomentOf}
use Rattle.fb_agenda.proofs.lemmas.Queueing.{empty_if, moment_of_first, some_if}
use Rattle.fb_agenda.proofs.queue.Queue.moment.Goals as goal

pub returns-then-is_empty-clause-none : goal.returns-then-is_empty-clause-none
returns-then-is_empty-clause-none c =
    let q = c.self.inside in
    ap local_events (empty_if true _ q.tick q.resource q.waiting.items c.args.self.now c.self.view_is (sym c.if-is_empty.true ∙ c.is_empty.ensures) (omega arith))

pub returns-clause-some : goal.returns-clause-some
returns-clause-some c =
    let q = c.self.inside in
    let es = q.waiting.items in
    let rising : AreRising (local_events (map (keyed q.tick q.resource) es)) = subst (λ (l : List (Key × Target)). AreRising (local_events l)) (sym c.self.view_is) c.requires in
    subst (λ (l : List (Key × Target)). IsMomentOf (local_events l) (record { tick = q.tick; resource = q.resource })) c.self.view_is
    (moment_of_first q.tick q.resource es rising (some_if c.is_empty.result _ es c.is_empty.ensures c.if-is_empty.false (omega arith)))
