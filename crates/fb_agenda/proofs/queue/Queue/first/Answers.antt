use Rattle.fb_agenda.proofs.lemmas.Common.{List, map, refl, sym, subst, arith, Key, Target, AreRising, IsFirst, keyed, local_events}
use Rattle.fb_agenda.proofs.lemmas.Queueing.{first_number}
use Rattle.fb_agenda.proofs.queue.Queue.first.Goals as goal

pub returns-clause-some : goal.returns-clause-some
returns-clause-some c =
    let q = c.self.inside in
    let es = q.waiting.items in
    let facts = c.in_ok-number.ensures in
    let rising : AreRising (local_events (map (keyed q.tick q.resource) es)) = subst (λ (l : List (Key × Target)). AreRising (local_events l)) (sym c.self.view_is) c.requires in
    let first = first_number q.tick q.resource es c.in_ok-number.field-0.now rising (omega (arith, facts.variant.0 refl)) facts.lookup in
    subst (λ (l : List (Key × Target)). IsFirst (local_events l) c.local.result) c.self.view_is
    (subst (λ (k : Key). IsFirst (local_events (map (keyed q.tick q.resource) es)) k) (sym c.local.ensures) first)
