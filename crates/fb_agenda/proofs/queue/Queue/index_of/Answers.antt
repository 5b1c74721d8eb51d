use Rattle.fb_types.proofs.Common.{◌≡◌, ◌<◌, ◌≤◌, length, get_or, true, false, sym, ap, subst, ◌∙◌, arith, is_eq, same_key}
use Rattle.fb_types.specs.declared.key.Key.{Key}
use Rattle.fb_types.proofs.lemmas.events.KeyLaws.{same_key_is}
use Rattle.fb_agenda.proofs.lemmas.Moments.{either_tick}
use Rattle.fb_agenda.proofs.lemmas.Queueing.{absent_all, indexed, numbers_length}
use Rattle.fb_agenda.proofs.queue.Queue.index_of.Goals as goal

pub returns-then-is_eq-clause-there : goal.returns-then-is_eq-clause-there
returns-then-is_eq-clause-there c =
    let q = c.self.inside in
    let k = c.args.key.now in
    let i = c.loop-index.index in
    let same : same_key k c.key_at.result ≡ true = ap is_eq (sym c.cmp.ensures) ∙ sym c.is_eq.ensures ∙ c.if-is_eq.true in
    let count = numbers_length q.tick q.resource q.waiting.items c.args.self.now c.self.view_is in
    let within : i < length c.args.self.now = omega (arith, count, c.loop-index-test.true, c.len-index-end.ensures) in
    indexed c.args.self.now i k within (λ d. c.key_at.ensures d ∙ sym (same_key_is k c.key_at.result same))

pub loop-index-preserved : goal.loop-index-preserved
loop-index-preserved c j d less =
    let k = c.args.key.now in
    let i = c.loop-index.index in
    let other : same_key k c.key_at.result ≡ false = ap is_eq (sym c.cmp.ensures) ∙ sym c.is_eq.ensures ∙ c.if-is_eq.false in
    let le : j ≤ i = omega (arith, less) in
    either_tick j i le (λ before. c.loop-index.invariant j d before)
    (λ at. subst (λ n. same_key k (get_or c.args.self.now n d).0 ≡ false) (sym at) (ap (λ (z : Key). same_key k z) (c.key_at.ensures d) ∙ other))

pub returns-clause-absent : goal.returns-clause-absent
returns-clause-absent c =
    let q = c.self.inside in
    let count = numbers_length q.tick q.resource q.waiting.items c.args.self.now c.self.view_is in
    absent_all c.args.key.now c.args.self.now (λ j d less. c.loop-index.invariant j d (omega (arith, count, less, c.loop-index-test.false, c.len-index-end.ensures)))
