use Rattle.fb_expect.proofs.lemmas.Common.{List, Some, refl, subst, sym, ◌∙◌, Waiting}
use Rattle.fb_expect.specs.Paired.{IsInTime, IsOverdue, seen_line}
use Rattle.fb_expect.proofs.lemmas.pairs.Coupled.{on-late, on-overdue, on-time-ok}
use Rattle.fb_expect.proofs.pairs.Pairs.take.Goals as goal

pub returns-then-is_some : goal.returns-then-is_some
returns-then-is_some c =
    let a = c.args in
    on-late a.within a.taken.line a.pairing.now a.self.now (seen_line a.taken) (sym c.is_some.ensures ∙ c.if-is_some.true)

pub returns-in-Some : goal.returns-in-Some
returns-in-Some c =
    let a = c.args in
    on-overdue a.within a.taken.line a.pairing.now a.self.now (record a.self.now { late = Some c.in-Some.late }) (seen_line a.taken) c.in-Some.late (sym c.is_some.ensures ∙ c.if-is_some.false)
    (subst (λ (ws : List Waiting). IsOverdue a.within a.taken.hit.tick ws c.in-Some.late) c.as_slice.ensures.value c.in-Some.ensures) refl

pub returns-in-None : goal.returns-in-None
returns-in-None c =
    let a = c.args in
    on-time-ok c.pair.result a.within a.taken.line a.pairing.now a.self.now c.pair.new.self (seen_line a.taken) (sym c.is_some.ensures ∙ c.if-is_some.false)
    (subst (λ (ws : List Waiting). IsInTime a.within a.taken.hit.tick ws) c.as_slice.ensures.value c.in-None.ensures) c.pair.ensures.late c.pair.ensures.waiting
