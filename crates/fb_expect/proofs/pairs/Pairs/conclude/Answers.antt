use Rattle.fb_expect.proofs.lemmas.Common.{◌≡◌, ℕ, List, Option, false, length, ap, subst, sym, ◌∙◌, arith, is_some, eq-eqb, true≢false, Waiting, Breach}
use Rattle.fb_types.proofs.Common.{eqb-true}
use Rattle.fb_expect.specs.Paired.{IsInTime, IsOverdue}
use Rattle.fb_expect.proofs.lemmas.pairs.Coupled.{end-holds, end-late, end-open, end-over}
use Rattle.fb_expect.proofs.pairs.Pairs.conclude.Goals as goal

pub returns-in-Some : goal.returns-in-Some
returns-in-Some c = λ p. end-late c.args.within p c.args.self.now c.args.end c.in-Some.late c.in-Some.is

pub returns-in-Some-overdue : goal.returns-in-Some-overdue
returns-in-Some-overdue c = λ p.
    let off : is_some c.args.self.now.late ≡ false = ap (λ (o : Option Breach). is_some o) c.in-None.is in
    end-over c.args.within p c.args.self.now c.args.end c.in-Some-overdue.late off
    (subst (λ (t : ℕ). IsOverdue c.args.within t c.args.self.now.waiting.items c.in-Some-overdue.late) c.tick.ensures
    (subst (λ (ws : List Waiting). IsOverdue c.args.within c.tick.result ws c.in-Some-overdue.late) c.as_slice.ensures.value c.in-Some-overdue.ensures))

pub returns-then-is_empty : goal.returns-then-is_empty
returns-then-is_empty c = λ p.
    let off : is_some c.args.self.now.late ≡ false = ap (λ (o : Option Breach). is_some o) c.in-None.is in
    let none : length c.args.self.now.waiting.items ≡ 0 = omega (arith, eqb-true _ 0 (sym c.is_empty.ensures ∙ c.if-is_empty.true), c.args.self.now.waiting.ok.0) in
    end-holds c.args.within p c.args.self.now c.args.end off none

pub returns-else-is_empty : goal.returns-else-is_empty
returns-else-is_empty c = λ p.
    let off : is_some c.args.self.now.late ≡ false = ap (λ (o : Option Breach). is_some o) c.in-None.is in
    let some : length c.args.self.now.waiting.items ≡ 0 → ⊥ = λ none.
    true≢false (sym (eq-eqb _ 0 (omega (arith, none, c.args.self.now.waiting.ok.0))) ∙ sym c.is_empty.ensures ∙ c.if-is_empty.false)
    in
    end-open c.args.within p c.args.self.now c.args.end off some
    (subst (λ (t : ℕ). IsInTime c.args.within t c.args.self.now.waiting.items) c.tick.ensures
    (subst (λ (ws : List Waiting). IsInTime c.args.within c.tick.result ws) c.as_slice.ensures.value c.in-None-overdue.ensures))
