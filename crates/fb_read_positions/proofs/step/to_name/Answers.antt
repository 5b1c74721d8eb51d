use Rattle.std.proofs.Common.{◌≡◌, ℕ, suc, ◌+◌, ◌-◌, true, ap, sym, ◌∙◌, length, arith}
use Rattle.fb_read.specs.Parser.{rest_of, sees_name}
use Rattle.fb_read.specs.Tokens.{Tokens}
use Rattle.fb_read_positions.specs.Walks.{to_name}
use Rattle.fb_read_positions.proofs.lemmas.ReadingLoops.{at_name, fewer, moved_name, none_named, past_name, past_other}
use Rattle.fb_read_positions.proofs.step.to_name.Goals.{then-sees_name+else-before-eq0, else-sees_name}
use Rattle.fb_read_positions.proofs.step.to_name.Goals as goal

pub returns-then-before-eq0 : goal.returns-then-before-eq0
returns-then-before-eq0 c =
    let none : c.loop-turn.before ≡ 0 = omega arith in
    let seen : sees_name c.loop-turn.cursor ≡ true = sym c.sees_name.ensures ∙ c.if-sees_name.true in
    c.loop-turn.invariant.0 ∙ ap (λ (n : ℕ). to_name c.loop-turn.cursor n) none ∙ at_name c.loop-turn.cursor seen

pub loop-turn-preserved : goal.loop-turn-preserved
loop-turn-preserved c =
    let ts = c.loop-turn.cursor in
    let n = c.loop-turn.before in
    let more : c.left-turn-end.result - c.loop-turn._turn ≡ suc (c.left-turn-end.result - (c.loop-turn._turn + 1)) = omega (arith, c.loop-turn-test.true) in (
      elim c.if-sees_name.branch [
        | then-sees_name+else-before-eq0 w ↦
            let some : n ≡ suc (n - 1) = omega (arith, w.if-before-eq0.false) in
            c.loop-turn.invariant.0 ∙ ap (λ (m : ℕ). to_name ts m) some ∙ past_name ts (n - 1) (sym c.sees_name.ensures ∙ w.if-sees_name.true)
            ∙ moved_name (rest_of ts) c.take.new.self (n - 1) c.if-sees_name.before c.take.ensures w.before-is
        | else-sees_name w ↦
            c.loop-turn.invariant.0 ∙ past_other ts n (sym c.sees_name.ensures ∙ w.if-sees_name.false)
            ∙ moved_name (rest_of ts) c.take.new.self n c.if-sees_name.before c.take.ensures w.before-is
      ],
      ap (λ (x : Tokens). length x) c.take.ensures ∙ fewer ts (c.left-turn-end.result - (c.loop-turn._turn + 1)) (c.loop-turn.invariant.1 ∙ more),
    )

pub returns : goal.returns
returns c =
    let over : c.left-turn-end.result - c.loop-turn._turn ≡ 0 = omega (arith, c.loop-turn-test.false) in
    c.loop-turn.invariant.0 ∙ none_named c.loop-turn.cursor c.loop-turn.before (c.loop-turn.invariant.1 ∙ over)
