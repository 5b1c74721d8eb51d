use Rattle.fb_expect.proofs.lemmas.Common.{◌≡◌, ℕ, List, [], ◌∷◌, ◌+◌, ◌-◌, ◌++◌, length, length-drop, take_all, drop, get_or, ◌∙◌, sym, ap, ap₂, arith}
use Rattle.std.proofs.Common.{rules}
use Rattle.fb_expect.specs.Shown.{hidden_by, shown, shown_after, shown_byte}
use Rattle.fb_expect.proofs.lemmas.texts.ShownTexts.{shown-all, shown-more, shown-skips}
use Rattle.fb_expect.proofs.shown.shown.Goals as goal
use Rattle.fb_expect.proofs.shown.shown.Goals.{then-skipped-eq0+in_ok-push, else-skipped-eq0}

pub loop-index-preserved : goal.loop-index-preserved
loop-index-preserved c =
    let z = c.args.part.now in
    let i = c.loop-index.index in
    let l = c.loop-index in
    elim c.if-skipped-eq0.branch [
      | then-skipped-eq0+in_ok-push w ↦
          (let hidden = w.hidden_by-hidden.result in
          let put : w.push.new.self.items ≡ l.text.items ++ shown_byte hidden (get_or z i 0) ∷ [] = search (rules, w.shown_byte.ensures) in
          ap₂ (λ (t : List ℕ) (k : ℕ). t ++ shown_after k (drop (i + 1) z)) (ap (λ v. v.items) w.text-is) w.skipped-is
          ∙ shown-more z i l.text.items w.push.new.self.items l.skipped hidden w.saturating_sub-skipped.result c.loop-index-test.true w.if-skipped-eq0.true
          (w.hidden_by-hidden.ensures ∙ ap (hidden_by (get_or z i 0)) (take_all (length z - (i + 1)) (drop (i + 1) z) (omega (arith, length-drop (i + 1) z))))
          (omega (arith, w.saturating_sub-skipped.ensures)) put
          ∙ l.invariant)
      | else-skipped-eq0 w ↦
          (ap₂ (λ (t : List ℕ) (k : ℕ). t ++ shown_after k (drop (i + 1) z)) (ap (λ v. v.items) w.text-is) w.skipped-is
          ∙ shown-skips z i l.text.items l.skipped (l.skipped - 1) c.loop-index-test.true (omega (arith, w.if-skipped-eq0.false))
          ∙ l.invariant)
    ]

pub returns : goal.returns
unfolding shown
returns c =
    sym (shown-all c.args.part.now c.loop-index.index c.loop-index.text.items c.loop-index.skipped (omega (arith, c.loop-index-test.false))) ∙ c.loop-index.invariant
