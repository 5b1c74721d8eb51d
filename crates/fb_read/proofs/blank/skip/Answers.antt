use Rattle.fb_read.proofs.lemmas.Common.{◌≡◌, ◌+◌, Some, None, drop, get_or, sym, ap, ◌∙◌, rules, true, false, at, skip, step, stepped, may_end}
use Rattle.std.proofs.lemmas.List.{take_rest}
use Rattle.fb_read.proofs.lemmas.tokens.Skips.{skip_turn, skip_end}
use Rattle.fb_read.proofs.blank.skip.Goals as goal

pub returns-in-None-clause-value : goal.returns-in-None-clause-value
returns-in-None-clause-value c =
    let z = c.args.bytes.now in
    let t = skip_turn c.loop-i.state z c.loop-i.i c.loop-i-test.true in
    let s : step c.loop-i.state (get_or z c.loop-i.i 0) (at z (c.loop-i.i + 1)) ≡ None = search rules in
    rw (take_rest z c.loop-i.i) (sym (ap (stepped (λ next. skip next (drop (c.loop-i.i + 1) z)) (drop c.loop-i.i z)) s) ∙ sym t ∙ c.loop-i.invariant)

pub loop-i-preserved : goal.loop-i-preserved
loop-i-preserved c =
    let z = c.args.bytes.now in
    let t = skip_turn c.loop-i.state z c.loop-i.i c.loop-i-test.true in
    let s : step c.loop-i.state (get_or z c.loop-i.i 0) (at z (c.loop-i.i + 1)) ≡ Some c.in-Some.next = search rules in
    sym (t ∙ ap (stepped (λ next. skip next (drop (c.loop-i.i + 1) z)) (drop c.loop-i.i z)) s) ∙ c.loop-i.invariant

pub returns-then-may_end-clause-value : goal.returns-then-may_end-clause-value
returns-then-may_end-clause-value c =
    let e = skip_end c.loop-i.state c.args.bytes.now c.loop-i.i c.loop-i-test.false in
    let b : may_end c.loop-i.state ≡ true = search rules in
    sym (rw b at e) ∙ c.loop-i.invariant

pub returns-else-may_end-clause-value : goal.returns-else-may_end-clause-value
returns-else-may_end-clause-value c =
    let e = skip_end c.loop-i.state c.args.bytes.now c.loop-i.i c.loop-i-test.false in
    let b : may_end c.loop-i.state ≡ false = search rules in
    sym (rw b at e) ∙ c.loop-i.invariant
