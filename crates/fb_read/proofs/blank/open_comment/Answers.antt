use Rattle.fb_read.proofs.lemmas.Common.{◌≡◌, ◌+◌, Some, None, drop, get_or, refl, sym, ap, ◌∙◌, rules, at, skip, step, stepped}
use Rattle.fb_read.proofs.lemmas.tokens.Comments.{begins-comment, in-comment, may-not-end, none-within, since-begun}
use Rattle.fb_read.proofs.lemmas.tokens.Skips.{skip_turn, skip_end}
use Rattle.fb_read.proofs.blank.open_comment.Goals as goal

pub unreachable-requires : goal.unreachable-requires
unreachable-requires c =
    let z = c.args.bytes.now in
    let t = skip_turn c.loop-i.state z c.loop-i.i c.loop-i-test.true in
    let s : step c.loop-i.state (get_or z c.loop-i.i 0) (at z (c.loop-i.i + 1)) ≡ None = search rules in
    let here : skip c.loop-i.state (drop c.loop-i.i z) ≡ Some (drop c.loop-i.i z) = t ∙ ap (stepped (λ next. skip next (drop (c.loop-i.i + 1) z)) (drop c.loop-i.i z)) s in
    let none : skip c.loop-i.state (drop c.loop-i.i z) ≡ None = c.loop-i.invariant.walked ∙ c.requires in
    absurd cc

pub loop-i-preserved : goal.loop-i-preserved
loop-i-preserved c =
    let z = c.args.bytes.now in
    let t = skip_turn c.loop-i.state z c.loop-i.i c.loop-i-test.true in
    let s : step c.loop-i.state (get_or z c.loop-i.i 0) (at z (c.loop-i.i + 1)) ≡ Some c.in-Some.next = search rules in
    let moved = sym (t ∙ ap (stepped (λ next. skip next (drop (c.loop-i.i + 1) z)) (drop c.loop-i.i z)) s) in
    record {
      walked = moved ∙ c.loop-i.invariant.walked;
      since = rw c.begun-before.ensures (moved ∙ since-begun c.loop-i.state z c.loop-i.i c.loop-i.before c.loop-i.invariant.since);
      there = λ n. rw c.begun-before.ensures (begins-comment c.loop-i.state c.in-Some.next _ _ c.loop-i.i c.loop-i.before z refl s c.loop-i.invariant.there n);
    }

pub returns-clause-within : goal.returns-clause-within
returns-clause-within c = none-within c.args.bytes.now c.loop-i.before (sym c.loop-i.invariant.since ∙ c.loop-i.invariant.walked ∙ c.requires)

pub returns-clause-there : goal.returns-clause-there
returns-clause-there c =
    let e = skip_end c.loop-i.state c.args.bytes.now c.loop-i.i c.loop-i-test.false in
    c.loop-i.invariant.there (in-comment c.loop-i.state (may-not-end c.loop-i.state (sym e ∙ c.loop-i.invariant.walked ∙ c.requires)))
