use Rattle.fb_expect.proofs.lemmas.Common.{◌≡◌, ◌+◌, List, map, drop, sym, ◌∙◌, subst, arith, length-map, length-drop, text_of, each, Rule}
use Rattle.fb_expect.specs.Needs.{rule_of}
use Rattle.fb_expect.proofs.lemmas.documents.EachMayFail.{done, fails, more, next_seen, with_front}
use Rattle.fb_expect.proofs.rules.each_rule.Goals as goal

pub loop-draft-preserved : goal.loop-draft-preserved
loop-draft-preserved c =
    let ds = c.args.drafts.now in
    let i = c.loop-draft.draft-index in
    subst (λ (rs : List Rule). each rule_of (map text_of ds) ≡ with_front rs (each rule_of (map text_of (drop (i + 1) ds)))) (sym c.in_ok-push-in-Some.ensures.ok)
    (more rule_of c.loop-draft.rules _ (map text_of (drop (i + 1) ds)) _ _ _ (next_seen text_of ds i c.draft-item.result c.loop-draft-test.true c.draft-item.is) (sym c.in_ok-rule.ensures ∙ c.in-Some.is) c.loop-draft.invariant)

pub returns-in-None : goal.returns-in-None
returns-in-None c =
    let ds = c.args.drafts.now in
    let i = c.loop-draft.draft-index in
    fails rule_of c.loop-draft.rules _ (map text_of (drop (i + 1) ds)) _ _ (next_seen text_of ds i c.draft-item.result c.loop-draft-test.true c.draft-item.is) (sym c.in_ok-rule.ensures ∙ c.in-None.is) c.loop-draft.invariant

pub returns : goal.returns
returns c =
    done rule_of c.loop-draft.rules (map text_of (drop c.loop-draft.draft-index c.args.drafts.now)) _
    (omega (arith, length-map (drop c.loop-draft.draft-index c.args.drafts.now) text_of, length-drop c.loop-draft.draft-index c.args.drafts.now)) c.loop-draft.invariant
