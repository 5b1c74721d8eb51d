use Rattle.fb_expect.proofs.lemmas.Common.{◌≡◌, ◌+◌, ℕ, Bor, List, [], map, drop, sym, ◌∙◌, subst, arith, length-map, length-drop, each}
use Rattle.fb_expect.specs.Written.{condition_of}
use Rattle.fb_expect.specs.declared.pattern.Condition.{Condition}
use Rattle.fb_expect.proofs.lemmas.documents.EachMayFail.{done, fails, more, next_at, with_front}
use Rattle.fb_expect.proofs.lemmas.texts.JoinedTexts.{part_at}
use Rattle.fb_expect.proofs.pattern.conditions_of.Goals as goal

abbrev now : Bor (List ℕ) → List ℕ
now w = w.now

abbrev none : Bor (List ℕ)
none = record { ref_ptr = (0, 0); now = [] }

pub loop-word-preserved : goal.loop-word-preserved
loop-word-preserved c =
    let ws = c.args.words.now in
    let i = c.loop-word.word-index in
    let next = next_at now ws i none c.loop-word-test.true in
    subst (λ (cs : List Condition). each condition_of (map now ws) ≡ with_front cs (each condition_of (map now (drop (i + 1) ws)))) (sym c.in_ok-push-in-Some.ensures.ok)
    (more condition_of c.loop-word.found (part_at ws i) (map now (drop (i + 1) ws)) _ _ _ next (sym c.in_ok-condition.ensures ∙ c.in-Some.is) c.loop-word.invariant)

pub returns-in-None : goal.returns-in-None
returns-in-None c =
    let ws = c.args.words.now in
    let i = c.loop-word.word-index in
    let next = next_at now ws i none c.loop-word-test.true in
    fails condition_of c.loop-word.found (part_at ws i) (map now (drop (i + 1) ws)) _ _ next (sym c.in_ok-condition.ensures ∙ c.in-None.is) c.loop-word.invariant

pub returns : goal.returns
returns c =
    done condition_of c.loop-word.found (map now (drop c.loop-word.word-index c.args.words.now)) _
    (omega (arith, length-map (drop c.loop-word.word-index c.args.words.now) now, length-drop c.loop-word.word-index c.args.words.now)) c.loop-word.invariant
