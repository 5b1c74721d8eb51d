use Rattle.fb_expect.proofs.lemmas.Common.{◌≡◌, ◌+◌, List, map, drop, sym, ap, ◌∙◌, subst, arith, length-map, length-drop, Name, each}
use Rattle.toml.specs.View.{view}
use Rattle.fb_expect.specs.Drafts.{text_in, texts_in}
use Rattle.fb_expect.specs.Needs.{name_of}
use Rattle.fb_expect.proofs.lemmas.documents.EachMayFail.{done, fails, more, next_seen, with_front}
use Rattle.fb_expect.proofs.rules.names_of.Goals as goal

pub loop-value-preserved : goal.loop-value-preserved
loop-value-preserved c =
    let vs = c.args.values.now in
    let i = c.loop-value.value-index in
    let next = ap texts_in (next_seen view vs i c.value-item.result c.loop-value-test.true c.value-item.is) in
    subst (λ (ns : List Name). each name_of (texts_in (map view vs)) ≡ with_front ns (each name_of (texts_in (map view (drop (i + 1) vs))))) (sym c.in_ok-push-in-Some.ensures.ok)
    (more name_of c.loop-value.names (text_in (view c.value-item.result)) (texts_in (map view (drop (i + 1) vs))) _ _ _ next (sym c.in_ok-name.ensures ∙ c.in-Some.is) c.loop-value.invariant)

pub returns-in-None : goal.returns-in-None
returns-in-None c =
    let vs = c.args.values.now in
    let i = c.loop-value.value-index in
    let next = ap texts_in (next_seen view vs i c.value-item.result c.loop-value-test.true c.value-item.is) in
    fails name_of c.loop-value.names (text_in (view c.value-item.result)) (texts_in (map view (drop (i + 1) vs))) _ _ next (sym c.in_ok-name.ensures ∙ c.in-None.is) c.loop-value.invariant

pub returns : goal.returns
returns c =
    let left = drop c.loop-value.value-index c.args.values.now in
    done name_of c.loop-value.names (texts_in (map view left)) _
    (omega (arith, length-map (map view left) text_in, length-map left view, length-drop c.loop-value.value-index c.args.values.now)) c.loop-value.invariant
