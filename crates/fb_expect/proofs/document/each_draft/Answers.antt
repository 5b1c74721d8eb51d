use Rattle.fb_expect.proofs.lemmas.Common.{◌≡◌, ◌+◌, List, [], ◌∷◌, map, drop, sym, ap, ◌∙◌, subst, arith, length-map, length-drop, map-append, text_of, each}
use Rattle.toml.specs.View.{view}
use Rattle.fb_expect.specs.Drafts.{RuleText, rule_text}
use Rattle.fb_expect.proofs.lemmas.documents.EachMayFail.{done, fails, front_none, more, next_seen, with_front}
use Rattle.fb_expect.proofs.document.each_draft.Goals as goal

pub loop-value-init : goal.loop-value-init
loop-value-init c = record {
  found =
      front_none (each rule_text (map view c.args.values.now))
      ∙ ap (λ (ds : List RuleText). with_front ds (each rule_text (map view c.args.values.now))) (ap (map text_of) (sym c.in_ok-drafts.ensures.items));
  len = c.in_ok-drafts.ensures.len;
  room = c.in_ok-drafts.ensures.capacity;
}

pub push_reserved-requires : goal.push_reserved-requires
push_reserved-requires c =
    let inv = c.loop-value.invariant in
    let within = c.loop-value-test.true in
    omega (arith, inv.len, inv.room, within)

pub loop-value-preserved : goal.loop-value-preserved
loop-value-preserved c =
    let vs = c.args.values.now in
    let i = c.loop-value.value-index in
    let next = next_seen view vs i c.value-item.result c.loop-value-test.true c.value-item.is in
    let inv = c.loop-value.invariant in
    let one = c.push_reserved.ensures in
    let grown = ap (map text_of) one.items ∙ map-append text_of c.loop-value.drafts.items (c.in-Some.draft ∷ []) in
    record {
      found = subst (λ (ds : List RuleText). each rule_text (map view vs) ≡ with_front ds (each rule_text (map view (drop (i + 1) vs)))) (sym grown)
          (more rule_text (map text_of c.loop-value.drafts.items) (view c.value-item.result) (map view (drop (i + 1) vs)) _ _ _ next (sym c.in-Some.ensures) inv.found);
      len = omega (arith, inv.len, one.len);
      room = omega (arith, inv.room, one.capacity);
    }

pub returns-in-None : goal.returns-in-None
returns-in-None c =
    let vs = c.args.values.now in
    let i = c.loop-value.value-index in
    let next = next_seen view vs i c.value-item.result c.loop-value-test.true c.value-item.is in
    fails rule_text (map text_of c.loop-value.drafts.items) (view c.value-item.result) (map view (drop (i + 1) vs)) _ _ next (sym c.in-None.ensures) c.loop-value.invariant.found

pub returns : goal.returns
returns c =
    done rule_text (map text_of c.loop-value.drafts.items) (map view (drop c.loop-value.value-index c.args.values.now)) _
    (omega (arith, length-map (drop c.loop-value.value-index c.args.values.now) view, length-drop c.loop-value.value-index c.args.values.now)) c.loop-value.invariant.found
