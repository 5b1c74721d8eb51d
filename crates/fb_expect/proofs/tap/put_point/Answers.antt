use Rattle.std.proofs.Common.{Bool, ap, ◌∙◌}
use Rattle.fb_expect.specs.Reports.{comments, facts, head, is_stopped, is_well, point, tail}
use Rattle.fb_expect.proofs.lemmas.texts.JoinedTexts.{point-put}
use Rattle.fb_expect.proofs.tap.put_point.Goals as goal

pub returns : goal.returns
unfolding point
returns c =
    let a = c.args in
    let j = a.judged.now in
    let h = head (is_well a.is_strict j) a.number a.rule.now a.of in
    let t = tail a.is_strict a.of.trace.now j.verdict j.decided (is_stopped j.end) in
    point-put c.put_facts.result c.put_comments.result c.and.result a.text.now.items c.put_all.new.text.items c.put_facts.new.text.items c.put_comments.new.text.items h t
    (facts a.rule.now.need j) (comments a.rule.now j.sights) c.as_slice.result.now c.as_slice-2.result.now
    (c.as_slice.ensures.value ∙ c.in_ok-head.ensures ∙ ap (λ (b : Bool). head b a.number a.rule.now a.of) c.is_well.ensures)
    (c.as_slice-2.ensures.value ∙ c.in_ok-tail.ensures) c.in_ok-put_all.ensures c.and.ensures c.put_facts.ensures c.put_comments.ensures
