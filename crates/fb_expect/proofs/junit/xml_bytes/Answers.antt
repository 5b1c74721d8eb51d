use Rattle.fb_types.proofs.Common.{List, ℕ, ◌++◌, append-nil, sym, ap, ◌∙◌, arith, drop_all}
use Rattle.fb_expect.specs.Suites.{xml_bytes}
use Rattle.fb_expect.proofs.lemmas.documents.Suiting.{byte-put}
use Rattle.fb_expect.proofs.junit.xml_bytes.Goals as goal

pub loop-byte-init : goal.loop-byte-init
loop-byte-init c = ap (λ (t : List ℕ). t ++ xml_bytes c.args.part.now) c.in_ok-text.ensures.items

pub loop-byte-preserved : goal.loop-byte-preserved
loop-byte-preserved c =
    byte-put c.args.part.now c.loop-byte.text.items _ c.loop-byte.byte-index c.loop-byte-test.true c.in_ok-put_xml_byte.ensures ∙ c.loop-byte.invariant

pub returns : goal.returns
returns c =
    sym (append-nil c.loop-byte.text.items)
    ∙ ap (λ (z : List ℕ). c.loop-byte.text.items ++ xml_bytes z) (sym (drop_all c.loop-byte.byte-index c.args.part.now (omega (arith, c.loop-byte-test.false))))
    ∙ c.loop-byte.invariant
