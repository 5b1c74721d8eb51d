use Rattle.fb_types.proofs.Common.{ℕ, List, ◌++◌, get_or, sym, ap, ◌∙◌, arith, take_all}
use Rattle.fb_expect.specs.Reports.{escape_bytes, escape_byte}
use Rattle.fb_expect.proofs.lemmas.texts.JoinedTexts.{byte-more}
use Rattle.fb_expect.proofs.tap.escape_bytes.Goals as goal

pub loop-byte-preserved : goal.loop-byte-preserved
loop-byte-preserved c =
    c.in_ok-put_escaped.ensures ∙ ap (λ (t : List ℕ). t ++ escape_byte c.args.mark (get_or c.args.part.now c.loop-byte.byte-index 0)) c.loop-byte.invariant
    ∙ sym (byte-more c.args.mark c.args.part.now c.loop-byte.byte-index 0 c.loop-byte-test.true)

pub returns : goal.returns
returns c = c.loop-byte.invariant ∙ ap (escape_bytes c.args.mark) (take_all c.loop-byte.byte-index c.args.part.now (omega (arith, c.loop-byte-test.false)))
