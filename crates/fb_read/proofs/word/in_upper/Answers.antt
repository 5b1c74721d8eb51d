use Rattle.fb_types.proofs.Common.{ℕ, List, ◌++◌, [], ◌∷◌, get_or, map, take, sym, ap, ◌∙◌, arith, take_at_read, map-append, take_all}
use Rattle.fb_read.specs.Words.{upper}
use Rattle.fb_read.proofs.word.in_upper.Goals as goal

pub loop-byte-preserved : goal.loop-byte-preserved
loop-byte-preserved c =
    let text = c.args.z.now in
    let i = c.loop-byte.byte-index in
    c.in_ok-push.ensures.items
    ∙ ap (λ (bs : List ℕ). bs ++ c.upper.result ∷ []) c.loop-byte.invariant
    ∙ ap (λ (b : ℕ). map upper (take i text) ++ b ∷ []) c.upper.ensures
    ∙ sym (map-append upper (take i text) (get_or text i 0 ∷ []))
    ∙ ap (map upper) (sym (take_at_read text i 0 c.loop-byte-test.true).1)

pub returns : goal.returns
returns c =
    let i = c.loop-byte.byte-index in
    c.from_vec.ensures ∙ c.loop-byte.invariant ∙ ap (map upper) (take_all i c.args.z.now (omega (arith, c.loop-byte-test.false)))
