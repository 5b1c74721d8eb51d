use Rattle.fb_types.proofs.Common.{ℕ, List, ◌+◌, ◌++◌, [], ◌∷◌, get_or, map, take, sym, ap, ◌∙◌, arith, take_at_read, map-append, take_all}
use Rattle.fb_expect.specs.Written.{upper}
use Rattle.fb_expect.proofs.pattern.in_upper.Goals as goal

pub push_reserved-requires : goal.push_reserved-requires
push_reserved-requires c =
    let inv = c.loop-byte.invariant in
    let within = c.loop-byte-test.true in
    omega (arith, inv.len, inv.room, within)

pub loop-byte-preserved : goal.loop-byte-preserved
loop-byte-preserved c =
    let text = c.args.text.now in
    let i = c.loop-byte.byte-index in
    let inv = c.loop-byte.invariant in
    let one = c.push_reserved.ensures in
    record {
      all = one.items
          ∙ ap (λ (bs : List ℕ). bs ++ c.upper.result ∷ []) inv.all
          ∙ ap (λ (b : ℕ). map upper (take i text) ++ b ∷ []) c.upper.ensures
          ∙ sym (map-append upper (take i text) (get_or text i 0 ∷ []))
          ∙ ap (map upper) (sym (take_at_read text i 0 c.loop-byte-test.true).1);
      len = omega (arith, inv.len, one.len);
      room = omega (arith, inv.room, one.capacity);
    }

pub returns : goal.returns
returns c =
    let i = c.loop-byte.byte-index in
    c.loop-byte.invariant.all ∙ ap (map upper) (take_all i c.args.text.now (omega (arith, c.loop-byte-test.false)))
