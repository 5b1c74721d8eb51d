use Rattle.fb_types.proofs.Common.{List, ℕ, arith, subst, Appends, take_all}
use Rattle.fb_sim.proofs.rounds.make_text.write_text.Goals as goal

pub returns-then-count-text-clause-part : goal.returns-then-count-text-clause-part
returns-then-count-text-clause-part g c =
    let less = c.if-count-text.true in
    let within = c.write_front-count.ensures.within in
    record {
      count = c.write_front-count.result;
      short = omega (arith, less);
      got = c.write_front-count.ensures.got;
      counted = omega (arith, within);
    }

pub returns-clause-whole : goal.returns-clause-whole
returns-clause-whole g c =
    let more = c.if-count-text.false in
    let within = c.write_front-count.ensures.within in
    let old = g.W.Write.contents c.args.out.now in
    let new = g.W.Write.contents c.write_front-count.new.out in (
      subst (λ (t : List ℕ). Appends old new t) (take_all c.write_front-count.result c.args.text.now (omega (arith, more))) c.write_front-count.ensures.got,
      omega (arith, more, within),
    )
