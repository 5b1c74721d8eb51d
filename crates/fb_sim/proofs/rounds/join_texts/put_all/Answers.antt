use Rattle.fb_types.proofs.Common.{◌+◌, ◌<◌, [], get_or, length, set, sym, ◌∙◌, subst, arith, length-set}
use Rattle.fb_sim.specs.JoinedTexts.{IsRest}
use Rattle.fb_sim.proofs.lemmas.text.Cutting.{ArePutTo, all_are_put, is_rest, more_put, zip_length}
use Rattle.fb_sim.proofs.rounds.join_texts.put_all.Goals as goal

pub loop-index-preserved : goal.loop-index-preserved
loop-index-preserved c =
    let k = c.loop-index.index in
    let rests = c.loop-index.rests.items in
    let counted = c.loop-index.invariant.counted in
    let end = c.len-index-end.ensures in
    let ok = c.args.rests.now.ok.0 in
    let test = c.loop-index-test.true in
    record {
      counted = length-set rests k c.put.new.rest ∙ counted;
      put = λ i form lists h.
          let long = zip_length (IsRest i form) lists c.args.rests.now.items h in
          let within : k < length lists = omega (arith, long, end, ok, test) in
          let it = c.loop-index.invariant.put i form lists h in
          let was = is_rest i form c.args.tick lists c.args.text.now.items k c.loop-index.text.items rests c.loop-index.next it within c.index_mut.result.now c.index_mut.ensures.value in
          subst (λ z. ArePutTo i form c.args.tick lists c.args.text.now.items (k + 1) c.put.new.text.items (set rests k c.put.new.rest) z) (sym c.lesser-next.ensures)
          (more_put i form c.args.tick lists c.args.text.now.items k c.loop-index.text.items rests c.loop-index.next it within c.put.new.text.items c.put.new.rest c.in_ok-first.first
          (c.in_ok-first.ensures i form (get_or lists k []) was));
    }

pub returns : goal.returns
returns c = λ i form lists h.
    let long = zip_length (IsRest i form) lists c.args.rests.now.items h in
    let end = c.len-index-end.ensures in
    let ok = c.args.rests.now.ok.0 in
    let test = c.loop-index-test.false in
    let it = c.loop-index.invariant.put i form lists h in
    all_are_put i form c.args.tick lists c.args.text.now.items c.loop-index.index c.loop-index.text.items c.loop-index.rests.items c.loop-index.next it (omega (arith, long, end, ok, test))
