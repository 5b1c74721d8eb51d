use Rattle.fb_types.proofs.Common.{◌≡◌, ◌+◌, ◌++◌, [], ◌∷◌, map, take, sym, ap, ◌∙◌, arith, map_push, take_more}
use Rattle.fb_sim.proofs.rounds.merge_text.slices.Goals as goal

pub push_reserved-requires : goal.push_reserved-requires
push_reserved-requires c =
    let inv = c.loop-list.invariant in
    let within = c.loop-list-test.true in
    omega (arith, inv.len, inv.room, within)

pub loop-list-preserved : goal.loop-list-preserved
loop-list-preserved c =
    let xs = c.args.lists.now in
    let i = c.loop-list.list-index in
    let v = c.list-item.result in
    let more : take (i + 1) xs ≡ take i xs ++ v ∷ [] = take_more xs i v c.loop-list-test.true ∙ ap (λ z. take i xs ++ z ∷ []) (sym c.list-item.is) in
    let inv = c.loop-list.invariant in
    let one = c.push_reserved.ensures in
    record {
      all = ap (map (λ q. q.now)) one.items ∙ map_push (λ q. q.now) c.loop-list.slices.items c.as_slice.result
          ∙ ap (λ z. map (λ q. q.now) c.loop-list.slices.items ++ z ∷ []) c.as_slice.ensures.value
          ∙ ap (λ z. z ++ v.items ∷ []) inv.all
          ∙ sym (map_push (λ v. v.items) (take i xs) v) ∙ sym (ap (map (λ v. v.items)) more);
      len = omega (arith, inv.len, one.len);
      room = omega (arith, inv.room, one.capacity);
    }
