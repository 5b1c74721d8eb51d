use Rattle.fb_types.proofs.Common.{◌≡◌, ◌+◌, ◌++◌, List, [], ◌∷◌, length, map, take, sym, ap, ◌∙◌, Bor, append_assoc, arith, eqb-true, eqb-false, map_push, nil_from_length, take_more}
use Rattle.fb_types.specs.declared.run.Line.{Line}
use Rattle.fb_trace.specs.Fronts.{all_early, all_late, early, joint, late}
use Rattle.fb_trace.proofs.lemmas.order.EarlyLines.{early_more, late_kept, late_passed}
use Rattle.fb_sim.proofs.rounds.merge_text.take_early.Goals as goal
use Rattle.fb_sim.proofs.rounds.merge_text.take_early.Goals.{then-not-is_empty, else-not-is_empty}

pub push_reserved-requires : goal.push_reserved-requires
push_reserved-requires c =
    let inv = c.loop-list.invariant in
    let within = c.loop-list-test.true in
    omega (arith, inv.len, inv.room, within)

pub loop-list-preserved : goal.loop-list-preserved
loop-list-preserved c =
    let t = c.args.tick in
    let xs = c.args.lists.now in
    let i = c.loop-list.list-index in
    let q = c.list-item.result in
    let done = map (λ (z : Bor (List Line)). z.now) (take i xs) in
    let more : take (i + 1) xs ≡ take i xs ++ q ∷ [] = take_more xs i q c.loop-list-test.true ∙ ap (λ z. take i xs ++ z ∷ []) (sym c.list-item.is) in
    let lists : map (λ z. z.now) (take (i + 1) xs) ≡ done ++ q.now ∷ [] = ap (map (λ z. z.now)) more ∙ map_push (λ z. z.now) (take i xs) q in
    let left = map (λ (z : Bor (List Line)). z.now) c.loop-list.left.items in
    let later : c.split_at.result.1.now ≡ late t q.now = c.split_at.ensures.back ∙ c.early_count.ensures.late in
    let now : c.split_at.result.0.now ≡ early t q.now = c.split_at.ensures.front ∙ c.early_count.ensures.early in
    let old = joint (map (λ (z : Bor (List Line)). z.now) c.args.parts.now.items) in
    let parts =
    c.in_ok-add.ensures ∙ ap (λ z. z ++ c.split_at.result.0.now) c.loop-list.invariant.parts ∙ append_assoc old (all_early t done) c.split_at.result.0.now
    ∙ ap (λ z. old ++ (all_early t done ++ z)) now ∙ ap (λ z. old ++ z) (sym (early_more t done q.now) ∙ ap (all_early t) (sym lists)) in
    elim c.if-not-is_empty.branch [
      | then-not-is_empty w ↦
          let some = λ (e : late t q.now ≡ []). eqb-false (length c.split_at.result.1.now) 0 (sym c.is_empty.ensures ∙ w.if-not-is_empty.true) (ap length (later ∙ e)) in
          rw w.left-is (record {
            parts = parts;
            left = ap (map (λ z. z.now)) w.push_reserved.ensures.items ∙ map_push (λ z. z.now) c.loop-list.left.items c.split_at.result.1 ∙ ap (λ z. left ++ z ∷ []) later
                ∙ late_kept t done q.now left c.loop-list.invariant.left some ∙ ap (all_late t) (sym lists);
            len = omega (arith, c.loop-list.invariant.len, w.push_reserved.ensures.len);
            room = omega (arith, c.loop-list.invariant.room, w.push_reserved.ensures.capacity);
          })
      | else-not-is_empty w ↦
          let none : late t q.now ≡ [] = sym later ∙ nil_from_length c.split_at.result.1.now (eqb-true (length c.split_at.result.1.now) 0 (sym c.is_empty.ensures ∙ w.if-not-is_empty.false)) in
          rw w.left-is (record {
            parts = parts;
            left = late_passed t done q.now left c.loop-list.invariant.left none ∙ ap (all_late t) (sym lists);
            len = omega (arith, c.loop-list.invariant.len);
            room = c.loop-list.invariant.room;
          })
    ]
