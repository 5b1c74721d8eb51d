use Rattle.fb_sim.proofs.lemmas.Common.{◌≡◌, ℕ, ◌+◌, ◌<◌, ◌≤◌, ◌++◌, List, [], ◌∷◌, length, map, take, sym, ap, ◌∙◌, Bor, subst, arith, length-map, map_push, take_all, take_more, Each, Line, Rises, tick_of}
use Rattle.fb_sim.specs.MergedText.{AreCut, until}
use Rattle.fb_sim.proofs.lemmas.text.MergedText.{cut_counted, cut_more}
use Rattle.fb_sim.proofs.rounds.merge_text.divide.Goals as goal

pub push_reserved-requires : goal.push_reserved-requires
push_reserved-requires c =
    let inv = c.loop-list.invariant in
    let within = c.loop-list-test.true in
    omega (arith, inv.firsts_len, inv.firsts_room, within)

pub push_reserved-requires-in-loop-list : goal.push_reserved-requires-in-loop-list
push_reserved-requires-in-loop-list c =
    let inv = c.loop-list.invariant in
    let within = c.loop-list-test.true in
    omega (arith, inv.lasts_len, inv.lasts_room, within)

pub loop-list-preserved : goal.loop-list-preserved
loop-list-preserved c =
    let inv = c.loop-list.invariant in
    let one = c.push_reserved.ensures in
    let other = c.push_reserved-in-loop-list.ensures in
    let xs = c.args.lists.now in
    let p = c.cut_at-cut.result in
    let i = c.loop-list.list-index in
    let q = c.list-item.result in
    let done = map (λ (z : Bor (List Line)). z.now) (take i xs) in
    let firsts = map (λ (z : Bor (List Line)). z.now) c.loop-list.firsts.items in
    let lasts = map (λ (z : Bor (List Line)). z.now) c.loop-list.lasts.items in
    let more : take (i + 1) xs ≡ take i xs ++ q ∷ [] = take_more xs i q c.loop-list-test.true ∙ ap (λ z. take i xs ++ z ∷ []) (sym c.list-item.is) in
    let lists : map (λ z. z.now) (take (i + 1) xs) ≡ done ++ q.now ∷ [] = ap (map (λ z. z.now)) more ∙ map_push (λ z. z.now) (take i xs) q in
    let front : map (λ z. z.now) c.push_reserved.new.self.items ≡ firsts ++ c.split_at.result.0.now ∷ [] = ap (map (λ z. z.now)) one.items ∙ map_push (λ z. z.now) c.loop-list.firsts.items c.split_at.result.0 in
    let back : map (λ z. z.now) c.push_reserved-in-loop-list.new.self.items ≡ lasts ++ c.split_at.result.1.now ∷ [] = ap (map (λ z. z.now)) other.items ∙ map_push (λ z. z.now) c.loop-list.lasts.items c.split_at.result.1 in
    let long : c.len.result ≡ 0 + length done = c.len.ensures ∙ c.loop-list.firsts.ok.0 ∙ cut_counted p 0 done firsts lasts c.loop-list.firsts.items inv.cut (sym (length-map c.loop-list.firsts.items (λ (z : Bor (List Line)). z.now))) in
    let at : Rises tick_of q.now → Each (λ x. tick_of x < until p (0 + length done)) c.split_at.result.0.now × Each (λ x. until p (0 + length done) ≤ tick_of x) c.split_at.result.1.now =
    λ up. (
      subst (λ (k : ℕ). Each (λ x. tick_of x < until p k) c.split_at.result.0.now) long (subst (Each (λ x. tick_of x < until p c.len.result)) (sym c.split_at.ensures.front) (c.count_before-count.ensures.before up)),
      subst (λ (k : ℕ). Each (λ x. until p k ≤ tick_of x) c.split_at.result.1.now) long (subst (Each (λ x. until p c.len.result ≤ tick_of x)) (sym c.split_at.ensures.back) (c.count_before-count.ensures.from up)),
    ) in
    record {
      cut = subst (λ z. AreCut p 0 z (map (λ y. y.now) c.push_reserved.new.self.items) (map (λ y. y.now) c.push_reserved-in-loop-list.new.self.items)) (sym lists)
          (subst (λ z. AreCut p 0 (done ++ q.now ∷ []) z (map (λ y. y.now) c.push_reserved-in-loop-list.new.self.items)) (sym front)
          (subst (λ z. AreCut p 0 (done ++ q.now ∷ []) (firsts ++ c.split_at.result.0.now ∷ []) z) (sym back)
          (cut_more p 0 done firsts lasts q.now c.split_at.result.0.now c.split_at.result.1.now inv.cut c.split_at.ensures.by_index.0 at)));
      firsts_len = omega (arith, inv.firsts_len, one.len);
      firsts_room = omega (arith, inv.firsts_room, one.capacity);
      lasts_len = omega (arith, inv.lasts_len, other.len);
      lasts_room = omega (arith, inv.lasts_room, other.capacity);
    }

pub returns : goal.returns
returns c =
    let xs = c.args.lists.now in
    let all : take c.loop-list.list-index xs ≡ xs = take_all c.loop-list.list-index xs (let f = c.loop-list-test.false in omega (arith, f)) in (
      c.cut_at-cut.result,
      subst (λ (qs : List (Bor (List Line))). AreCut c.cut_at-cut.result 0 (map (λ q. q.now) qs) (map (λ q. q.now) c.loop-list.firsts.items) (map (λ q. q.now) c.loop-list.lasts.items)) all c.loop-list.invariant.cut,
    )
