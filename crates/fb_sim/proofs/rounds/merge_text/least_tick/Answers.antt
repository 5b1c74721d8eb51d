use Rattle.fb_types.proofs.Common.{◌≡◌, ◌+◌, ◌++◌, [], ◌∷◌, map, take, sym, ap, ◌∙◌, subst, map_push, take_more}
use Rattle.fb_trace.specs.Fronts.{IsLeast, lesser}
use Rattle.fb_trace.proofs.lemmas.order.EarlyLines.{least_more}
use Rattle.fb_sim.proofs.rounds.merge_text.least_tick.Goals as goal

pub loop-list-preserved : goal.loop-list-preserved
loop-list-preserved c =
    let xs = c.args.lists.now in
    let i = c.loop-list.list-index in
    let q = c.list-item.result in
    let more : take (i + 1) xs ≡ take i xs ++ q ∷ [] = take_more xs i q c.loop-list-test.true ∙ ap (λ z. take i xs ++ z ∷ []) (sym c.list-item.is) in
    let lists = ap (map (λ z. z.now)) more ∙ map_push (λ z. z.now) (take i xs) q in
    let least = c.lesser-least.ensures ∙ ap (lesser c.loop-list.least) c.first_tick.ensures in
    subst (λ z. IsLeast z c.lesser-least.result) (sym lists) (subst (IsLeast (map (λ z. z.now) (take i xs) ++ q.now ∷ [])) (sym least) (least_more (map (λ z. z.now) (take i xs)) q.now c.loop-list.least c.loop-list.invariant))
