use Rattle.fb_sim.proofs.lemmas.Common.{◌≡◌, ◌+◌, ◌++◌, [], ◌∷◌, length, take, sym, ap, ◌∙◌, arith, length-append, take_more, flat}
use Rattle.fb_trace.proofs.lemmas.order.StableSort.{flat_snoc}
use Rattle.fb_sim.proofs.rounds.unwritten_lines.count_in.Goals as goal

pub loop-list-preserved : goal.loop-list-preserved
loop-list-preserved c =
    let xs = c.args.lists.now in
    let i = c.loop-list.list-index in
    let v = c.list-item.result in
    let more : take (i + 1) xs ≡ take i xs ++ v ∷ [] = take_more xs i v c.loop-list-test.true ∙ ap (λ z. take i xs ++ z ∷ []) (sym c.list-item.is) in
    let long : length (flat (take (i + 1) xs)) ≡ length (flat (take i xs)) + length v.items =
    ap (λ z. length (flat z)) more ∙ ap length (flat_snoc (take i xs) v) ∙ length-append (flat (take i xs)) v.items in
    let inv = c.loop-list.invariant in
    let here = inv.count in
    let low = inv.least in
    let ok = v.ok.0 in
    record { count = λ less. search (arith, long, ok, here); least = search (arith, long, ok, low) }
