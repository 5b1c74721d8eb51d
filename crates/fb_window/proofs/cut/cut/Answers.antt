use Rattle.fb_window.proofs.lemmas.Common.{◌≡◌, ℕ, true, false, List, length, refl, sym, ◌∙◌, subst, nat_lt, Line, until, edge_of}
use Rattle.std.specs.List.Sorted.{IsPartitionPoint}
use Rattle.fb_trace.specs.Merging.{Rises, tick_of}
use Rattle.fb_window.proofs.lemmas.lines.FoundLines.{split_point, take_none, drop_none_off, take_whole, drop_whole}
use Rattle.fb_window.proofs.cut.cut.Goals as goal

-- what a count of the lines of a slice says of the list that it is of
module _ (u : ℕ) (xs ys : List Line) (same : ys ≡ xs) (n : ℕ) (point : Rises tick_of ys → IsPartitionPoint (λ x. nat_lt x.key.tick u ≡ true) (λ x. nat_lt x.key.tick u ≡ false) ys n) where
  of_list : (k : ℕ) → n ≡ k → Rises tick_of xs → IsPartitionPoint (λ x. nat_lt x.key.tick u ≡ true) (λ x. nat_lt x.key.tick u ≡ false) xs k
  of_list k e up =
      subst (λ (j : ℕ). IsPartitionPoint (λ x. nat_lt x.key.tick u ≡ true) (λ x. nat_lt x.key.tick u ≡ false) xs j) e
      (subst (λ (zs : List Line). IsPartitionPoint (λ x. nat_lt x.key.tick u ≡ true) (λ x. nat_lt x.key.tick u ≡ false) zs n) same (point (subst (Rises tick_of) (sym same) up)))

pub returns-then-count-eq0 : goal.returns-then-count-eq0
returns-then-count-eq0 c =
    let u = until (edge_of c.args.frontier.now) c.args.resource in
    let xs = c.args.lines.items in
    let same : c.deref.result.now ≡ c.args.lines.items = cc in
    split_point u 0 xs c.new.result.items xs (c.new.ensures.items ∙ sym (take_none xs)) (sym (drop_none_off xs))
    (of_list u xs c.deref.result.now same c.final_count-count.result c.final_count-count.ensures.point 0 c.if-count-eq0.true)

pub returns-then-count-len : goal.returns-then-count-len
returns-then-count-len c =
    let u = until (edge_of c.args.frontier.now) c.args.resource in
    let xs = c.args.lines.items in
    let same : c.deref.result.now ≡ c.args.lines.items = cc in
    split_point u (length xs) xs xs c.new-then-count-len.result.items (sym (take_whole xs)) (c.new-then-count-len.ensures.items ∙ sym (drop_whole xs))
    (of_list u xs c.deref.result.now same c.final_count-count.result c.final_count-count.ensures.point (length xs) (c.if-count-len.true ∙ c.len.ensures ∙ c.args.lines.ok.0))

pub returns : goal.returns
returns c =
    let u = until (edge_of c.args.frontier.now) c.args.resource in
    let xs = c.args.lines.items in
    let n = c.final_count-count.result in
    let same : c.deref.result.now ≡ c.args.lines.items = cc in
    split_point u n xs c.split_off.new.self.items c.in_ok-rest.rest.items c.in_ok-rest.ensures.items c.in_ok-rest.ensures.tail
    (of_list u xs c.deref.result.now same n c.final_count-count.ensures.point n refl)
