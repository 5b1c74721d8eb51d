use Rattle.fb_types.proofs.Common.{◌≡◌, ◌+◌, ◌<◌, ◌⊎◌, Some, inl, inr, refl, sym, ap, ◌∙◌, subst, arith, is_some, slice_get, slice_get_read}
use Rattle.fb_window.specs.Frontiers.{IsFrontierTo, edge_of, floor_at}
use Rattle.fb_window.specs.declared.frontier.Frontier.{Frontier}
use Rattle.fb_window.proofs.lemmas.lines.FoundLines.{frontier_new, frontier_old}
use Rattle.fb_window.proofs.frontier.frontier_of.Goals as goal
use Rattle.fb_window.proofs.frontier.frontier_of.Goals.{then-index-eq0, then-index-eq0-via-then-index-eq0, then-index-eq0-via-else-index-eq0+then-tick-at, else-index-eq0+else-tick-at}

pub loop-index-preserved : goal.loop-index-preserved
loop-index-preserved c =
    let xs = c.args.resources.now in
    let m = c.args.least in
    let n = c.loop-index.index in
    let x = c.index-resources-index.result in
    let old = edge_of c.loop-index.at in
    let at : slice_get xs n ≡ Some x = slice_get_read xs _ n x refl c.loop-index-test.true c.index-resources-index.is in
    let tick : c.floor-tick.result ≡ floor_at m x = c.floor-tick.ensures in
    elim c.if-index-eq0.branch [
      | then-index-eq0 w ↦
          let less : (n ≡ 0) ⊎ (floor_at m x < old.tick) =
          elim w.then-index-eq0.branch [
            | then-index-eq0-via-then-index-eq0 v ↦ inl v.if-index-eq0.true
            | then-index-eq0-via-else-index-eq0+then-tick-at v ↦ inr (omega (arith, tick, v.if-tick-at.true))
          ] in
          subst (λ (f : Frontier). IsFrontierTo m xs (n + 1) (edge_of f)) (sym w.at-is)
          (frontier_new m xs n old (record { tick = c.floor-tick.result; resource = n; within = w.is_some.result }) x at c.loop-index.invariant less tick refl (w.is_some.ensures ∙ ap is_some w.stopped.ensures))
      | else-index-eq0+else-tick-at w ↦
          subst (λ (f : Frontier). IsFrontierTo m xs (n + 1) (edge_of f)) (sym w.at-is)
          (frontier_old m xs n old x at c.loop-index.invariant (omega (arith, w.if-index-eq0.false)) (omega (arith, tick, w.if-tick-at.false)))
    ]
