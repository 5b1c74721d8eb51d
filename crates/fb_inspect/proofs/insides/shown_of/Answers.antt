use Rattle.fb_types.proofs.Common.{ℕ, Bool, system_of, path_at}
use Rattle.fb_inspect.specs.Selections.{is_kept}
use Rattle.fb_inspect.proofs.lemmas.walk.Opened.{counted_more, shown_more}
use Rattle.fb_inspect.proofs.insides.shown_of.Goals as goal

pub loop-index-preserved : goal.loop-index-preserved
loop-index-preserved c =
    let sys = system_of c.args.system.now in
    let F : ℕ → Bool = λ k. is_kept c.args.only.now (path_at sys k) in
    let pushed = c.in_ok-push.ensures.items in
    record {
      counted = counted_more _ _ _ _ c.loop-index.invariant.counted pushed;
      shown = shown_more F _ _ _ _ c.loop-index.invariant.counted c.loop-index.invariant.shown (c.is_shown.ensures (path_at sys c.loop-index.index) c.path-path.ensures) pushed;
    }
