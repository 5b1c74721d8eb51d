use Rattle.std.proofs.Common.{ap, subst, sym, ◌∙◌}
use Rattle.fb_window.specs.Settling.{IsMerged, Settles, lists_of, settled_of}
use Rattle.fb_window.specs.declared.cores.Settled.{Settled}
use Rattle.fb_window.proofs.lemmas.lines.FoundLines.{made_ok}
use Rattle.fb_window.proofs.cores.Away.settle.Goals as goal

pub returns : goal.returns
returns c = λ xs bounds es workers left sc at legal.
    let a = c.args.self in
    let merged : IsMerged c.in_ok-reach.finals.items c.in_ok-kept.lines.items = record {
      merged = made_ok _ c.merge.result c.in_ok-kept.lines c.in_ok-kept.ensures.made c.merge.ensures.merged;
      moved = made_ok _ c.merge.result c.in_ok-kept.lines c.in_ok-kept.ensures.made c.merge.ensures.kept;
    } in
    subst (λ (s : Settled). Settles a.system a.steps a.horizon es bounds (lists_of a.pending.items) workers s) (sym (c.settled.ensures ∙ ap (λ x. settled_of x c.in_ok-kept.lines) c.in_ok-kept.ensures.kept))
    (c.in_ok-reach.ensures.settles c.in_ok-kept.lines merged xs bounds es workers left sc at legal)
