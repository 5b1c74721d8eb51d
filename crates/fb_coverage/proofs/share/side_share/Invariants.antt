use Rattle.std.proofs.Common.{◌≡◌, [], drop}
use Rattle.fb_types.specs.OfSystem.{path_at}
use Rattle.fb_coverage.specs.Listed.{listed}
use Rattle.fb_coverage.specs.OfSystem.{is_in}
use Rattle.fb_coverage.specs.Shares.{flag_if, none_counted, with_row}
use Rattle.fb_coverage.specs.declared.group.Group.TheVariants.{Connected}
use Rattle.fb_coverage.proofs.share.side_share.Given as goal

-- with the flags of the rest, all are counted
abbrev pub invariant-loop-index : goal.invariant-loop-index
invariant-loop-index l =
    let flag = flag_if (is_in Connected l.system (path_at l.system l.instance)) l.flags in
    (with_row l.share (listed flag l.index (drop l.index l.events)) ≡ with_row none_counted (listed flag 0 l.events)) × (with_row l.share [] ≡ l.share)
