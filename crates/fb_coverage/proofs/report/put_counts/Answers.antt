use Rattle.std.proofs.Common.{codes}
use Rattle.fb_coverage.specs.Shares.{share_text}
use Rattle.fb_coverage.proofs.lemmas.Listed.{put_six}
use Rattle.fb_coverage.proofs.report.put_counts.Goals as goal

pub returns : goal.returns
returns c =
    let s = c.args.shares.now in
    put_six c.extend_from_slice.result c.args.text.now.items (share_text (codes "states ") s.states) (share_text (codes ", transitions ") s.transitions)
    (share_text (codes ", algorithms ") s.algorithms) (share_text (codes ", events ") s.events) (share_text (codes ", ports ") s.ports) (codes "\n")
    c.put_share.new.text.items c.put_share-2.new.text.items c.put_share-3.new.text.items c.put_share-4.new.text.items c.put_share-5.new.text.items c.extend_from_slice.new.self.items
    c.in_ok-put_share.ensures c.in_ok-put_share-2.ensures c.in_ok-put_share-3.ensures c.in_ok-put_share-4.ensures c.in_ok-put_share-5.ensures c.extend_from_slice.ensures.items
