use Rattle.fb_read.proofs.lemmas.Common.{◌≡◌, drop, at, skip, start}
use Rattle.fb_read.proofs.lemmas.tokens.Comments.{InComment}
use Rattle.fb_read.proofs.blank.open_comment.Given as goal

abbrev pub invariant-loop-i : goal.invariant-loop-i
invariant-loop-i l = record {
  walked : skip l.state (drop l.i l.bytes) ≡ skip start l.bytes;
  since : skip l.state (drop l.i l.bytes) ≡ skip start (drop l.before l.bytes);
  there : InComment l.state → at l.bytes l.before ≡ 40;
}
