use Rattle.fb_expect.specs.Reports.{comment, may_comment}
use Rattle.fb_expect.proofs.lemmas.texts.JoinedTexts.{three-put}
use Rattle.fb_expect.proofs.tap.put_comments.Goals as goal

pub returns : goal.returns
returns c =
    let r = c.args.rule.now in
    let s = c.args.sights in
    three-put c.put_comment.result c.put_may_comment.result c.put_may_comment-2.result c.and.result c.and-2.result c.args.text.now.items c.put_comment.new.text.items
    c.put_may_comment.new.text.items c.put_may_comment-2.new.text.items (comment r.first s.first) (may_comment r.second s.second) (may_comment r.third s.third) c.and.ensures
    c.and-2.ensures c.put_comment.ensures c.put_may_comment.ensures c.put_may_comment-2.ensures
